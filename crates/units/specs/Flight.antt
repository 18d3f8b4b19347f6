-- The messages in flight while the jobs of a phase are made, and when their results come back.
--     left s from until count mail      the messages that are left when the first `count` units have taken theirs
--     fresh machine from until place      what a unit sends in a span
--     is_at_places s first past unit      a unit stands at a place from `first` up to `past`
--     goes_among s first past m      a message goes to a unit at a place from `first` up to `past`
--     among s first past mail      the messages that go to units at places from `first` up to `past`
--     sent_by machine from until first count      what `count` units at places from `first` on send in a span
use Rattle.std.specs.Prelude.{ℕ, zero, suc, ◌+◌, nat_le, nat_lt, ◌&&◌, Bool, not, List, length, drop, filter, flat_map}
use Rattle.sim_base.specs.declared.config.Config.{Config}
use Rattle.sim_base.specs.History.{below, receiver_of}
use Rattle.sim_base.specs.declared.message.Message.{Message}
use Rattle.sim_base.specs.declared.message.Unit.{Unit as MachineUnit}
use Rattle.sim_base.specs.declared.message.Unit.TheVariants.{Core, Channel}
use Rattle.links.specs.InFlight.{is_due}
use Rattle.units.specs.Runs.{sent_at}
use Rattle.units.specs.Units.{unit_at}
use Rattle.units.specs.declared.machine.Machine.{Machine}

-- the messages that are left when each of the first `count` units has taken those that arrive at it in a span
unfoldable pub left : Config → ℕ → ℕ → ℕ → List Message → List Message
left s from until zero mail = mail
left s from until (suc count) mail =
    filter (λ m. not (is_due s.channels (unit_at s count) from until m)) (left s from until count mail)

-- what the unit at a place sends in the cycles of a run from `from` up to `until`
unfoldable pub fresh : Machine → ℕ → ℕ → ℕ → List Message
fresh machine from until place =
    let unit = unit_at machine.config place in
    drop (length (sent_at machine from unit)) (sent_at machine until unit)

-- a unit of the machine stands at a place from `first` up to, but not including, `past`
abbrev pub is_at_places : Config → ℕ → ℕ → MachineUnit → Bool
is_at_places s first past (Core core) = nat_lt core s.cores && (nat_le first core && nat_lt core past)
is_at_places s first past (Channel channel) = nat_le first (s.cores + channel) && nat_lt (s.cores + channel) past

-- a message goes to a unit at a place from `first` up to `past`
abbrev pub goes_among : Config → ℕ → ℕ → Message → Bool
goes_among s first past m = is_at_places s first past (receiver_of s.channels m.link)

-- the messages that go to units at places from `first` up to `past`
abbrev pub among : Config → ℕ → ℕ → List Message → List Message
among s first past mail = filter (goes_among s first past) mail

-- what `count` units at places from `first` on send in a span, unit by unit
abbrev pub sent_by : Machine → ℕ → ℕ → ℕ → ℕ → List Message
sent_by machine from until first count = flat_map (λ i. fresh machine from until (first + i)) (below count)
