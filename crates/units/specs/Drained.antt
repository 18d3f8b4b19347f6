-- The end of a run, as its units and links show it.
--     HasFinished machine now unit      a core has retired its trace, or a channel has no request left in its queue
--     AllFinished machine now      each core has retired its trace, and no channel has a request left in its queue
--     StillRuns machine from until      a run is not over before a cycle of a span
--     NotEnded machine from until      a run does not end before a cycle of a span
use Rattle.std.specs.Prelude.{◌≡◌, ℕ, ◌<◌, ◌≤◌, false, [], length}
use Rattle.sim_base.specs.Final.{queue_left}
use Rattle.sim_base.specs.History.{trace_of, retired_before}
use Rattle.sim_base.specs.declared.message.Unit.{Unit as MachineUnit}
use Rattle.sim_base.specs.declared.message.Unit.TheVariants.{Core, Channel}
use Rattle.laws.specs.Commands.{channel_steps_of}
use Rattle.units.specs.SpanLaws.Cores.{core_steps_of}
use Rattle.units.specs.SpanLaws.Mail.{mail_before}
use Rattle.units.specs.Runs.{ends_at, is_over_at}
use Rattle.units.specs.Units.{unit_at, unit_count}
use Rattle.units.specs.declared.machine.Machine.{Machine}

-- before a cycle of a run a core has retired its trace, and a channel has no request left in its queue
abbrev pub HasFinished : Machine → ℕ → MachineUnit → Type 0
HasFinished machine now (Core core) =
    let steps = core_steps_of machine.config machine.traces.items now core in
    retired_before steps ≡ length (trace_of machine.traces.items core)
HasFinished machine now (Channel channel) =
    let steps = channel_steps_of machine.config machine.traces.items now channel in
    let arrived = mail_before machine.config machine.traces.items now (Channel channel) now in
    queue_left channel steps arrived ≡ []

-- before a cycle of a run each core has retired its trace, and no channel has a request left in its queue
abbrev pub AllFinished : Machine → ℕ → Type 0
AllFinished machine now =
    (place : ℕ) → place < unit_count machine.config → HasFinished machine now (unit_at machine.config place)

-- a run is not over before any cycle from `from` up to `until`
abbrev pub StillRuns : Machine → ℕ → ℕ → Type 0
StillRuns machine from until = (t : ℕ) → from ≤ t → t < until → is_over_at machine t ≡ false

-- a run does not end before any cycle from `from` up to `until`: it is not over, or it goes on up to the limit all the
-- same
abbrev pub NotEnded : Machine → ℕ → ℕ → Type 0
NotEnded machine from until = (t : ℕ) → from ≤ t → t < until → ends_at machine t ≡ false
