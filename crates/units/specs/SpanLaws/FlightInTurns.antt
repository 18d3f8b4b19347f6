-- What is in flight where the cores stand at one cycle and the channels at another.
--     flight_of s traces a b      what is in flight where the cores stand at cycle a, and the channels at cycle b
--     is_request m      a message that goes to a channel
--     left_by_channels until mail, left_by_cores until mail      what is left when one kind has taken what arrives
--     FlightsMeet s traces now      where all units stand at one cycle, flight_of is what is in flight in the run
--     HoldChannelInboxes, HoldCoreInboxes s traces a b until      what is due at a unit is what arrives in the run
--     ChannelsTakeTheirs, CoresTakeTheirs s traces a b until      what is left when the units have taken what is due
--     LaterStays s from until      what is due later is still there when what is due in a span was taken out
--     ChannelsGoFurther, CoresGoFurther s traces a b until      what is in flight once one of the kinds has gone on
--     ChannelsGoFurtherFor, CoresGoFurtherFor      what is then in flight and passes a test, as what goes to some units
use Rattle.std.specs.Prelude.{◌≡◌, ℕ, ◌+◌, ◌%◌, ◌==◌, ◌<◌, ◌≤◌, nat_lt, nat_le, Bool, false, not, ◌&&◌, List, [], ◌++◌, filter, fold, flat_map}
use Rattle.sim_base.specs.declared.config.Config.{Config}
use Rattle.sim_base.specs.Counts.{in_flight}
use Rattle.sim_base.specs.History.{below, messages_of_core, messages_of_channel, insert_by_age, by_age}
use Rattle.sim_base.specs.Machine.{run}
use Rattle.sim_base.specs.declared.message.Message.{Message}
use Rattle.sim_base.specs.declared.message.Unit.{Unit as MachineUnit}
use Rattle.sim_base.specs.declared.message.Unit.TheVariants.{Core, Channel}
use Rattle.sim_base.specs.declared.trace.Entry.{Entry}
use Rattle.links.specs.InFlight.{is_due}
use Rattle.units.specs.SpanLaws.Flight.{has_unit, left_after}
use Rattle.units.specs.SpanLaws.Mail.{mail_in}
use Rattle.units.specs.SpanLaws.Sent.{requests_sent, answers_sent, RequestsTravelFor, AnswersTakeFor}

-- What is in flight where the cores stand at cycle a and the channels at cycle b: what the cores sent before a and
-- has not arrived at a channel before b, with what the channels sent before b and has not arrived at a core before a,
-- by age.
abbrev pub flight_of : Config → List (List Entry) → ℕ → ℕ → List Message
flight_of s traces a b =
    by_age
    (filter (λ m. nat_le b m.arrival) (requests_sent s traces a)
    ++ filter (λ m. nat_le a m.arrival) (answers_sent s traces b))

-- a message that goes to a channel: the others go to cores
abbrev pub is_request : Message → Bool
is_request m = m.link % 3 == 0

-- what is left when the channels have taken what arrives at them before a cycle
abbrev pub left_by_channels : ℕ → List Message → List Message
left_by_channels until mail = filter (λ m. not (is_request m && nat_lt m.arrival until)) mail

-- what is left when the cores have taken what arrives at them before a cycle
abbrev pub left_by_cores : ℕ → List Message → List Message
left_by_cores until mail = filter (λ m. not (not (is_request m) && nat_lt m.arrival until)) mail

-- where cores and channels stand at one cycle, what is in flight between them is what is in flight in the run
abbrev pub FlightsMeet : Config → List (List Entry) → ℕ → Type 0
FlightsMeet s traces now = flight_of s traces now now ≡ in_flight s traces (run s traces now)

-- of what is in flight, what is due at a channel up to the cores' cycle plus the least latency of requests is what
-- arrives at the channel in the run, even after what is due at other units was taken out
abbrev pub HoldChannelInboxes : Config → List (List Entry) → ℕ → ℕ → ℕ → Type 0
HoldChannelInboxes s traces a b until =
    (units : List MachineUnit) (least channel : ℕ) → has_unit units (Channel channel) ≡ false
    → RequestsTravelFor s least → until ≤ a + least
    → filter (is_due s.channels (Channel channel) b until)
    (left_after s.channels b until units (flight_of s traces a b))
    ≡ mail_in s traces until (Channel channel) b until

-- of what is in flight, what is due at a core up to the channels' cycle plus the least time of a credit or a reply is
-- what arrives at the core in the run, even after what is due at other units was taken out
abbrev pub HoldCoreInboxes : Config → List (List Entry) → ℕ → ℕ → ℕ → Type 0
HoldCoreInboxes s traces a b until =
    (units : List MachineUnit) (least core : ℕ) → has_unit units (Core core) ≡ false → AnswersTakeFor s least
    → until ≤ b + least
    → filter (is_due s.channels (Core core) a until) (left_after s.channels a until units (flight_of s traces a b))
    ≡ mail_in s traces until (Core core) a until

-- Where what is due is taken out for some channels, one by one, and at the others nothing is due, what is left is
-- what all channels leave.
abbrev pub ChannelsTakeTheirs : Config → List (List Entry) → ℕ → ℕ → ℕ → Type 0
ChannelsTakeTheirs s traces a b until =
    (units : List MachineUnit) → b ≤ until → ((core : ℕ) → has_unit units (Core core) ≡ false)
    → ((channel : ℕ) → channel < s.channels → has_unit units (Channel channel) ≡ false
    → mail_in s traces a (Channel channel) b until ≡ [])
    → left_after s.channels b until units (flight_of s traces a b) ≡ left_by_channels until (flight_of s traces a b)

-- Where what is due is taken out for some cores, one by one, and at the others nothing is due, what is left is what all
-- cores leave.
abbrev pub CoresTakeTheirs : Config → List (List Entry) → ℕ → ℕ → ℕ → Type 0
CoresTakeTheirs s traces a b until =
    (units : List MachineUnit) → a ≤ until → ((channel : ℕ) → has_unit units (Channel channel) ≡ false)
    → ((core : ℕ) → core < s.cores → has_unit units (Core core) ≡ false → mail_in s traces b (Core core) a until ≡ [])
    → left_after s.channels a until units (flight_of s traces a b) ≡ left_by_cores until (flight_of s traces a b)

-- what is due at a unit after a span is still there when what is due in the span was taken out, for that unit too
abbrev pub LaterStays : Config → ℕ → ℕ → Type 0
LaterStays s from until =
    (units : List MachineUnit) (unit : MachineUnit) (word : ℕ) (ms : List Message)
    → filter (is_due s.channels unit until word) (left_after s.channels from until units ms)
    ≡ filter (is_due s.channels unit until word) ms

-- When the channels go on, what arrives at them is gone, and what they send is added. The cores are not so far that
-- what the channels send could arrive behind them.
abbrev pub ChannelsGoFurther : Config → List (List Entry) → ℕ → ℕ → ℕ → Type 0
ChannelsGoFurther s traces a b until =
    (least : ℕ) (sent : ℕ → List Message) → AnswersTakeFor s least → b ≤ until → a ≤ b + least
    → ((channel : ℕ) → channel < s.channels
    → messages_of_channel s (run s traces until) channel
    ≡ messages_of_channel s (run s traces b) channel ++ sent channel)
    → flight_of s traces a until
    ≡ fold insert_by_age (left_by_channels until (flight_of s traces a b)) (flat_map sent (below s.channels))

-- When the cores go on, what arrives at them is gone, and what they send is added. The channels are not so far that
-- what the cores send could arrive behind them.
abbrev pub CoresGoFurther : Config → List (List Entry) → ℕ → ℕ → ℕ → Type 0
CoresGoFurther s traces a b until =
    (least : ℕ) (sent : ℕ → List Message) → RequestsTravelFor s least → a ≤ until → b ≤ a + least
    → ((core : ℕ) → core < s.cores
    → messages_of_core s traces (run s traces until) core
    ≡ messages_of_core s traces (run s traces a) core ++ sent core)
    → flight_of s traces until b
    ≡ fold insert_by_age (left_by_cores until (flight_of s traces a b)) (flat_map sent (below s.cores))

-- When the channels go on, of the messages in flight that pass a test, as those to some units do, those that arrive at
-- the channels are gone, and of what the channels send only what passes the test is added.
abbrev pub ChannelsGoFurtherFor : Config → List (List Entry) → ℕ → ℕ → ℕ → Type 0
ChannelsGoFurtherFor s traces a b until =
    (p : Message → Bool) (least : ℕ) (sent : ℕ → List Message) → AnswersTakeFor s least → b ≤ until → a ≤ b + least
    → ((channel : ℕ) → channel < s.channels
    → messages_of_channel s (run s traces until) channel
    ≡ messages_of_channel s (run s traces b) channel ++ sent channel)
    → filter p (flight_of s traces a until)
    ≡ fold insert_by_age (filter p (left_by_channels until (flight_of s traces a b)))
    (filter p (flat_map sent (below s.channels)))

-- When the cores go on, of the messages in flight that pass a test, as those to some units do, those that arrive at the
-- cores are gone, and of what the cores send only what passes the test is added.
abbrev pub CoresGoFurtherFor : Config → List (List Entry) → ℕ → ℕ → ℕ → Type 0
CoresGoFurtherFor s traces a b until =
    (p : Message → Bool) (least : ℕ) (sent : ℕ → List Message) → RequestsTravelFor s least → a ≤ until → b ≤ a + least
    → ((core : ℕ) → core < s.cores
    → messages_of_core s traces (run s traces until) core
    ≡ messages_of_core s traces (run s traces a) core ++ sent core)
    → filter p (flight_of s traces until b)
    ≡ fold insert_by_age (filter p (left_by_cores until (flight_of s traces a b)))
    (filter p (flat_map sent (below s.cores)))
