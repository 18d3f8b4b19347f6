-- The end of a run, which may lie within a span.
--     RunsStayOver s traces from until      a run that is over stays over
--     OverIsSeen s traces now      a run is over where all is retired, nothing is in flight and no request waits
--     CyclesAreCounted s traces limit n      a run has n cycles where n is the limit or it ends before n, and no sooner
--     RetiresByWidth s traces from until      a core retires no more in a span than its width times the cycles
--     FlightStays s traces from until      a message in flight stays in flight up to its arrival
--     LastsForTrace s traces from until      a run lasts until each core can have retired its trace
--     LastsForFlight s traces from until      a run lasts until each message has arrived
use Rattle.std.specs.Prelude.{◌≡◌, ◌↔◌, ℕ, ◌+◌, ◌-◌, ◌*◌, ◌<◌, ◌≤◌, Bool, true, false, List, [], length, count_by, Any}
use Rattle.sim_base.specs.declared.config.Config.{Config}
use Rattle.sim_base.specs.Counts.{in_flight}
use Rattle.sim_base.specs.Final.{queue_left}
use Rattle.sim_base.specs.History.{trace_of, retired_before}
use Rattle.sim_base.specs.Machine.{run, is_over, cycles_run, ends_before}
use Rattle.sim_base.specs.declared.message.Message.{Message}
use Rattle.sim_base.specs.declared.message.Unit.TheVariants.{Channel}
use Rattle.sim_base.specs.declared.trace.Entry.{Entry}
use Rattle.laws.specs.Commands.{channel_steps_of}
use Rattle.units.specs.SpanLaws.Cores.{core_steps_of}
use Rattle.units.specs.SpanLaws.Mail.{mail_before}

-- a run that is over before a cycle is over before each later one: nothing retires, no request is served, and nothing
-- is sent
abbrev pub RunsStayOver : Config → List (List Entry) → ℕ → ℕ → Type 0
RunsStayOver s traces from until =
    from ≤ until → is_over s traces (run s traces from) ≡ true → is_over s traces (run s traces until) ≡ true

-- a run is over before a cycle where each core has retired its trace, nothing is in flight, and no request is left in
-- a queue
abbrev pub OverIsSeen : Config → List (List Entry) → ℕ → Type 0
OverIsSeen s traces now =
    is_over s traces (run s traces now) ≡ true
    ↔ (((core : ℕ) → core < s.cores → retired_before (core_steps_of s traces now core) ≡ length (trace_of traces core))
    × (in_flight s traces (run s traces now) ≡ [])
    × ((channel : ℕ) → channel < s.channels
    → queue_left channel (channel_steps_of s traces now channel) (mail_before s traces now (Channel channel) now)
    ≡ []))

-- Where a run does not end before the last of n cycles, and n is the limit or the run ends before cycle n, it has n
-- cycles.
abbrev pub CyclesAreCounted : Config → List (List Entry) → ℕ → ℕ → Type 0
CyclesAreCounted s traces limit n =
    n ≤ limit → ((last : ℕ) → last + 1 ≡ n → ends_before s traces last ≡ false)
    → (n < limit → ends_before s traces n ≡ true) → cycles_run s traces limit ≡ n

-- in a span a core retires no more entries than its width times the cycles of the span
abbrev pub RetiresByWidth : Config → List (List Entry) → ℕ → ℕ → Type 0
RetiresByWidth s traces from until =
    (core : ℕ) → core < s.cores → from ≤ until
    → retired_before (core_steps_of s traces until core) ≤ retired_before (core_steps_of s traces from core)
    + s.width * (until - from)

-- Of what is in flight at a cycle, all that arrives at a later one or after it is in flight there too: of any kind of
-- such messages there are then no fewer.
abbrev pub FlightStays : Config → List (List Entry) → ℕ → ℕ → Type 0
FlightStays s traces from until =
    (p : Message → Bool) → from ≤ until → ((m : Message) → p m ≡ true → until ≤ m.arrival)
    → count_by p (in_flight s traces (run s traces from)) ≤ count_by p (in_flight s traces (run s traces until))

-- a run is not over before a cycle by which a core cannot have retired its trace, even by its width in each cycle
abbrev pub LastsForTrace : Config → List (List Entry) → ℕ → ℕ → Type 0
LastsForTrace s traces from until =
    (core : ℕ) → core < s.cores → from ≤ until
    → retired_before (core_steps_of s traces from core) + s.width * (until - from) < length (trace_of traces core)
    → is_over s traces (run s traces until) ≡ false

-- a run is not over before a cycle up to which a message is in flight
abbrev pub LastsForFlight : Config → List (List Entry) → ℕ → ℕ → Type 0
LastsForFlight s traces from until =
    from ≤ until → Any (λ m. until ≤ m.arrival) (in_flight s traces (run s traces from))
    → is_over s traces (run s traces until) ≡ false
