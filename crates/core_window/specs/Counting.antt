-- Counts and lists of a core, after what is added to them.
--     counted_cycle stats core_step why memory len now      statistics with one cycle more
--     counted_cycles stats core_step why n      statistics with n cycles more, in each of which the core does the same
--     with_reads outstanding memory now      the Reads that wait, with the one that issues
--     SendsFor memory s core now before after      the request of the entry that issues is put behind what was sent
--     read_of entry outstanding      the Read of a number among those that wait
--     without_read entry outstanding      the Reads that wait, without the one of a number
--     IsTakenOut entry old taken new      the Read of a number is taken out of those that wait, if it is there
--     HasRoom access credits      one credit more of this kind can be counted
--     IsCreditedAt channel access old new      one credit more is held for one channel, and for the others what was
--     IsSpentAt channel access old new      one credit less is held for one channel, and for the others what was
use Rattle.std.specs.Prelude.{◌≡◌, ℕ, ◌+◌, ◌^◌, ◌<◌, ◌==◌, not, List, ◌++◌, find, filter, slice_get, Option, Some, if◌then◌else◌}
use Rattle.sim_base.specs.declared.config.Config.{Config}
use Rattle.sim_base.specs.declared.history.CoreStep.{CoreStep}
use Rattle.sim_base.specs.declared.message.Access.{Access}
use Rattle.sim_base.specs.declared.message.Message.{Message}
use Rattle.sim_base.specs.declared.trace.Stop.{Stop}
use Rattle.cpu_trace.specs.declared.entries.MemoryEntry.{MemoryEntry}
use Rattle.statistics.specs.Cores.{core_joined, core_times}
use Rattle.statistics.specs.declared.cores.CoreStats.{CoreStats}
use Rattle.statistics.specs.declared.final_state.Credits.{Credits}
use Rattle.core_window.specs.OneCycle.{cycle_counts, more_credit, credits_of_kind, reads_issued, requests_issued, less_credit}
use Rattle.core_window.specs.Steady.{steady_counts}
use Rattle.core_window.specs.declared.outstanding.OutstandingRead.{OutstandingRead}

-- statistics with the cycle `now` more, in which a core with a trace of this length does this; its replies are not
-- counted
abbrev pub counted_cycle : CoreStats → CoreStep → Stop → Option MemoryEntry → ℕ → ℕ → CoreStats
counted_cycle stats core_step why memory len now =
    core_joined stats (cycle_counts core_step why memory stats.retired len now)

-- statistics with n cycles more, in each of which the core does the same
abbrev pub counted_cycles : CoreStats → CoreStep → Stop → ℕ → CoreStats
counted_cycles stats core_step why n = core_joined stats (core_times n (steady_counts core_step why))

-- the Reads that wait, with the one that issues, if one does
abbrev pub with_reads : List OutstandingRead → Option MemoryEntry → ℕ → List OutstandingRead
with_reads outstanding memory now = outstanding ++ reads_issued memory now

-- a core sends in a cycle the request of the memory entry that issues, if one does: it is put behind what was sent
-- before
abbrev pub SendsFor : Option MemoryEntry → Config → ℕ → ℕ → List Message → List Message → Type 0
SendsFor memory s core now before after = after ≡ before ++ requests_issued s core now memory

-- the Read of a number among those that wait
abbrev pub read_of : ℕ → List OutstandingRead → Option OutstandingRead
read_of entry outstanding = find (λ read. read.entry == entry) outstanding

-- the Reads that wait, without the Read of a number
abbrev pub without_read : ℕ → List OutstandingRead → List OutstandingRead
without_read entry outstanding = filter (λ read. not (read.entry == entry)) outstanding

-- The Read of a number is taken out of those that wait, if it is among them: the others still wait.
abbrev pub IsTakenOut : ℕ → List OutstandingRead → Option OutstandingRead → List OutstandingRead → Type 0
IsTakenOut entry old taken new = (taken ≡ read_of entry old) × (new ≡ without_read entry old)

-- statistics with one reply more, which was waited for over `waited` cycles
abbrev pub counted_reply : CoreStats → ℕ → CoreStats
counted_reply stats waited = record stats { replies = stats.replies + 1; read_latency = stats.read_latency + waited }

-- one credit more of this kind can be counted
abbrev pub HasRoom : Access → Credits → Type 0
HasRoom access credits = credits_of_kind access credits + 1 < 2 ^ 64

-- One credit more is held for a channel, and for each other one what was. It has to be counted only where there is
-- room.
abbrev pub IsCreditedAt : ℕ → Access → List Credits → List Credits → Type 0
IsCreditedAt channel access old new =
    (other : ℕ) (c : Credits) → slice_get old other ≡ Some c
    → (channel ≡ other → HasRoom access c)
    → slice_get new other ≡ Some (if channel == other then more_credit access c else c)

-- one credit less is held for a channel, and for each other one what was
abbrev pub IsSpentAt : ℕ → Access → List Credits → List Credits → Type 0
IsSpentAt channel access old new =
    (other : ℕ) (c : Credits) → slice_get old other ≡ Some c
    → slice_get new other ≡ Some (if channel == other then less_credit access c else c)
