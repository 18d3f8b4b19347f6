-- What a core does in a cycle.
--     IsAhead trace from first_at second_at      where the next two memory entries stand
--     IsSeen trace from first_at second_at entry      where the next two memory entries stand, and what the first is
--     IsIssued trace first m memory      the one memory entry that is among some that issue, if one is
--     more_credit access c, less_credit access c      one credit more, and one less
--     cycle_counts ..      what statistics count in a cycle, except for replies
use Rattle.std.specs.Prelude.{◌≡◌, ℕ, ◌+◌, ◌-◌, ◌<◌, ◌≤◌, nat_lt, nat_le, Bool, true, false, ◌&&◌, List, [], ◌∷◌, ◌==◌, length, slice_get, Option, Some, None, if◌then◌else◌}
use Rattle.std.specs.Option.{IfSome, option_to_list}
use Rattle.sim_base.specs.Counts.{is_read, is_write, one_if}
use Rattle.sim_base.specs.Windows.{is_memory, is_memory_in, lacks_credit, stop_after, first_stop, step}
use Rattle.sim_base.specs.History.{retired_before, issued_before, core_messages, request_of}
use Rattle.sim_base.specs.Places.{place_of}
use Rattle.core_window.specs.declared.outstanding.OutstandingRead.{OutstandingRead}
use Rattle.sim_base.specs.declared.config.Config.{Config}
use Rattle.sim_base.specs.declared.message.Access.{Access}
use Rattle.sim_base.specs.declared.message.Access.TheVariants as access
use Rattle.sim_base.specs.declared.message.Message.{Message}
use Rattle.sim_base.specs.declared.history.CoreStep.{CoreStep}
use Rattle.sim_base.specs.declared.trace.Entry.{Entry}
use Rattle.sim_base.specs.declared.trace.Entry.TheVariants.{Plain, Read, Write}
use Rattle.sim_base.specs.declared.trace.Stop.{Stop}
use Rattle.cpu_trace.specs.NextMemory.{IsPlainBetween}
use Rattle.cpu_trace.specs.declared.entries.MemoryEntry.{MemoryEntry}
use Rattle.statistics.specs.Cores.{unanswered_cycle}
use Rattle.statistics.specs.declared.cores.CoreStats.{CoreStats}
use Rattle.statistics.specs.declared.final_state.Credits.{Credits}

-- the first Read or Write from `from` on stands at `number`, or there is none and the trace ends there
pub record IsNextOrEnd (trace : List Entry) (from number : ℕ) : Type 0 where
  pub is_from : from ≤ number
  pub is_within : number ≤ length trace
  pub is_plain_before : IsPlainBetween trace from number
  pub is_read_or_write : number < length trace → is_memory_in (slice_get trace number) ≡ true

-- the next two memory entries from a number on; where there is none, the end of the trace
pub record IsAhead (trace : List Entry) (from first_at second_at : ℕ) : Type 0 where
  pub first : IsNextOrEnd trace from first_at
  pub second : first_at < length trace → IsNextOrEnd trace (first_at + 1) second_at
  pub none : length trace ≤ first_at → second_at ≡ length trace

-- the next two memory entries from a number on, and which entry the first of them is
pub record IsSeen (trace : List Entry) (from first_at second_at : ℕ) (entry : Entry) : Type 0 where
  pub ahead : IsAhead trace from first_at second_at
  pub is_at : first_at < length trace → slice_get trace first_at ≡ Some entry

-- the memory entry among those that issue
pub record IsAmong (trace : List Entry) (first m : ℕ) (e : MemoryEntry) : Type 0 where
  pub is_from : first ≤ e.number
  pub is_below : e.number < first + m
  pub is_at : slice_get trace e.number ≡ Some e.entry
  pub is_read_or_write : is_memory e.entry ≡ true
  pub is_plain_before : IsPlainBetween trace first e.number
  pub is_plain_after : IsPlainBetween trace (e.number + 1) (first + m)

-- the one memory entry among the m entries that issue from the first on, if one is
abbrev pub IsIssued : List Entry → ℕ → ℕ → Option MemoryEntry → Type 0
IsIssued trace first m None = IsPlainBetween trace first (first + m)
IsIssued trace first m (Some e) = IsAmong trace first m e

-- the credits of a core for a channel, with one more of an access
abbrev pub more_credit : Access → Credits → Credits
more_credit access.Read c = record c { read = c.read + 1 }
more_credit access.Write c = record c { write = c.write + 1 }

-- the credits of a core for a channel, with one less of an access
abbrev pub less_credit : Access → Credits → Credits
less_credit access.Read c = record c { read = c.read - 1 }
less_credit access.Write c = record c { write = c.write - 1 }

-- the credits of a kind: for reads, or for writes
abbrev pub credits_of_kind : Access → Credits → ℕ
credits_of_kind access.Read c = c.read
credits_of_kind access.Write c = c.write

-- whether the memory entry that issues, if one does, is a Read
abbrev pub is_read_among : Option MemoryEntry → Bool
is_read_among None = false
is_read_among (Some e) = is_read e.entry

-- whether the memory entry that issues, if one does, is a Write
abbrev pub is_write_among : Option MemoryEntry → Bool
is_write_among None = false
is_write_among (Some e) = is_write e.entry

-- what statistics count, except for replies, in a cycle with this step of the core, this cause to stop and this memory
-- entry; the numbers are the entries of the trace retired before the cycle, the length of the trace, and the cycle
abbrev pub cycle_counts : CoreStep → Stop → Option MemoryEntry → ℕ → ℕ → ℕ → CoreStats
cycle_counts core_step why memory before len now =
    let reads = one_if (is_read_among memory) in
    let writes = one_if (is_write_among memory) in
    let finish = if nat_lt before len && nat_le len (before + core_step.retired) then Some now else None in
    unanswered_cycle core_step why reads writes finish

-- the cause for which a core issues no more than m entries, and that it has none before
pub record IsLast (s : Config) (core : ℕ) (trace : List Entry) (inbox sent : List Message)
    (now number retired_by_end first_at second_at : ℕ) (lacks : Bool) (m : ℕ) (why : Stop) : Type 0 where
  pub count : first_stop s core trace inbox sent now number retired_by_end ≡ m
  pub cause : stop_after s core trace inbox sent now number retired_by_end m ≡ Some why
  pub window : number + m ≤ retired_by_end + s.window
  pub second : number + m ≤ second_at
  pub first : lacks ≡ true → number + m ≤ first_at

-- a core that issued entries up to a number, and had retired `retired_by_end` of them, may issue from there on: the
-- memory entries ahead are known, and whether it lacks a credit for the first of them
pub record MayIssue (s : Config) (core : ℕ) (trace : List Entry) (inbox sent : List Message)
    (now number retired_by_end first_at second_at : ℕ) (lacks : Bool) : Type 0 where
  pub within : number ≤ length trace
  pub retired : retired_by_end ≤ number
  pub window : number ≤ retired_by_end + s.window
  pub ahead : IsAhead trace number first_at second_at
  pub credit : lacks ≡ (nat_lt first_at (length trace) && lacks_credit s core inbox sent now (slice_get trace first_at))

-- the Read that begins to wait, if the memory entry that issues is one
abbrev pub reads_issued : Option MemoryEntry → ℕ → List OutstandingRead
reads_issued None now = []
reads_issued (Some e) now = if is_read e.entry then record { entry = e.number; issued = now } ∷ [] else []

-- the request of the memory entry that issues
abbrev pub requests_issued : Config → ℕ → ℕ → Option MemoryEntry → List Message
requests_issued s core now None = []
requests_issued s core now (Some e) = option_to_list (request_of s core now e.number e.entry)

-- the credits for a channel after an entry has issued
abbrev pub credit_after_entry : Config → ℕ → Entry → Credits → Credits
credit_after_entry s channel Plain c = c
credit_after_entry s channel (Read address) c =
    if (place_of s address).channel == channel then less_credit access.Read c else c
credit_after_entry s channel (Write address) c =
    if (place_of s address).channel == channel then less_credit access.Write c else c

-- the credits for a channel after a memory entry has issued, if one does
abbrev pub credit_after : Config → ℕ → Option MemoryEntry → Credits → Credits
credit_after s channel None c = c
credit_after s channel (Some e) c = credit_after_entry s channel e.entry c

-- what a core does in the cycle after these steps, with this mail
pub record IsWork (s : Config) (core : ℕ) (trace : List Entry) (steps : List CoreStep) (mail : List Message)
    (core_step : CoreStep) (why : Stop) (memory : Option MemoryEntry) : Type 0 where
  pub does : step s core trace steps mail ≡ (core_step, why)
  pub window : issued_before steps + core_step.issued ≤ retired_before steps + core_step.retired + s.window
  pub issues : IsIssued trace (issued_before steps) core_step.issued memory
  pub credit : IfSome memory
      (λ e. lacks_credit s core mail (core_messages s core trace steps) (length steps) (Some e.entry) ≡ false)

-- a core that holds these credits for each channel has none for this entry
abbrev pub lacks_by : Config → (ℕ → Credits) → Entry → Bool
lacks_by s credits Plain = false
lacks_by s credits (Read address) = (credits (place_of s address).channel).read == 0
lacks_by s credits (Write address) = (credits (place_of s address).channel).write == 0
