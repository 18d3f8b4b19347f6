-- What a core keeps of the next two memory entries stays right while it goes on.
use Rattle.std.proofs.Common.{◌≡◌, ℕ, ◌+◌, ◌<◌, ◌≤◌, List, length, Option, Some, None, sym, subst, arith, ⊎_elim}
use Rattle.std.specs.Prelude.{slice_get}
use Rattle.std.specs.Option.{IfSome}
use Rattle.std.proofs.lemmas.Bool.{cases_lt}
use Rattle.sim_base.specs.declared.config.Config.{Config}
use Rattle.sim_base.specs.declared.trace.Entry.{Entry}
use Rattle.cpu_trace.specs.declared.entries.MemoryEntry.{MemoryEntry}
use Rattle.core_window.specs.Ahead.{IsPlaced, IsKnown}
use Rattle.core_window.specs.OneCycle.{IsNextOrEnd, IsSeen}
use Rattle.core_window.specs.declared.issue.EntriesAhead.{EntriesAhead}

-- the next two memory entries, by what is known of each
pub seen_from : (trace : List Entry) (from first_at second_at : ℕ) (entry : Entry) → IsNextOrEnd trace from first_at → (first_at < length trace → IsNextOrEnd trace (first_at + 1) second_at) → (length trace ≤ first_at → second_at ≡ length trace)
    → (first_at < length trace → slice_get trace first_at ≡ Some entry) → IsSeen trace from first_at second_at entry
seen_from trace from first_at second_at entry first second none at = record { ahead = record { first = first; second = second; none = none }; is_at = at }

-- the second is the next from any number on between the two
pub second_next : (trace : List Entry) (from number first_at second_at : ℕ) (entry : Entry) → IsSeen trace from first_at second_at entry → first_at < number → number ≤ second_at → IsNextOrEnd trace number second_at
second_next trace from number first_at second_at entry seen behind before =
    let inside : first_at < length trace = ⊎_elim (λ l. l) (λ g. let e = seen.ahead.none g in absurd (omega (arith, g, e))) (cases_lt first_at (length trace)) in
    let second = seen.ahead.second inside in
    record { is_from = before; is_within = second.is_within; is_plain_before = λ k l b. second.is_plain_before k (omega arith) b; is_read_or_write = second.is_read_or_write }

-- the first is the next from any number on up to it
pub seen_still : (trace : List Entry) (from number first_at second_at : ℕ) (entry : Entry) → IsSeen trace from first_at second_at entry → from ≤ number → number ≤ first_at → IsSeen trace number first_at second_at entry
seen_still trace from number first_at second_at entry seen later before =
    let first = seen.ahead.first in
    record {
      ahead = record {
        first = record { is_from = before; is_within = first.is_within; is_plain_before = λ k l b. first.is_plain_before k (omega arith) b; is_read_or_write = first.is_read_or_write };
        second = seen.ahead.second;
        none = seen.ahead.none;
      };
      is_at = seen.is_at;
    }

-- the memory entry that issues is the first ahead
pub issued-placed : (s : Config) (trace : List Entry) (ahead : EntriesAhead) (memory : Option MemoryEntry) → IsKnown s trace ahead → IfSome memory (λ e. e.entry ≡ ahead.entry)
    → IfSome memory (λ e. IsPlaced s e.entry ahead.place)
issued-placed s trace ahead None known same = tt
issued-placed s trace ahead (Some e) known same = subst (λ x. IsPlaced s x ahead.place) (sym same) known.placed
