-- What a cycle of one core counts.
use Rattle.std.proofs.Common.{◌≡◌, ℕ, zero, suc, ◌+◌, ◌<◌, ◌≤◌, Bool, false, List, [], length, get_or, take, drop, Option, Some, None, refl, sym, ap, ap₂, ◌∙◌, zero-add, arith}
use Rattle.std.specs.Prelude.{count_by, slice_get}
use Rattle.std.specs.Option.{option_to_list}
use Rattle.std.proofs.lemmas.Bool.{le-leb, lt-leb}
use Rattle.std.proofs.lemmas.List.Folds.{length-prefix_len}
use Rattle.std.proofs.lemmas.List.Sums.{prefix_len_is, sum_by_more, sum_by-append}
use Rattle.std.proofs.lemmas.List.FromFn.{length-range_with_len, get_or-range_with_len}
use Rattle.sim_base.specs.Counts.{is_read, is_write, is_unissued_after, issue_cycle, wait_of, replied_entry, one_if}
use Rattle.sim_base.specs.History.{below, issued_before}
use Rattle.sim_base.specs.declared.history.CoreStep.{CoreStep}
use Rattle.sim_base.specs.declared.message.Access.TheVariants as access
use Rattle.sim_base.specs.declared.message.Message.{Message}
use Rattle.sim_base.specs.declared.trace.Entry.{Entry}
use Rattle.sim_base.proofs.Lists.{take_more, slice_get-drop}
use Rattle.statistics.specs.Cores.{waited}
use Rattle.statistics.proofs.Lists.{count_below_more}
use Rattle.statistics.proofs.Replies.{issued_before-take-later}
use Rattle.one_clock.specs.Steps.{accesses}

pub issued_none : issued_before [] ≡ 0
unfolding issued_before
issued_none = refl

pub issued_more : (past_steps : List CoreStep) (i : ℕ) (d : CoreStep) → i < length past_steps → issued_before (take (i + 1) past_steps) ≡ issued_before (take i past_steps) + (get_or past_steps i d).issued
unfolding issued_before
issued_more past_steps i d h = sum_by_more (λ (r : CoreStep). r.issued) past_steps i d h

-- the first cycle by whose end an entry is issued
issue_cycle_at : (past_steps : List CoreStep) (entry n : ℕ) → n ≤ length past_steps → issued_before (take n past_steps) ≤ entry → (n < length past_steps → entry < issued_before (take (n + 1) past_steps))
    → issue_cycle past_steps entry ≡ n
unfolding issue_cycle is_unissued_after
issue_cycle_at past_steps entry n l before after =
    let p = is_unissued_after past_steps entry in
    let cycles = length past_steps in
    let len : length (below cycles) ≡ cycles = length-range_with_len 0 cycles in
    let at : (k : ℕ) → k < cycles → get_or (below cycles) k 0 ≡ k = λ k h. get_or-range_with_len 0 cycles k 0 h ∙ zero-add k in
    length-prefix_len p (below cycles)
    ∙ prefix_len_is p (below cycles) n 0 (omega arith)
    (λ k h. ap p (at k (omega arith)) ∙ le-leb (issued_before (take (k + 1) past_steps)) entry (omega (arith, issued_before-take-later past_steps (k + 1) n (omega arith))))
    (λ h. ap p (at n (omega arith)) ∙ lt-leb (issued_before (take (n + 1) past_steps)) entry (after (omega arith)))

pub issue_cycle_found : (past_steps : List CoreStep) (entry i : ℕ) → i < length past_steps → issued_before (take i past_steps) ≤ entry → entry < issued_before (take (i + 1) past_steps) → issue_cycle past_steps entry ≡ i
issue_cycle_found past_steps entry i l before after = issue_cycle_at past_steps entry i (omega arith) before (λ h. after)

pub issue_cycle_none : (past_steps : List CoreStep) (entry i : ℕ) → i ≡ length past_steps → issued_before (take i past_steps) ≤ entry → issue_cycle past_steps entry ≡ i
issue_cycle_none past_steps entry i e before = issue_cycle_at past_steps entry i (omega arith) before (λ h. absurd (omega arith))

pub waited_none : (past_steps : List CoreStep) → waited past_steps [] ≡ 0
unfolding waited
waited_none past_steps = refl

pub waited_more : (past_steps : List CoreStep) (ms : List Message) (i : ℕ) (d : Message) → i < length ms
    → waited past_steps (take (i + 1) ms) ≡ waited past_steps (take i ms) + wait_of past_steps (get_or ms i d).arrival (replied_entry (get_or ms i d).payload)
unfolding waited
waited_more past_steps ms i d h = sum_by_more (λ (m : Message). wait_of past_steps m.arrival (replied_entry m.payload)) ms i d h

counted : (p : Option Entry → Bool) (q : Entry → Bool) → p None ≡ false → ((e : Entry) → p (Some e) ≡ q e) → (trace : List Entry) (first m : ℕ)
    → count_by (λ k. p (slice_get trace (first + k))) (below m) ≡ count_by q (take m (drop first trace))
counted p q none some trace first zero = refl
counted p q none some trace first (suc m) =
    let rest = drop first trace in
    count_below_more (λ k. p (slice_get trace (first + k))) m
    ∙ ap₂ (λ a b. a + b) (counted p q none some trace first m) (ap (λ o. one_if (p o)) (sym (slice_get-drop trace first m)) ∙ one (slice_get rest m))
    ∙ sym (sum_by-append (λ e. one_if (q e)) (take m rest) (option_to_list (slice_get rest m)))
    ∙ ap (count_by q) (sym (take_more rest m))
  where
    one : (o : Option Entry) → one_if (p o) ≡ count_by q (option_to_list o)
    one None = ap one_if none
    one (Some e) = ap one_if (some e) ∙ sym (zero-add (one_if (q e)))

pub reads_are : (trace : List Entry) (first m : ℕ) → count_by (λ k. accesses access.Read (slice_get trace (first + k))) (below m) ≡ count_by is_read (take m (drop first trace))
reads_are trace first m = counted (accesses access.Read) is_read refl (λ e. refl) trace first m

pub writes_are : (trace : List Entry) (first m : ℕ) → count_by (λ k. accesses access.Write (slice_get trace (first + k))) (below m) ≡ count_by is_write (take m (drop first trace))
writes_are trace first m = counted (accesses access.Write) is_write refl (λ e. refl) trace first m
