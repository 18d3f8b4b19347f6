-- The entries of a trace, one more at a time.
use Rattle.std.proofs.Common.{◌≡◌, ℕ, zero, suc, ◌+◌, ◌<◌, ◌≤◌, Bool, true, false, ◌||◌, List, [], ◌++◌, take, drop, refl, sym, ap, ap₂, ◌∙◌, ltb, cond, arith, ⊎_elim}
use Rattle.std.specs.Prelude.{slice_get, option_and_then, count_by}
use Rattle.std.specs.Option.{option_to_list}
use Rattle.std.specs.List.{list_any}
use Rattle.std.proofs.lemmas.Bool.{lt-ltb, le-ltb, cases_lt}
use Rattle.std.proofs.lemmas.List.Folds.{list_any-append}
use Rattle.std.proofs.lemmas.List.Sums.{sum_by-append}
use Rattle.std.proofs.lemmas.List.{append-nil}
use Rattle.std.proofs.Math.Bool.{or-true}
use Rattle.sim_base.specs.declared.config.Config.{Config}
use Rattle.sim_base.specs.declared.message.Message.{Message}
use Rattle.sim_base.specs.declared.trace.Entry.{Entry}
use Rattle.sim_base.specs.History.{request_of}
use Rattle.sim_base.specs.Windows.{is_memory, is_memory_in, has_memory}
use Rattle.sim_base.proofs.Lists.{take_more, slice_get-drop}
use Rattle.sim_base.proofs.Requested.{one_memory}
use Rattle.sim_base.specs.Counts.{one_if}

-- the request of the entry of a number
abbrev pub request_at : Config → ℕ → List Entry → ℕ → ℕ → List Message
request_at s core trace cycle number = option_to_list (option_and_then (request_of s core cycle number) (slice_get trace number))

has_memory-more : (trace : List Entry) (first m : ℕ) → has_memory trace first (suc m) ≡ (has_memory trace first m || (is_memory_in (slice_get trace (first + m)) || false))
unfolding has_memory
has_memory-more trace first m =
    ap (list_any is_memory) (take_more (drop first trace) m)
    ∙ list_any-append is_memory (take m (drop first trace)) (option_to_list (slice_get (drop first trace) m))
    ∙ ap (λ b. list_any is_memory (take m (drop first trace)) || b) (one_memory (slice_get (drop first trace) m) ∙ ap (λ o. is_memory_in o || false) (slice_get-drop trace first m))

pub has_memory-false : (trace : List Entry) (first m : ℕ) → ((k : ℕ) → k < m → is_memory_in (slice_get trace (first + k)) ≡ false) → has_memory trace first m ≡ false
unfolding has_memory
has_memory-false trace first zero h = refl
has_memory-false trace first (suc m) h =
    has_memory-more trace first m
    ∙ ap₂ (λ a b. a || (b || false)) (has_memory-false trace first m (λ k l. h k (omega arith))) (h m (omega arith))

pub has_memory-true : (trace : List Entry) (first m k : ℕ) → k < m → is_memory_in (slice_get trace (first + k)) ≡ true → has_memory trace first m ≡ true
has_memory-true trace first zero k l h = absurd (omega arith)
has_memory-true trace first (suc m) k l h =
    ⊎_elim
    (λ less. has_memory-more trace first m ∙ ap (λ a. a || (is_memory_in (slice_get trace (first + m)) || false)) (has_memory-true trace first m k less h))
    (λ more. let e : k ≡ m = omega arith in
    has_memory-more trace first m ∙ ap (λ a. has_memory trace first m || (a || false)) (ap (λ n. is_memory_in (slice_get trace (first + n))) (sym e) ∙ h) ∙ or-true (has_memory trace first m))
    (cases_lt k m)

-- what some entries give one after the other, of which at most the one of this number gives anything
pub one_of_segment : {X : Type 0} (F : ℕ → List X) (g : ℕ → List X) (first one : ℕ) → F 0 ≡ [] → ((k : ℕ) → F (suc k) ≡ F k ++ g (first + k)) → first ≤ one
    → (m : ℕ) → ((k : ℕ) → k < m → (first + k ≡ one → ⊥) → g (first + k) ≡ []) → F m ≡ (cond (ltb one (first + m)) (g one) [])
one_of_segment F g first one start more l zero h =
    start ∙ sym (ap (λ b. cond b (g one) []) (le-ltb one (first + 0) (omega arith)))
one_of_segment F g first one start more l (suc m) h =
    let before : F m ≡ cond (ltb one (first + m)) (g one) [] = one_of_segment F g first one start more l m (λ k b ne. h k (omega arith) ne) in
    ⊎_elim
    (λ less. more m
    ∙ ap₂ (λ a b. a ++ b) (before ∙ ap (λ b. cond b (g one) []) (lt-ltb one (first + m) less)) (h m (omega arith) (λ e. omega arith))
    ∙ append-nil (g one)
    ∙ sym (ap (λ b. cond b (g one) []) (lt-ltb one (first + suc m) (omega arith))))
    (λ most. ⊎_elim
    (λ beyond. more m
    ∙ ap₂ (λ a b. a ++ b) (before ∙ ap (λ b. cond b (g one) []) (le-ltb one (first + m) most)) (h m (omega arith) (λ e. omega arith))
    ∙ sym (ap (λ b. cond b (g one) []) (le-ltb one (first + suc m) (omega arith))))
    (λ within. let e : first + m ≡ one = omega arith in
    more m
    ∙ ap₂ (λ a b. a ++ b) (before ∙ ap (λ b. cond b (g one) []) (le-ltb one (first + m) most)) (ap g e)
    ∙ sym (ap (λ b. cond b (g one) []) (lt-ltb one (first + suc m) (omega arith))))
    (cases_lt (first + m) one))
    (cases_lt one (first + m))

-- the entries counted that hold a test, where at most the one of this number does
count-more : (p : Entry → Bool) (trace : List Entry) (first k : ℕ)
    → count_by p (take (suc k) (drop first trace)) ≡ count_by p (take k (drop first trace)) + count_by p (option_to_list (slice_get trace (first + k)))
count-more p trace first k =
    ap (count_by p) (take_more (drop first trace) k)
    ∙ sum_by-append (λ e. one_if (p e)) (take k (drop first trace)) (option_to_list (slice_get (drop first trace) k))
    ∙ ap (λ o. count_by p (take k (drop first trace)) + count_by p (option_to_list o)) (slice_get-drop trace first k)

pub count_none : (p : Entry → Bool) (trace : List Entry) (first m : ℕ) → ((k : ℕ) → k < m → count_by p (option_to_list (slice_get trace (first + k))) ≡ 0)
    → count_by p (take m (drop first trace)) ≡ 0
count_none p trace first zero h = refl
count_none p trace first (suc m) h = count-more p trace first m ∙ ap₂ (λ a b. a + b) (count_none p trace first m (λ k l. h k (omega arith))) (h m (omega arith))

pub count_one : (p : Entry → Bool) (trace : List Entry) (first one m : ℕ) → first ≤ one → one < first + m
    → ((k : ℕ) → k < m → (first + k ≡ one → ⊥) → count_by p (option_to_list (slice_get trace (first + k))) ≡ 0)
    → count_by p (take m (drop first trace)) ≡ count_by p (option_to_list (slice_get trace one))
count_one p trace first one zero l b h = absurd (omega arith)
count_one p trace first one (suc m) l b h =
    ⊎_elim
    (λ less. let z : count_by p (option_to_list (slice_get trace (first + m))) ≡ 0 = h m (omega arith) (λ e. omega arith) in
    let r : count_by p (take m (drop first trace)) ≡ count_by p (option_to_list (slice_get trace one)) = count_one p trace first one m l less (λ k j. h k (omega arith)) in
    let e = count-more p trace first m in
    omega arith)
    (λ most. let same : first + m ≡ one = omega arith in
    let z : count_by p (take m (drop first trace)) ≡ 0 = count_none p trace first m (λ k j. h k (omega arith) (λ e. omega arith)) in
    let r : count_by p (option_to_list (slice_get trace (first + m))) ≡ count_by p (option_to_list (slice_get trace one)) = ap (λ n. count_by p (option_to_list (slice_get trace n))) same in
    let e = count-more p trace first m in
    omega arith)
    (cases_lt one (first + m))
