-- How many replies a core gets: no more than the entries that it issued, where no entry is answered twice.
use Rattle.std.proofs.Common.{◌≡◌, ℕ, suc, ◌<◌, ◌≤◌, true, eqb, ltb, List, [], ◌∷◌, length, take, Option, Some, None, refl, ap, ⊎_elim, arith}
use Rattle.std.specs.Prelude.{filter, filter_map, is_some}
use Rattle.std.specs.List.{AllByRecursion as Each, IsDistinct, cons_option, list_any}
use Rattle.std.specs.Option.{IfSome}
use Rattle.std.proofs.lemmas.Bool.{cond_both, and_parts, ltb-true, eqb-true, or_cases, false≢true}
use Rattle.std.proofs.lemmas.List.Sums.{length-filter, count_by-le-length}
use Rattle.std.proofs.lemmas.Map.Steps.{length-le_from_distinct_below}
use Rattle.std.proofs.lemmas.Option.{IfSome_then}
use Rattle.sim_base.proofs.Each.{Each-filter_map}
use Rattle.sim_base.specs.Counts.{replied_entry, is_reply, is_reply_before, replies}
use Rattle.sim_base.specs.History.{issued_before}
use Rattle.sim_base.specs.declared.history.CoreStep.{CoreStep}
use Rattle.sim_base.specs.declared.message.Message.{Message}
use Rattle.statistics.specs.Cores.{FollowsItsRead, RepliesFollowReads}
use Rattle.statistics.proofs.CoreCounts.{issued_before-take-le}

-- no more than there are messages
pub replies-le : (steps : List CoreStep) (inbox : List Message) → length (replies steps inbox) ≤ length inbox
unfolding replies
replies-le steps inbox = omega (arith, length-filter (is_reply_before (length steps)) inbox, count_by-le-length (is_reply_before (length steps)) inbox)

-- the entries that were answered within these steps
unfoldable pub answered_entries : List CoreStep → List Message → List ℕ
answered_entries steps inbox = filter_map (λ m. replied_entry m.payload) (replies steps inbox)

each_answers : (cycle : ℕ) (ms : List Message) → length (filter_map (λ m. replied_entry m.payload) (filter (is_reply_before cycle) ms)) ≡ length (filter (is_reply_before cycle) ms)
each_answers cycle [] = refl
each_answers cycle (m ∷ ms) =
    let kept = filter (is_reply_before cycle) ms in
    cond_both (is_reply_before cycle m) (m ∷ kept) kept (λ x. length (filter_map (λ y. replied_entry y.payload) x) ≡ length x)
    (λ e. by (replied_entry m.payload) (and_parts (is_reply m) (ltb m.arrival cycle) e).0 (each_answers cycle ms))
    (λ e. each_answers cycle ms)
  where
    by : (o : Option ℕ) → is_some o ≡ true → length (filter_map (λ y. replied_entry y.payload) (filter (is_reply_before cycle) ms)) ≡ length (filter (is_reply_before cycle) ms)
        → length (cons_option o (filter_map (λ y. replied_entry y.payload) (filter (is_reply_before cycle) ms))) ≡ suc (length (filter (is_reply_before cycle) ms))
    by None h k = absurd (false≢true h)
    by (Some entry) h k = ap suc k

among_below : (n q : ℕ) (xs : List ℕ) → Each (λ x. x < n) xs → list_any (eqb q) xs ≡ true → q < n
among_below n q [] h e = absurd (false≢true e)
among_below n q (x ∷ xs) h e =
    ⊎_elim
    (λ (a : eqb q x ≡ true). let same : q ≡ x = eqb-true q x a in omega arith)
    (λ (a : list_any (eqb q) xs ≡ true). among_below n q xs h.1 a)
    (or_cases (eqb q x) (list_any (eqb q) xs) e)

issued_of_answer : (steps : List CoreStep) (m : Message) → is_reply_before (length steps) m ≡ true → FollowsItsRead steps m → IfSome (replied_entry m.payload) (λ entry. entry < issued_before steps)
issued_of_answer steps m e h =
    let l : m.arrival < length steps = ltb-true m.arrival (length steps) (and_parts (is_reply m) (ltb m.arrival (length steps)) e).1 in
    IfSome_then (replied_entry m.payload) h (λ entry k. let i : entry < issued_before (take m.arrival steps) = k l in omega (arith, issued_before-take-le steps m.arrival))

answers_issued : (steps : List CoreStep) (ms : List Message) → RepliesFollowReads steps ms
    → Each (λ (m : Message). IfSome (replied_entry m.payload) (λ entry. entry < issued_before steps)) (filter (is_reply_before (length steps)) ms)
answers_issued steps [] h = tt
answers_issued steps (m ∷ ms) h =
    let kept = filter (is_reply_before (length steps)) ms in
    cond_both (is_reply_before (length steps) m) (m ∷ kept) kept (Each (λ (x : Message). IfSome (replied_entry x.payload) (λ entry. entry < issued_before steps)))
    (λ e. (issued_of_answer steps m e h.0, answers_issued steps ms h.1))
    (λ e. answers_issued steps ms h.1)

pub replies-le-issued : (steps : List CoreStep) (inbox : List Message) → RepliesFollowReads steps inbox → IsDistinct eqb (answered_entries steps inbox)
    → length (replies steps inbox) ≤ issued_before steps
unfolding answered_entries replies
replies-le-issued steps inbox h d =
    let kept = filter (is_reply_before (length steps)) inbox in
    let entries = filter_map (λ (m : Message). replied_entry m.payload) kept in
    let below : Each (λ x. x < issued_before steps) entries = Each-filter_map (λ x. x < issued_before steps) (λ (m : Message). replied_entry m.payload) kept (answers_issued steps inbox h) in
    let few : length entries ≤ issued_before steps = length-le_from_distinct_below entries (issued_before steps) d (λ q e. among_below (issued_before steps) q entries below e) in
    omega (arith, each_answers (length steps) inbox)
