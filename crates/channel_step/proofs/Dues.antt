-- From which cycle on a refresh is due.
use Rattle.std.proofs.Common.{◌≡◌, ℕ, ◌-◌, ◌/◌, ◌<◌, ◌≤◌, Bool, true, false, eqb, ltb, List, [], ◌∷◌, Some, refl, sym, ap, ◌∙◌, eq-eqb, inl, inr, arith}
use Rattle.std.specs.Prelude.{find, is_some, slice_index, nat_le, min}
use Rattle.std.proofs.lemmas.Bool.{cond_both, cond-true, cond-false, cases_lt, lt-ltb, ltb-true, lt-leb, le-leb}
use Rattle.std.proofs.lemmas.Bool.Decides.{nat_tests}
use Rattle.std.proofs.lemmas.Nat.{le-div}
use Rattle.std.proofs.Math.Nat.{div-mul-le_self}
use Rattle.sim_base.specs.History.{below}
use Rattle.sim_base.proofs.Lists.{find-none}
use Rattle.bank_ready.specs.Refreshes.{RefreshCounts, owed, lowest_owed, IsFirstDue}
use Rattle.bank_ready.proofs.Due.{some_is}

-- what passes one test passes the other, so some item does
find-more : (p q : ℕ → Bool) → ((x : ℕ) → p x ≡ true → q x ≡ true) → (xs : List ℕ) → is_some (find p xs) ≡ true → is_some (find q xs) ≡ true
find-more p q h [] e = e
find-more p q h (x ∷ xs) e =
    cond_both (q x) (Some x) (find q xs) (λ o. is_some o ≡ true) (λ f. refl)
    (λ f. find-more p q h xs
    (cond_both (p x) (Some x) (find p xs) (λ o. is_some o ≡ true → is_some (find p xs) ≡ true) (λ g k. let i : false ≡ true = sym f ∙ h x g in cc) (λ g k. k) e))

-- time does not take back what is owed
div-more : (a b n : ℕ) → 0 < n → a ≤ b → a / n ≤ b / n
div-more a b n some l = le-div (a / n) b n some (omega (arith, div-mul-le_self a n))

owed-more : (counts : RefreshCounts) (a b : ℕ) → a ≤ b → (rank : ℕ) → ltb 0 (owed counts rank a) ≡ true → ltb 0 (owed counts rank b) ≡ true
owed-more counts a b l rank e =
    let n = counts.interval in
    let had = slice_index counts.issued rank in
    cond_both (eqb n 0) 0 (b / n - had) (λ x. ltb 0 x ≡ true)
    (λ f. sym (ap (ltb 0) (cond-true (eqb n 0) 0 (a / n - had) f)) ∙ e)
    (λ f.
    let some : 0 < n = grind (arith, nat_tests) in
    let owes : 0 < a / n - had = ltb-true 0 _ (sym (ap (ltb 0) (cond-false (eqb n 0) 0 (a / n - had) f)) ∙ e) in
    lt-ltb 0 (b / n - had) (omega (arith, div-more a b n some l)))

-- a refresh that is due stays due
pub due-stays : (counts : RefreshCounts) (a b : ℕ) → a ≤ b → is_some (lowest_owed counts a) ≡ true → is_some (lowest_owed counts b) ≡ true
due-stays counts a b l e = find-more (λ rank. ltb 0 (owed counts rank a)) (λ rank. ltb 0 (owed counts rank b)) (owed-more counts a b l) (below counts.ranks) e

-- from the first cycle with a refresh that is due on, one is due
pub due_from_next : (counts : RefreshCounts) (now until due cycle : ℕ) → IsFirstDue (lowest_owed counts) now due → now ≤ cycle → cycle < until
    → is_some (lowest_owed counts cycle) ≡ nat_le (min due until) cycle
due_from_next counts now until due cycle h from before =
    elim (cases_lt cycle due) [
      | inl early ↦ ap is_some (h.none_before cycle from early) ∙ sym (lt-leb (min due until) cycle (omega arith))
      | inr late ↦ due-stays counts due cycle (omega arith) (some_is _ h.due) ∙ sym (le-leb (min due until) cycle (omega arith))
    ]

-- where there are no refreshes, none is ever due
pub never_due : (counts : RefreshCounts) (until cycle : ℕ) → counts.interval ≡ 0 → cycle < until → is_some (lowest_owed counts cycle) ≡ nat_le until cycle
never_due counts until cycle none before =
    ap is_some (find-none (λ rank. ltb 0 (owed counts rank cycle)) 0 counts.ranks
    (λ rank from l. ap (ltb 0) (cond-true (eqb counts.interval 0) 0 (cycle / counts.interval - slice_index counts.issued rank) (eq-eqb counts.interval 0 none))))
    ∙ sym (lt-leb until cycle before)
