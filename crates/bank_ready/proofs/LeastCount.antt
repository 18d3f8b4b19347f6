-- The least of some numbers, one more at a time.
use Rattle.std.proofs.Common.{◌≡◌, ℕ, ◌+◌, ◌<◌, ◌≤◌, min, List, get_or, ◌∙◌, subst, sym, inl, inr, arith}
use Rattle.std.proofs.lemmas.Bool.{cases_lt}

-- the least of the first i numbers
pub record IsLeast (xs : List ℕ) (i least : ℕ) : Type 0 where
  pub at_most : (k : ℕ) → k < i → least ≤ get_or xs k 0
  pub reached : (k : ℕ) × (k < i) × (get_or xs k 0 ≡ least)

pub least_more : (xs : List ℕ) (i least next : ℕ) → IsLeast xs i least → next ≡ min least (get_or xs i 0) → IsLeast xs (i + 1) next
least_more xs i least next so_far is = record {
  at_most = λ k l. elim (cases_lt k i) [
    | inl before ↦ omega (arith, so_far.at_most k before)
    | inr from ↦ let here : k ≡ i = omega arith in let bound : next ≤ get_or xs i 0 = omega arith in subst (λ j. next ≤ get_or xs j 0) (sym here) bound
  ];
  reached = elim (cases_lt least (get_or xs i 0)) [
    | inl kept ↦ (so_far.reached.0, omega (arith, so_far.reached.1), so_far.reached.2 ∙ omega arith)
    | inr taken ↦ (i, omega arith, omega arith)
  ];
}
