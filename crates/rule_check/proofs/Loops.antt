-- A loop that changes each element of a list by its place.
use Rattle.std.proofs.Common.{◌≡◌, ℕ, ◌+◌, ◌<◌, ◌≤◌, ◌∙◌, List, length, get_or, set, sym, ap, arith, inl, inr}
use Rattle.std.proofs.lemmas.Bool.{cases_eq}
use Rattle.std.proofs.lemmas.List.{get_or-set_same, get_or-set_other, get_or_default}

-- one element more is changed
pub one_changed : {X : Type 0} (f : ℕ → X → X) (xs start : List X) (i : ℕ) (v e : X) → i < length xs
    → ((k : ℕ) (d : X) → k < i → get_or xs k d ≡ f k (get_or start k d)) → ((k : ℕ) (d : X) → i ≤ k → get_or xs k d ≡ get_or start k d)
    → v ≡ f i (get_or xs i e) → (k : ℕ) (d : X) → k < i + 1 → get_or (set xs i v) k d ≡ f k (get_or start k d)
one_changed f xs start i v e h done left is k d l =
    elim (cases_eq k i) [
      | inl same ↦
          ap (λ n. get_or (set xs i v) n d) same ∙ get_or-set_same xs i v d h ∙ is ∙ ap (f i) (get_or_default xs i e d h ∙ left i d (omega arith))
          ∙ ap (λ n. f n (get_or start n d)) (sym same)
      | inr apart ↦ get_or-set_other xs i k v d apart ∙ done k d (omega arith)
    ]

-- and those after it are left
pub others_left : {X : Type 0} (xs start : List X) (i : ℕ) (v : X) → ((k : ℕ) (d : X) → i ≤ k → get_or xs k d ≡ get_or start k d)
    → (k : ℕ) (d : X) → i + 1 ≤ k → get_or (set xs i v) k d ≡ get_or start k d
others_left xs start i v left k d l = get_or-set_other xs i k v d (λ e. omega arith) ∙ left k d (omega arith)
