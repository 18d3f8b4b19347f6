-- What the operations on vectors give, lane by lane.
use Rattle.std.proofs.Common.{◌≡◌, ℕ, min, ltb, inl, inr, arith, ◌-◌, ◌^◌, List, [], ◌∷◌, cond, map, refl, ap, ◌∙◌, w64}
use Rattle.std.specs.Simd.Lanes.{zip2, sel_l, top}
use Rattle.std.proofs.lemmas.Simd.{tops_compared}
use Rattle.std.proofs.lemmas.Bool.{cases_lt, cond-true, cond-false, lt-ltb, le-ltb}

least_of_two : (x y : ℕ) → cond (ltb x y) x y ≡ min x y
least_of_two x y = elim (cases_lt x y) [
  | inl below ↦ cond-true _ _ _ (lt-ltb x y below) ∙ omega arith
  | inr above ↦ cond-false _ _ _ (le-ltb x y above) ∙ omega arith
]

sel-lesser : (xs ys : List ℕ) → sel_l (zip2 ltb xs ys) xs ys ≡ zip2 min xs ys
sel-lesser [] ys = refl
sel-lesser (x ∷ xs) [] = refl
sel-lesser (x ∷ xs) (y ∷ ys) = λ i. least_of_two x y i ∷ sel-lesser xs ys i

-- a choice of the lesser of two vectors
pub select-lesser : (xs ys : List ℕ) → sel_l (map (top 63) (zip2 (λ a b. cond (ltb a b) (2 ^ 64 - 1) 0) xs ys)) xs ys ≡ zip2 min xs ys
select-lesser xs ys = ap (λ ms. sel_l ms xs ys) (tops_compared w64 ltb xs ys) ∙ sel-lesser xs ys
