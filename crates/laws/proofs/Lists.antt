-- Parts of a list, and the first number that passes a test.
use Rattle.std.proofs.Common.{◌≡◌, ℕ, zero, suc, ◌+◌, ◌<◌, ◌≤◌, Bool, false, List, [], ◌∷◌, take, drop, Option, Some, None, refl, sym, ap, ◌∙◌, arith, add-zero, ◌⊎◌, inl, inr}
use Rattle.std.specs.Prelude.{find, slice_get, unwrap_or}
use Rattle.std.specs.Option.{MatchOption}
use Rattle.std.specs.List.{AllByRecursion as Each, enumerate_from, range_with_len}
use Rattle.std.proofs.lemmas.Bool.{cond_both, cases_lt}
use Rattle.sim_base.specs.History.{below}
use Rattle.sim_base.proofs.Lists.{slice_get-drop}

pub take-enumerate : {X : Type 0} (n i : ℕ) (xs : List X) → take n (enumerate_from i xs) ≡ enumerate_from i (take n xs)
take-enumerate zero i xs = refl
take-enumerate (suc n) i [] = refl
take-enumerate (suc n) i (x ∷ xs) = ap (λ z. (i, x) ∷ z) (take-enumerate n (i + 1) xs)

pub Each-enumerate_from : {X : Type 0} (P : ℕ × X → Type 0) (i : ℕ) (xs : List X) → ((j : ℕ) (x : X) → slice_get xs j ≡ Some x → P (i + j, x)) → Each P (enumerate_from i xs)
Each-enumerate_from P i [] h = tt
Each-enumerate_from P i (x ∷ xs) h = (
  rw add-zero at (h zero x refl),
  Each-enumerate_from P (i + 1) xs (λ j y e. let f : i + suc j ≡ i + 1 + j = omega arith in rw f at (h (suc j) y e)),
)

slice_get-take : {X : Type 0} (m : ℕ) (xs : List X) (j : ℕ) (x : X) → slice_get (take m xs) j ≡ Some x → (j < m) × (slice_get xs j ≡ Some x)
slice_get-take zero xs j x e = cc
slice_get-take (suc m) [] j x e = cc
slice_get-take (suc m) (y ∷ xs) zero x e = (omega arith, e)
slice_get-take (suc m) (y ∷ xs) (suc j) x e = let h = slice_get-take m xs j x e in (omega arith, h.1)

-- an element of the first m of the elements from n on
pub slice_get-take_drop : {X : Type 0} (m n : ℕ) (xs : List X) (j : ℕ) (x : X) → slice_get (take m (drop n xs)) j ≡ Some x → (j < m) × (slice_get xs (n + j) ≡ Some x)
slice_get-take_drop m n xs j x e = let h = slice_get-take m (drop n xs) j x e in (h.0, sym (slice_get-drop xs n j) ∙ h.1)

-- each number before the first that passes a test fails it
abbrev pub FailsBefore : (ℕ → Bool) → ℕ → ℕ → Type 0
FailsBefore p a end = (j : ℕ) → a ≤ j → j < end → p j ≡ false

fails_from : (p : ℕ → Bool) (a end : ℕ) → p a ≡ false → FailsBefore p (a + 1) end → FailsBefore p a end
fails_from p a end e h j l m = go (cases_lt a j)
  where
    go : (a < j) ⊎ (j ≤ a) → p j ≡ false
    go (inl b) = h j (omega arith) m
    go (inr b) = let f : j ≡ a = omega arith in ap p f ∙ e

pub find-range : (p : ℕ → Bool) (a k : ℕ) → MatchOption (find p (range_with_len a k)) (FailsBefore p a (a + k)) (FailsBefore p a)
find-range p a zero = λ j l h. absurd (omega arith)
find-range p a (suc k) =
    cond_both (p a) (Some a) (find p (range_with_len (a + 1) k)) (λ o. MatchOption o (FailsBefore p a (a + suc k)) (FailsBefore p a))
    (λ e j l h. absurd (omega arith))
    (λ e. more e (find p (range_with_len (a + 1) k)) (find-range p (a + 1) k))
  where
    more : p a ≡ false → (o : Option ℕ) → MatchOption o (FailsBefore p (a + 1) (a + 1 + k)) (FailsBefore p (a + 1)) → MatchOption o (FailsBefore p a (a + suc k)) (FailsBefore p a)
    more e None h = fails_from p a (a + suc k) e (λ j l m. h j l (omega arith))
    more e (Some i) h = fails_from p a i e h

pub fails_before_first : (p : ℕ → Bool) (n j : ℕ) → j < unwrap_or (find p (below (n + 1))) n → p j ≡ false
fails_before_first p n j l = go (find p (below (n + 1))) (find-range p 0 (n + 1)) l
  where
    go : (o : Option ℕ) → MatchOption o (FailsBefore p 0 (0 + (n + 1))) (FailsBefore p 0) → j < unwrap_or o n → p j ≡ false
    go None h m = h j (omega arith) (omega arith)
    go (Some i) h m = h j (omega arith) m
