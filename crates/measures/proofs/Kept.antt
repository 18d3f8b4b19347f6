-- What a filter keeps of one more command.
use Rattle.std.proofs.Common.{◌≡◌, ℕ, zero, suc, ◌+◌, Bool, true, false, cond, List, [], ◌∷◌, ◌++◌, take, Some, None, slice_get, refl, ap, ◌∙◌, add-one}
use Rattle.std.specs.Prelude.{filter}

by_yes : {A : Type 0} (p : A → Bool) (xs : List A) (i : ℕ) (x : A) → slice_get xs i ≡ Some x → p x ≡ true → filter p (take (suc i) xs) ≡ filter p (take i xs) ++ x ∷ []
by_yes p [] i x at passes = absurd cc
by_yes p (y ∷ ys) zero x at passes = let same : y ≡ x = cc in rw same (rw passes refl)
by_yes p (y ∷ ys) (suc i) x at passes = go (p y) (by_yes p ys i x at passes)
  where
    go : (b : Bool) → filter p (take (suc i) ys) ≡ filter p (take i ys) ++ x ∷ [] → cond b (y ∷ filter p (take (suc i) ys)) (filter p (take (suc i) ys)) ≡ cond b (y ∷ filter p (take i ys)) (filter p (take i ys)) ++ x ∷ []
    go true rest = ap (λ zs. y ∷ zs) rest
    go false rest = rest

by_no : {A : Type 0} (p : A → Bool) (xs : List A) (i : ℕ) (x : A) → slice_get xs i ≡ Some x → p x ≡ false → filter p (take (suc i) xs) ≡ filter p (take i xs)
by_no p [] i x at fails = absurd cc
by_no p (y ∷ ys) zero x at fails = let same : y ≡ x = cc in rw same (rw fails refl)
by_no p (y ∷ ys) (suc i) x at fails = go (p y) (by_no p ys i x at fails)
  where
    go : (b : Bool) → filter p (take (suc i) ys) ≡ filter p (take i ys) → cond b (y ∷ filter p (take (suc i) ys)) (filter p (take (suc i) ys)) ≡ cond b (y ∷ filter p (take i ys)) (filter p (take i ys))
    go true rest = ap (λ zs. y ∷ zs) rest
    go false rest = rest

by_none : {A : Type 0} (xs : List A) (i : ℕ) → slice_get xs i ≡ None → take (suc i) xs ≡ take i xs
by_none [] zero at = refl
by_none [] (suc i) at = refl
by_none (y ∷ ys) zero at = absurd cc
by_none (y ∷ ys) (suc i) at = ap (λ zs. y ∷ zs) (by_none ys i at)

-- one that passes is kept
pub filter_kept : {A : Type 0} (p : A → Bool) (xs : List A) (i : ℕ) (x : A) → slice_get xs i ≡ Some x → p x ≡ true → filter p (take (i + 1) xs) ≡ filter p (take i xs) ++ x ∷ []
filter_kept p xs i x at passes = ap (λ n. filter p (take n xs)) (add-one i) ∙ by_yes p xs i x at passes

-- one that does not is not
pub filter_left : {A : Type 0} (p : A → Bool) (xs : List A) (i : ℕ) (x : A) → slice_get xs i ≡ Some x → p x ≡ false → filter p (take (i + 1) xs) ≡ filter p (take i xs)
filter_left p xs i x at fails = ap (λ n. filter p (take n xs)) (add-one i) ∙ by_no p xs i x at fails

-- behind the last one there is nothing to keep
pub filter_done : {A : Type 0} (p : A → Bool) (xs : List A) (i : ℕ) → slice_get xs i ≡ None → filter p (take (i + 1) xs) ≡ filter p (take i xs)
filter_done p xs i at = ap (λ n. filter p (take n xs)) (add-one i) ∙ ap (filter p) (by_none xs i at)
