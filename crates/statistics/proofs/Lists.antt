-- Counts, sums and searches over the numbers below n, one number more; and the end of a list.
use Rattle.std.proofs.Common.{◌≡◌, ℕ, zero, suc, ◌+◌, ◌<◌, ◌≤◌, Bool, true, false, cond, List, [], ◌∷◌, ◌++◌, length, map, take, Option, Some, None, refl, sym, ap, ap₂, ◌∙◌, arith}
use Rattle.std.specs.Prelude.{count_by, sum, find}
use Rattle.std.specs.List.{prefix_len}
use Rattle.std.specs.Option.{option_or}
use Rattle.std.proofs.lemmas.List.{map-append, take-append-le}
use Rattle.std.proofs.lemmas.List.Folds.{find-append}
use Rattle.std.proofs.lemmas.List.Sums.{sum_by_push}
use Rattle.sim_base.proofs.Below.{below_more}
use Rattle.sim_base.specs.History.{below}
use Rattle.sim_base.specs.Counts.{one_if}

pub take-push : {X : Type 0} (xs : List X) (x : X) (n : ℕ) → n ≤ length xs → take n (xs ++ x ∷ []) ≡ take n xs
take-push xs x n h = take-append-le n xs (x ∷ []) h

pub map_below_more : {X : Type 0} (f : ℕ → X) (n : ℕ) → map f (below (suc n)) ≡ map f (below n) ++ f n ∷ []
map_below_more f n = ap (map f) (below_more n) ∙ map-append f (below n) (n ∷ [])

pub map_below_same : {X : Type 0} (f g : ℕ → X) (n : ℕ) → ((k : ℕ) → k < n → f k ≡ g k) → map f (below n) ≡ map g (below n)
map_below_same f g zero h = refl
map_below_same f g (suc n) h =
    map_below_more f n
    ∙ ap₂ (λ xs x. xs ++ x ∷ []) (map_below_same f g n (λ k l. h k (omega arith))) (h n (omega arith))
    ∙ sym (map_below_more g n)

pub count_below_more : (p : ℕ → Bool) (n : ℕ) → count_by p (below (suc n)) ≡ count_by p (below n) + one_if (p n)
count_below_more p n = ap (count_by p) (below_more n) ∙ sum_by_push (λ k. one_if (p k)) (below n) n

pub count_below_same : (p q : ℕ → Bool) (n : ℕ) → ((k : ℕ) → k < n → p k ≡ q k) → count_by p (below n) ≡ count_by q (below n)
count_below_same p q zero h = refl
count_below_same p q (suc n) h =
    count_below_more p n
    ∙ ap₂ (λ a b. a + one_if b) (count_below_same p q n (λ k l. h k (omega arith))) (h n (omega arith))
    ∙ sym (count_below_more q n)

pub find_below_more : (p : ℕ → Bool) (n : ℕ) → find p (below (suc n)) ≡ option_or (find p (below n)) (cond (p n) (Some n) None)
find_below_more p n = ap (find p) (below_more n) ∙ find-append p (below n) (n ∷ [])

pub find_below_same : (p q : ℕ → Bool) (n : ℕ) → ((k : ℕ) → k < n → p k ≡ q k) → find p (below n) ≡ find q (below n)
find_below_same p q zero h = refl
find_below_same p q (suc n) h =
    find_below_more p n
    ∙ ap₂ (λ a b. option_or a (cond b (Some n) None)) (find_below_same p q n (λ k l. h k (omega arith))) (h n (omega arith))
    ∙ sym (find_below_more q n)

pub option_or-none : {X : Type 0} (o : Option X) → option_or o None ≡ o
option_or-none None = refl
option_or-none (Some x) = refl

pub sum_push : (xs : List ℕ) (x : ℕ) → sum (xs ++ x ∷ []) ≡ sum xs + x
sum_push xs x = sum_by_push (λ n. n) xs x

-- what comes after an element at which the prefix stops does not make it longer
pub prefix_len-append_stop : {X : Type 0} (p : X → Bool) (xs ys : List X) → prefix_len p xs < length xs → prefix_len p (xs ++ ys) ≡ prefix_len p xs
prefix_len-append_stop p [] ys h = absurd (omega arith)
prefix_len-append_stop p (x ∷ xs) ys h = by (p x) h (λ k. prefix_len-append_stop p xs ys k)
  where
    by : (b : Bool) → cond b (1 + prefix_len p xs) 0 < suc (length xs)
        → (prefix_len p xs < length xs → prefix_len p (xs ++ ys) ≡ prefix_len p xs)
        → cond b (1 + prefix_len p (xs ++ ys)) 0 ≡ cond b (1 + prefix_len p xs) 0
    by true k rest = ap (λ n. 1 + n) (rest (omega arith))
    by false k rest = refl
