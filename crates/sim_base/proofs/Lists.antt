-- Lists and counts, whatever they are of.
use Rattle.std.proofs.Common.{◌≡◌, Bool, cond, List, [], ◌∷◌, refl, ap₂, true, ap, ◌∙◌, false, ◌&&◌, ◌||◌, suc, ◌≤◌, length, arith, ◌+◌, ◌++◌, sym, ℕ, add-zero, zero, drop, zero-add, Some, take, ◌⊎◌, inl, inr, Option, None, map, add-one, ◌<◌, eqb, eq-eqb, ne_eqb}
use Rattle.std.specs.Prelude.{filter, count_by, slice_get, option_map, flat_map, find, is_some, not}
use Rattle.std.specs.List.{AllByRecursion as Each, enumerate_from, cons_option, range_with_len}
use Rattle.std.proofs.lemmas.Bool.{false≢true, cond-true, cond-false, cond_both, cases_Bool, eqb-true, eqb-false}
use Rattle.std.proofs.lemmas.List.Sums.{sum_by-cons, sum_by_push}
use Rattle.std.proofs.Math.Nat.{suc-add}
use Rattle.std.specs.Option.{option_to_list}
use Rattle.std.specs.declared.vec.Vec.{Vec}
use Rattle.std.specs.Vec.{with_items}
use Rattle.std.proofs.lemmas.List.FromFn.{map-range_with_len_more, length-range_with_len}
use Rattle.sim_base.specs.History.{below}
use Rattle.sim_base.proofs.Below.{flat_map_below_more as flat_map_below_suc}
use Rattle.std.proofs.lemmas.List.{length-map, with_items_is}

-- two tests that agree on each element keep the same
pub filter-agree : {X : Type 0} (p q : X → Bool) (xs : List X) → Each (λ x. p x ≡ q x) xs → filter p xs ≡ filter q xs
filter-agree p q [] h = refl
filter-agree p q (x ∷ xs) h = ap₂ (λ b y. cond b (x ∷ y) y) h.0 (filter-agree p q xs h.1)

-- a test that passes each element keeps all, and one that passes none keeps none
pub filter-each : {X : Type 0} (p : X → Bool) (xs : List X) → Each (λ x. p x ≡ true) xs → filter p xs ≡ xs
filter-each p [] h = refl
filter-each p (x ∷ xs) h = cond-true _ _ _ h.0 ∙ ap (λ y. x ∷ y) (filter-each p xs h.1)

pub filter-none : {X : Type 0} (p : X → Bool) (xs : List X) → Each (λ x. p x ≡ false) xs → filter p xs ≡ []
filter-none p [] h = refl
filter-none p (x ∷ xs) h = cond-false _ _ _ h.0 ∙ filter-none p xs h.1

-- two tests, one after the other
pub filter-both : {X : Type 0} (p q r : X → Bool) → ((x : X) → r x ≡ (q x && p x)) → (xs : List X) → filter r xs ≡ filter p (filter q xs)
filter-both p q r h [] = refl
filter-both p q r h (x ∷ xs) =
    let rest = filter-both p q r h xs in
    cond_both (q x) (x ∷ filter q xs) (filter q xs) (λ z. filter r (x ∷ xs) ≡ filter p z)
    (λ e. ap₂ (λ b y. cond b (x ∷ y) y) (h x ∙ ap (λ b. b && p x) e) rest)
    (λ e. ap (λ b. cond b (x ∷ filter r xs) (filter r xs)) (h x ∙ ap (λ b. b && p x) e) ∙ rest)

-- no more is kept than there is
pub length-filter-le : {X : Type 0} (p : X → Bool) (xs : List X) → length (filter p xs) ≤ length xs
length-filter-le p [] = omega arith
length-filter-le p (x ∷ xs) = cond_both (p x) (x ∷ filter p xs) (filter p xs) (λ l. length l ≤ suc (length xs)) (λ e. omega (arith, length-filter-le p xs)) (λ e. omega (arith, length-filter-le p xs))

-- the first element is counted where it passes
pub count-cons : {X : Type 0} (p : X → Bool) (x : X) (xs : List X) → count_by p (x ∷ xs) ≡ cond (p x) 1 0 + count_by p xs
count-cons p x xs = sum_by-cons (λ y. cond (p y) 1 0) x xs

-- one element more is counted where it passes
pub count-push : {X : Type 0} (p : X → Bool) (xs : List X) (x : X) → count_by p (xs ++ x ∷ []) ≡ count_by p xs + cond (p x) 1 0
count-push p xs x = sum_by_push (λ y. cond (p y) 1 0) xs x

-- two tests that agree count the same
pub count-same : {X : Type 0} (p q : X → Bool) → ((x : X) → p x ≡ q x) → (xs : List X) → count_by p xs ≡ count_by q xs
count-same p q h [] = refl
count-same p q h (x ∷ xs) = count-cons p x xs ∙ ap₂ (λ b n. cond b 1 0 + n) (h x) (count-same p q h xs) ∙ sym (count-cons q x xs)

-- a bit is at most 1
pub bit : (b : Bool) → cond b 1 0 ≤ 1
bit true = omega arith
bit false = omega arith

-- the numbers of a list go on behind it
pub enumerate-append : {X : Type 0} (i : ℕ) (xs ys : List X) → enumerate_from i (xs ++ ys) ≡ enumerate_from i xs ++ enumerate_from (i + length xs) ys
enumerate-append i [] ys = rw add-zero refl
enumerate-append i (x ∷ xs) ys =
    let e : i + 1 + length xs ≡ i + suc (length xs) = omega arith in
    ap (λ z. (i, x) ∷ z) (enumerate-append (i + 1) xs ys ∙ ap (λ j. enumerate_from (i + 1) xs ++ enumerate_from j ys) e)

-- an element behind others
pub slice_get-drop : {X : Type 0} (xs : List X) (n k : ℕ) → slice_get (drop n xs) k ≡ slice_get xs (n + k)
slice_get-drop [] zero k = refl
slice_get-drop [] (suc n) k = refl
slice_get-drop (x ∷ xs) zero k = ap (slice_get (x ∷ xs)) (sym (zero-add k))
slice_get-drop (x ∷ xs) (suc n) k = slice_get-drop xs n k ∙ ap (slice_get (x ∷ xs)) (sym (suc-add n k))

pub slice_get-enumerate : {X : Type 0} (i : ℕ) (xs : List X) (k : ℕ) → slice_get (enumerate_from i xs) k ≡ option_map (λ x. (i + k, x)) (slice_get xs k)
slice_get-enumerate i [] k = refl
slice_get-enumerate i (x ∷ xs) zero = ap (λ n. Some (n, x)) (sym (add-zero i))
slice_get-enumerate i (x ∷ xs) (suc k) =
    let e : i + 1 + k ≡ i + suc k = omega arith in
    slice_get-enumerate (i + 1) xs k ∙ ap (λ n. option_map (λ x. (n, x)) (slice_get xs k)) e

-- an element among the first so many
pub get-take : {X : Type 0} (xs : List X) (n k : ℕ) → k < n → slice_get (take n xs) k ≡ slice_get xs k
get-take xs zero k l = absurd (omega (arith, l))
get-take [] (suc n) k l = refl
get-take (x ∷ xs) (suc n) zero l = refl
get-take (x ∷ xs) (suc n) (suc k) l = get-take xs n k (omega (arith, l))

-- where no element stands, none is left from there on
pub drop-at_none : {X : Type 0} (xs : List X) (k : ℕ) → slice_get xs k ≡ None → drop k xs ≡ []
drop-at_none [] zero e = refl
drop-at_none [] (suc k) e = refl
drop-at_none (x ∷ xs) zero e = cc
drop-at_none (x ∷ xs) (suc k) e = drop-at_none xs k e

-- one more of the first elements
pub take_more : {X : Type 0} (xs : List X) (k : ℕ) → take (suc k) xs ≡ take k xs ++ option_to_list (slice_get xs k)
take_more [] zero = refl
take_more [] (suc k) = refl
take_more (x ∷ xs) zero = refl
take_more (x ∷ xs) (suc k) = ap (λ l. x ∷ l) (take_more xs k)

-- an element of a list with one more behind it
pub get-push : {X : Type 0} (xs : List X) (x : X) (i : ℕ) (y : X) → slice_get (xs ++ x ∷ []) i ≡ Some y → (slice_get xs i ≡ Some y) ⊎ ((i ≡ length xs) × (x ≡ y))
get-push [] x zero y e = inr (refl, cc)
get-push [] x (suc i) y e = cc
get-push (z ∷ xs) x zero y e = inl e
get-push (z ∷ xs) x (suc i) y e = step (get-push xs x i y e)
  where
    step : (slice_get xs i ≡ Some y) ⊎ ((i ≡ length xs) × (x ≡ y)) → (slice_get (z ∷ xs) (suc i) ≡ Some y) ⊎ ((suc i ≡ length (z ∷ xs)) × (x ≡ y))
    step (inl f) = inl f
    step (inr f) = inr (ap suc f.0, f.1)

-- at most one element
pub cons_option-none : {X : Type 0} (o : Option X) → cons_option o [] ≡ option_to_list o
cons_option-none None = refl
cons_option-none (Some x) = refl

-- one number more
pub map_below-more : {X : Type 0} (f : ℕ → X) (n : ℕ) → map f (below (n + 1)) ≡ map f (below n) ++ f n ∷ []
map_below-more f n = map-range_with_len_more f 0 n n (zero-add n)

pub flat_map_below-more : {X : Type 0} (f : ℕ → List X) (n : ℕ) → flat_map f (below (n + 1)) ≡ flat_map f (below n) ++ f n
flat_map_below-more f n = ap (λ k. flat_map f (below k)) (add-one n) ∙ flat_map_below_suc f n

pub length-map_below : {X : Type 0} (f : ℕ → X) (n : ℕ) → length (map f (below n)) ≡ n
length-map_below f n = length-map (below n) f ∙ length-range_with_len 0 n

-- none is found where none passes
pub find-none : (p : ℕ → Bool) (a n : ℕ) → ((k : ℕ) → a ≤ k → k < a + n → p k ≡ false) → find p (range_with_len a n) ≡ None
find-none p a zero none = refl
find-none p a (suc n) none =
    cond-false (p a) (Some a) (find p (range_with_len (a + 1) n)) (none a (omega arith) (omega arith)) ∙ find-none p (a + 1) n (λ k l m. none k (omega arith) (omega arith))

-- what is not there is none
pub none-is : {X : Type 0} (o : Option X) → is_some o ≡ false → o ≡ None
none-is None h = refl
none-is (Some x) h = absurd (false≢true (sym h))

-- an element where a test holds, and else a choice, gives none: the test fails, and the choice is none
pub cond-none : {X : Type 0} (b : Bool) (x : X) (o : Option X) → cond b (Some x) o ≡ None → (b ≡ false) × (o ≡ None)
cond-none true x o e = cc e
cond-none false x o e = (refl, e)

-- the order does not matter
pub eqb-swap : (a b : ℕ) → eqb a b ≡ eqb b a
eqb-swap a b = elim (cases_Bool (eqb a b)) [
  | inl same ↦ same ∙ sym (eq-eqb b a (sym (eqb-true a b same)))
  | inr apart ↦ apart ∙ sym (ne_eqb b a (λ e. eqb-false a b apart (sym e)))
]

-- what equal lists begin with, and go on with
pub nonempty : {X : Type 0} (x : X) (xs : List X) → [] ≡ x ∷ xs → ⊥
nonempty x xs e = cc

pub heads : {X : Type 0} (x y : X) (xs ys : List X) → x ∷ xs ≡ y ∷ ys → x ≡ y
heads x y xs ys e = cc

pub tails : {X : Type 0} (x y : X) (xs ys : List X) → x ∷ xs ≡ y ∷ ys → xs ≡ ys
tails x y xs ys e = cc

-- neither of two
pub not-or : (a b : Bool) → not (a || b) ≡ (not a && not b)
not-or true b = refl
not-or false b = refl

-- a vector that was lent to a loop, and what the loop gave back
pub with_items_lent : {X Z : Type 0} (v : Vec X Z) (lent given : List X) → lent ≡ v.items → length given ≡ length lent → (with_items v given).items ≡ given
with_items_lent v lent given is long = with_items_is v given (long ∙ ap length is ∙ sym v.ok.0)

pub length-lent : {X Z : Type 0} (v : Vec X Z) (lent given : List X) → lent ≡ v.items → length given ≡ length lent → length (with_items v given).items ≡ length v.items
length-lent v lent given is long = ap length (with_items_lent v lent given is long) ∙ long ∙ ap length is

-- an element of a list that has some
pub some-of : {X : Type 0} (xs : List X) → 0 < length xs → X
some-of [] l = absurd (omega (arith, l))
some-of (x ∷ xs) l = x
