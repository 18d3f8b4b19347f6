-- How many elements of a list pass a test.
use Rattle.std.proofs.Common.{◌≡◌, ℕ, zero, suc, ◌+◌, ◌<◌, ◌≤◌, Bool, true, false, ◌&&◌, cond, List, [], ◌∷◌, ◌++◌, length, get_or, Option, Some, None, refl, sym, ap, ap₂, ◌∙◌, ◌⊎◌, inl, inr, arith, zero-add}
use Rattle.std.specs.Prelude.{count_by, filter, filter_map, flat_map}
use Rattle.std.specs.List.{AllByRecursion as Each, list_all, cons_option}
use Rattle.std.proofs.lemmas.Bool.{false≢true, cond_both, and_parts, cases_eq, cases_lt}
use Rattle.std.proofs.lemmas.List.Sums.{sum_by-append}
use Rattle.sim_base.specs.History.{below}
use Rattle.sim_base.proofs.Below.{flat_map_below_more}
use Rattle.sim_base.proofs.Lists.{count-cons}

pub count-append : {X : Type 0} (p : X → Bool) (xs ys : List X) → count_by p (xs ++ ys) ≡ count_by p xs + count_by p ys
count-append p xs ys = sum_by-append (λ y. cond (p y) 1 0) xs ys

pub count-none : {X : Type 0} (p : X → Bool) (xs : List X) → Each (λ x. p x ≡ false) xs → count_by p xs ≡ 0
count-none p [] h = refl
count-none p (x ∷ xs) h = count-cons p x xs ∙ ap₂ (λ b n. cond b 1 0 + n) h.0 (count-none p xs h.1)

pub Each-list_all : {X : Type 0} (p : X → Bool) (xs : List X) → list_all p xs ≡ true → Each (λ x. p x ≡ true) xs
Each-list_all p [] h = tt
Each-list_all p (x ∷ xs) h = let both = and_parts (p x) (list_all p xs) h in (both.0, Each-list_all p xs both.1)

pub bit_le : (a b : Bool) → (a ≡ true → b ≡ true) → cond a 1 0 ≤ cond b 1 0
bit_le false b k = omega arith
bit_le true b k = rw (k refl) (omega arith)

pub count-weaker : {X : Type 0} (p q : X → Bool) → ((x : X) → p x ≡ true → q x ≡ true) → (xs : List X) → count_by p xs ≤ count_by q xs
count-weaker p q h [] = omega arith
count-weaker p q h (x ∷ xs) =
    let rest : count_by p xs ≤ count_by q xs = count-weaker p q h xs in
    let here : cond (p x) 1 0 ≤ cond (q x) 1 0 = bit_le (p x) (q x) (h x) in
    omega (arith, count-cons p x xs, count-cons q x xs)

pub count-flat_map-none : {X : Type 0} (p : X → Bool) (f : ℕ → List X) (n : ℕ) → ((i : ℕ) → i < n → count_by p (f i) ≡ 0) → count_by p (flat_map f (below n)) ≡ 0
count-flat_map-none p f zero h = refl
count-flat_map-none p f (suc n) h =
    let rest : count_by p (flat_map f (below n)) ≡ 0 = count-flat_map-none p f n (λ i l. h i (omega arith)) in
    let here : count_by p (f n) ≡ 0 = h n (omega arith) in
    let e : count_by p (flat_map f (below (suc n))) ≡ count_by p (flat_map f (below n)) + count_by p (f n) = ap (count_by p) (flat_map_below_more f n) ∙ count-append p (flat_map f (below n)) (f n) in
    omega arith

-- a count over the parts of which only one passes the test at all
pub count-flat_map-one : {X : Type 0} (p : X → Bool) (f : ℕ → List X) (n j : ℕ) → j < n → ((i : ℕ) → i < n → (i ≡ j → ⊥) → count_by p (f i) ≡ 0)
    → count_by p (flat_map f (below n)) ≡ count_by p (f j)
count-flat_map-one p f zero j l h = absurd (omega arith)
count-flat_map-one p f (suc n) j l h =
    let e : count_by p (flat_map f (below (suc n))) ≡ count_by p (flat_map f (below n)) + count_by p (f n) = ap (count_by p) (flat_map_below_more f n) ∙ count-append p (flat_map f (below n)) (f n) in
    go e (cases_eq n j) (λ m. count-flat_map-one p f n j m (λ i b. h i (omega arith)))
  where
    go : count_by p (flat_map f (below (suc n))) ≡ count_by p (flat_map f (below n)) + count_by p (f n) → (n ≡ j) ⊎ (n ≡ j → ⊥)
        → (j < n → count_by p (flat_map f (below n)) ≡ count_by p (f j)) → count_by p (flat_map f (below (suc n))) ≡ count_by p (f j)
    go e (inl k) rest =
        let none : count_by p (flat_map f (below n)) ≡ 0 = count-flat_map-none p f n (λ i b. h i (omega arith) (λ g. omega arith)) in
        e ∙ ap (λ x. x + count_by p (f n)) none ∙ zero-add _ ∙ ap (λ i. count_by p (f i)) k
    go e (inr k) rest =
        let none : count_by p (f n) ≡ 0 = h n (omega arith) k in
        let r : count_by p (flat_map f (below n)) ≡ count_by p (f j) = rest (omega arith) in
        omega arith

pub count-flat_map-bound : {X : Type 0} (p : X → Bool) (f : ℕ → List X) (n j b : ℕ) → ((i : ℕ) → i < n → (i ≡ j → ⊥) → count_by p (f i) ≡ 0)
    → (j < n → count_by p (f j) ≤ b) → count_by p (flat_map f (below n)) ≤ b
count-flat_map-bound p f n j b h k = go (cases_lt j n)
  where
    go : (j < n) ⊎ (n ≤ j) → count_by p (flat_map f (below n)) ≤ b
    go (inl l) = let e : count_by p (flat_map f (below n)) ≡ count_by p (f j) = count-flat_map-one p f n j l h in let m = k l in omega arith
    go (inr l) = let e : count_by p (flat_map f (below n)) ≡ 0 = count-flat_map-none p f n (λ i a. h i a (λ g. omega arith)) in omega arith

pub count-filter : {X : Type 0} (p q : X → Bool) (xs : List X) → count_by q (filter p xs) ≡ count_by (λ x. p x && q x) xs
count-filter p q [] = refl
count-filter p q (x ∷ xs) =
    cond_both (p x) (x ∷ filter p xs) (filter p xs) (λ ys. count_by q ys ≡ count_by (λ x. p x && q x) (x ∷ xs))
    (λ e. count-cons q x (filter p xs) ∙ ap₂ (λ a b. cond (a && q x) 1 0 + b) (sym e) (count-filter p q xs) ∙ sym (count-cons (λ x. p x && q x) x xs))
    (λ e. count-filter p q xs ∙ sym (zero-add _) ∙ ap (λ a. cond (a && q x) 1 0 + count_by (λ x. p x && q x) xs) (sym e) ∙ sym (count-cons (λ x. p x && q x) x xs))

pub count-weaker_each : {X : Type 0} (p q : X → Bool) (xs : List X) → Each (λ x. p x ≡ true → q x ≡ true) xs → count_by p xs ≤ count_by q xs
count-weaker_each p q [] h = omega arith
count-weaker_each p q (x ∷ xs) h =
    let rest : count_by p xs ≤ count_by q xs = count-weaker_each p q xs h.1 in
    let here : cond (p x) 1 0 ≤ cond (q x) 1 0 = bit_le (p x) (q x) h.0 in
    omega (arith, count-cons p x xs, count-cons q x xs)

-- one of those that pass the one test fails the other
pub count-fewer : {X : Type 0} (p q : X → Bool) → ((x : X) → p x ≡ true → q x ≡ true) → (xs : List X) (y : X) (k : ℕ) → k < length xs → get_or xs k y ≡ y → q y ≡ true → p y ≡ false
    → count_by p xs + 1 ≤ count_by q xs
count-fewer p q h [] y k l e f g = absurd (omega arith)
count-fewer p q h (x ∷ xs) y zero l e f g =
    let rest : count_by p xs ≤ count_by q xs = count-weaker p q h xs in
    let a : count_by p (x ∷ xs) ≡ 0 + count_by p xs = count-cons p x xs ∙ ap (λ b. cond b 1 0 + count_by p xs) (ap p e ∙ g) in
    let b : count_by q (x ∷ xs) ≡ 1 + count_by q xs = count-cons q x xs ∙ ap (λ b. cond b 1 0 + count_by q xs) (ap q e ∙ f) in
    omega arith
count-fewer p q h (x ∷ xs) y (suc k) l e f g =
    let rest : count_by p xs + 1 ≤ count_by q xs = count-fewer p q h xs y k (omega arith) e f g in
    let here : cond (p x) 1 0 ≤ cond (q x) 1 0 = bit_le (p x) (q x) (h x) in
    omega (arith, count-cons p x xs, count-cons q x xs)

-- what passes a test passes one of two others
pub count-split : {X : Type 0} (p q r : X → Bool) → ((x : X) → p x ≡ true → (q x ≡ true) ⊎ (r x ≡ true)) → (xs : List X) → count_by p xs ≤ count_by q xs + count_by r xs
count-split p q r h [] = omega arith
count-split p q r h (x ∷ xs) =
    let rest : count_by p xs ≤ count_by q xs + count_by r xs = count-split p q r h xs in
    let here : cond (p x) 1 0 ≤ cond (q x) 1 0 + cond (r x) 1 0 = one (p x) (q x) (r x) (h x) in
    omega (arith, count-cons p x xs, count-cons q x xs, count-cons r x xs)
  where
    either : (b c : Bool) → (b ≡ true) ⊎ (c ≡ true) → 1 ≤ cond b 1 0 + cond c 1 0
    either true c k = omega arith
    either false true k = omega arith
    either false false (inl e) = absurd (false≢true e)
    either false false (inr e) = absurd (false≢true e)

    one : (a b c : Bool) → (a ≡ true → (b ≡ true) ⊎ (c ≡ true)) → cond a 1 0 ≤ cond b 1 0 + cond c 1 0
    one false b c k = omega arith
    one true b c k = either b c (k refl)

-- a test of what may be there
abbrev pub test_in : {X : Type 0} → (X → Bool) → Option X → Bool
test_in q None = false
test_in q (Some x) = q x

pub count-filter_map : {X Y : Type 0} (q : Y → Bool) (f : X → Option Y) (xs : List X) → count_by q (filter_map f xs) ≡ count_by (λ x. test_in q (f x)) xs
count-filter_map q f [] = refl
count-filter_map {X} {Y} q f (x ∷ xs) = go (f x) (count-filter_map q f xs) ∙ sym (count-cons (λ x. test_in q (f x)) x xs)
  where
    go : (o : Option Y) → count_by q (filter_map f xs) ≡ count_by (λ x. test_in q (f x)) xs → count_by q (cons_option o (filter_map f xs)) ≡ cond (test_in q o) 1 0 + count_by (λ x. test_in q (f x)) xs
    go None e = e ∙ sym (zero-add _)
    go (Some y) e = count-cons q y (filter_map f xs) ∙ ap (λ n. cond (q y) 1 0 + n) e
