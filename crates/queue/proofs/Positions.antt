-- The first place at which a test passes.
use Rattle.std.proofs.Common.{◌≡◌, ℕ, zero, suc, ◌+◌, ◌<◌, ◌≤◌, Bool, true, false, not, cond, ◌||◌, ltb, min, List, [], ◌∷◌, ◌++◌, length, get_or, Option, Some, None, refl, sym, ap, ◌∙◌, inl, inr, zero-add, arith}
use Rattle.std.proofs.lemmas.Bool.{cases_lt, cond-true, cond-false, lt-ltb, le-ltb}
use Rattle.std.specs.List.{position, position_or_len}
use Rattle.std.specs.Option.{option_map}
use Rattle.sim_base.specs.Scheduling.{or_else}
use Rattle.queue.specs.Moves.{before}
use Rattle.sim_base.specs.Earlier.{earlier}

place_next : (b : Bool) (place len : ℕ)
    → cond (ltb (cond (not b) (1 + place) 0) (suc len)) (Some (cond (not b) (1 + place) 0)) None ≡ cond b (Some 0) (option_map suc (cond (ltb place len) (Some place) None))
place_next true place len = cond-true (ltb 0 (suc len)) (Some 0) None (lt-ltb 0 (suc len) (omega arith))
place_next false place len =
    let next : 1 + place ≡ suc place = omega arith in
    elim (cases_lt place len) [
      | inl within ↦
          cond-true (ltb (1 + place) (suc len)) (Some (1 + place)) None (lt-ltb (1 + place) (suc len) (omega arith))
          ∙ ap Some next
          ∙ ap (option_map suc) (sym (cond-true (ltb place len) (Some place) None (lt-ltb place len within)))
      | inr over ↦
          cond-false (ltb (1 + place) (suc len)) (Some (1 + place)) None (le-ltb (1 + place) (suc len) (omega arith))
          ∙ ap (option_map suc) (sym (cond-false (ltb place len) (Some place) None (le-ltb place len over)))
    ]

pub position-cons : {X : Type 0} (p : X → Bool) (x : X) (xs : List X) → position p (x ∷ xs) ≡ cond (p x) (Some 0) (option_map suc (position p xs))
position-cons p x xs = place_next (p x) (position_or_len p xs) (length xs)

none_added : (o : Option ℕ) → o ≡ option_map (λ k. 0 + k) o
none_added None = refl
none_added (Some k) = ap Some (sym (zero-add k))

append_next : (t : Bool) (n : ℕ) (a b : Option ℕ)
    → cond t (Some 0) (option_map suc (or_else a (option_map (λ k. n + k) b))) ≡ or_else (cond t (Some 0) (option_map suc a)) (option_map (λ k. suc n + k) b)
append_next true n a b = refl
append_next false n (Some k) b = refl
append_next false n None None = refl
append_next false n None (Some k) = let there : suc (n + k) ≡ suc n + k = omega arith in ap Some there

-- the first place in two lists, one behind the other
pub position-append : {X : Type 0} (p : X → Bool) (xs ys : List X) → position p (xs ++ ys) ≡ or_else (position p xs) (option_map (λ k. length xs + k) (position p ys))
position-append p [] ys = none_added (position p ys)
position-append p (x ∷ xs) ys =
    position-cons p x (xs ++ ys)
    ∙ ap (λ o. cond (p x) (Some 0) (option_map suc o)) (position-append p xs ys)
    ∙ append_next (p x) (length xs) (position p xs) (position p ys)
    ∙ ap (λ o. or_else o (option_map (λ k. suc (length xs) + k) (position p ys))) (sym (position-cons p x xs))

either_next : (a b : Bool) (m n : Option ℕ) → cond (a || b) (Some 0) (option_map suc (earlier m n)) ≡ earlier (cond a (Some 0) (option_map suc m)) (cond b (Some 0) (option_map suc n))
either_next true true m n = refl
either_next true false m None = refl
either_next true false m (Some k) = let least : 0 ≡ min 0 (suc k) = omega arith in ap Some least
either_next false true None n = refl
either_next false true (Some k) n = let least : 0 ≡ min (suc k) 0 = omega arith in ap Some least
either_next false false None n = refl
either_next false false (Some k) None = refl
either_next false false (Some k) (Some j) = let least : suc (min k j) ≡ min (suc k) (suc j) = omega arith in ap Some least

-- the first place where one of two tests passes is the first of the places where each does
pub position-either : {X : Type 0} (p q r : X → Bool) (xs : List X) → ((x : X) → p x ≡ (q x || r x)) → position p xs ≡ earlier (position q xs) (position r xs)
position-either p q r [] each = refl
position-either p q r (x ∷ xs) each =
    position-cons p x xs
    ∙ (λ i. cond (each x i) (Some 0) (option_map suc (position-either p q r xs each i)))
    ∙ either_next (q x) (r x) (position q xs) (position r xs)
    ∙ ap (λ o. earlier o (cond (r x) (Some 0) (option_map suc (position r xs)))) (sym (position-cons q x xs))
    ∙ ap (earlier (position q (x ∷ xs))) (sym (position-cons r x xs))

before_next : (t : Bool) (n : ℕ) (o : Option ℕ) → before (suc n) (cond t (Some 0) (option_map suc o)) ≡ cond t (Some 0) (option_map suc (before n o))
before_next true n o = cond-true (ltb 0 (suc n)) (Some 0) None (lt-ltb 0 (suc n) (omega arith))
before_next false n None = refl
before_next false n (Some k) = elim (cases_lt k n) [
  | inl within ↦
      cond-true (ltb (suc k) (suc n)) (Some (suc k)) None (lt-ltb (suc k) (suc n) (omega arith))
      ∙ ap (option_map suc) (sym (cond-true (ltb k n) (Some k) None (lt-ltb k n within)))
  | inr over ↦
      cond-false (ltb (suc k) (suc n)) (Some (suc k)) None (le-ltb (suc k) (suc n) (omega arith))
      ∙ ap (option_map suc) (sym (cond-false (ltb k n) (Some k) None (le-ltb k n over)))
]

pub before_past : (n k : ℕ) → n ≤ k → before n (Some k) ≡ None
before_past n k over = cond-false (ltb k n) (Some k) None (le-ltb k n over)

pub first_none : (t : Bool) (o : Option ℕ) → cond t (Some 0) (option_map suc o) ≡ None → (t ≡ false) × (o ≡ None)
first_none true o none = cc
first_none false None none = (refl, refl)
first_none false (Some k) none = cc

-- nothing before a place passes, where the first place that does is no earlier
pub fails_before : {X : Type 0} (p : X → Bool) (xs : List X) (n : ℕ) → before n (position p xs) ≡ None → (k : ℕ) (d : X) → k < n → k < length xs → p (get_or xs k d) ≡ false
fails_before p [] n none k d sooner exists = absurd (omega arith)
fails_before p (x ∷ xs) zero none k d sooner exists = absurd (omega arith)
fails_before p (x ∷ xs) (suc n) none zero d sooner exists =
    (first_none (p x) (before n (position p xs)) (sym (before_next (p x) n (position p xs)) ∙ ap (before (suc n)) (sym (position-cons p x xs)) ∙ none)).0
fails_before p (x ∷ xs) (suc n) none (suc k) d sooner exists =
    fails_before p xs n (first_none (p x) (before n (position p xs)) (sym (before_next (p x) n (position p xs)) ∙ ap (before (suc n)) (sym (position-cons p x xs)) ∙ none)).1
    k d (omega arith) (omega arith)

-- the first place is where a test passes that did not before
pub position_here : {X : Type 0} (p : X → Bool) (xs : List X) (n : ℕ) → n < length xs → ((k : ℕ) (d : X) → k < n → k < length xs → p (get_or xs k d) ≡ false)
    → ((d : X) → p (get_or xs n d) ≡ true) → position p xs ≡ Some n
position_here p [] n exists fails here = absurd (omega arith)
position_here p (x ∷ xs) zero exists fails here = position-cons p x xs ∙ cond-true (p x) (Some 0) (option_map suc (position p xs)) (here x)
position_here p (x ∷ xs) (suc n) exists fails here =
    position-cons p x xs
    ∙ cond-false (p x) (Some 0) (option_map suc (position p xs)) (fails 0 x (omega arith) (omega arith))
    ∙ ap (option_map suc) (position_here p xs n (omega arith) (λ k d sooner within. fails (suc k) d (omega arith) (omega arith)) here)

pub position_none : {X : Type 0} (p : X → Bool) (xs : List X) → ((k : ℕ) (d : X) → k < length xs → p (get_or xs k d) ≡ false) → position p xs ≡ None
position_none p [] fails = refl
position_none p (x ∷ xs) fails =
    position-cons p x xs
    ∙ cond-false (p x) (Some 0) (option_map suc (position p xs)) (fails 0 x (omega arith))
    ∙ ap (option_map suc) (position_none p xs (λ k d within. fails (suc k) d (omega arith)))
