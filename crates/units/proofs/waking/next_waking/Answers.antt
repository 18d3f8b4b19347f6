use Rattle.std.proofs.Common.{◌≡◌, ◌+◌, ◌-◌, ◌<◌, ◌≤◌, ℕ, Bool, true, false, ltb, List, length, take, drop, get_or, Some, None, inl, inr, sym, ap, ◌∙◌, length-drop, arith}
use Rattle.std.specs.List.{position, position_or_len}
use Rattle.std.proofs.lemmas.Bool.{cases_lt, cond-true, lt-ltb, ltb-true, ltb-false}
use Rattle.std.proofs.lemmas.List.{get_or-drop, take_all}
use Rattle.std.proofs.lemmas.List.Quantifiers.{position-Some}
use Rattle.std.proofs.lemmas.List.Sums.{fails_before_first}
use Rattle.units.proofs.waking.next_waking.Goals as goal

-- the words behind a place
cut : (words : List ℕ) (from : ℕ) → drop from words ≡ take (length words - from) (drop from words)
cut words from = sym (take_all (length words - from) (drop from words) (omega (arith, length-drop from words)))

-- one of them, among all words
behind : (words : List ℕ) (from k : ℕ) → from ≤ k → get_or (drop from words) (k - from) 0 ≡ get_or words k 0
behind words from k m = let e : from + (k - from) ≡ k = omega (arith, m) in get_or-drop from words (k - from) 0 ∙ ap (λ i. get_or words i 0) e

-- where the search finds none, no word is before the cycle
none-found : (p : ℕ → Bool) (xs : List ℕ) → position p xs ≡ None → (k : ℕ) → k < length xs → p (get_or xs k 0) ≡ false
none-found p xs e k l = elim (cases_lt (position_or_len p xs) (length xs)) [
  | inl m ↦ let bad : Some (position_or_len p xs) ≡ None = sym (cond-true (ltb (position_or_len p xs) (length xs)) (Some (position_or_len p xs)) None (lt-ltb (position_or_len p xs) (length xs) m)) ∙ e in cc
  | inr m ↦ fails_before_first p xs k 0 (omega (arith, l, m))
]

pub returns-in-Some-clause-passed : goal.returns-in-Some-clause-passed
returns-in-Some-clause-passed c = λ k m l.
    let words = c.args.words.now in
    let from = c.args.from in
    let until = c.args.until in
    let found = position-Some (λ word. ltb word until) (drop from words) c.in-Some.place 0 (ap (position (λ word. ltb word until)) (cut words from) ∙ sym c.first_below.ensures ∙ c.in-Some.is) in
    let other : ltb (get_or words k 0) until ≡ false = ap (λ word. ltb word until) (sym (behind words from k m)) ∙ found.2 (k - from) (omega (arith, m, l)) in
    ltb-false (get_or words k 0) until other

pub returns-in-Some-clause-wakes : goal.returns-in-Some-clause-wakes
returns-in-Some-clause-wakes c = λ l.
    let words = c.args.words.now in
    let from = c.args.from in
    let until = c.args.until in
    let place = c.in-Some.place in
    let found = position-Some (λ word. ltb word until) (drop from words) place 0 (ap (position (λ word. ltb word until)) (cut words from) ∙ sym c.first_below.ensures ∙ c.in-Some.is) in
    let here : ltb (get_or words (from + place) 0) until ≡ true = ap (λ word. ltb word until) (sym (get_or-drop from words place 0)) ∙ found.1 in
    ltb-true (get_or words (from + place) 0) until here

pub returns-in-None-clause-passed : goal.returns-in-None-clause-passed
returns-in-None-clause-passed c = λ k m l.
    let words = c.args.words.now in
    let from = c.args.from in
    let until = c.args.until in
    let inside : k - from < length (drop from words) = omega (arith, m, l, length-drop from words) in
    let other : ltb (get_or words k 0) until ≡ false =
    ap (λ word. ltb word until) (sym (behind words from k m)) ∙ none-found (λ word. ltb word until) (drop from words) (ap (position (λ word. ltb word until)) (cut words from) ∙ sym c.first_below.ensures ∙ c.in-None.is) (k - from) inside in
    ltb-false (get_or words k 0) until other
