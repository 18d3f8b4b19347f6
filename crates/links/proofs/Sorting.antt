-- Messages in another order, in which those that arrive together stand as before, are put in to the same effect.
use Rattle.std.proofs.Common.{◌≡◌, Bool, true, false, cond, List, [], ◌∷◌, filter, nat_cmp, is_lt, refl, sym, ap, ◌∙◌, arith, inl, inr}
use Rattle.std.proofs.lemmas.Bool.{cond-true, cond-false, cases_Bool}
use Rattle.std.proofs.lemmas.Bool.Decides.{nat_tests}
use Rattle.std.specs.List.Sorted.{ties, IsStableByKey}
use Rattle.std.specs.Prelude.{fold}
use Rattle.sim_base.specs.History.{insert_by_age}
use Rattle.sim_base.specs.declared.message.Message.{Message}
use Rattle.sim_base.proofs.Arrived.{put, puts, fold-puts}
use Rattle.sim_base.proofs.Ordered.{is_tie, put-put}

-- two messages that arrive together, as the clause of the sort tests it
abbrev together : Message → Message → Bool
together = ties (λ a b. is_lt (nat_cmp a.arrival b.arrival))

together_itself : (a : Message) → together a a ≡ true
together_itself a = grind (arith, nat_tests)

together_alike : (a b c : Message) → together a b ≡ true → together a c ≡ together b c
together_alike a b c h = grind (arith, nat_tests)

together_apart : (a b c : Message) → together a b ≡ false → together b c ≡ true → together a c ≡ false
together_apart a b c h k = grind (arith, nat_tests)

apart-tie : (a b : Message) → together a b ≡ false → is_tie a b ≡ false
apart-tie a b h = grind (arith, nat_tests)

filter-kept : (p : Message → Bool) (x : Message) (xs : List Message) → p x ≡ true → filter p (x ∷ xs) ≡ x ∷ filter p xs
filter-kept p x xs h = cond-true _ _ _ h

filter-left_out : (p : Message → Bool) (x : Message) (xs : List Message) → p x ≡ false → filter p (x ∷ xs) ≡ filter p xs
filter-left_out p x xs h = cond-false _ _ _ h

-- messages without the first that passes a test
abbrev without_first : (Message → Bool) → List Message → List Message
without_first p [] = []
without_first p (x ∷ xs) = cond (p x) xs (x ∷ without_first p xs)

abbrev rest : List Message → List Message
rest [] = []
rest (x ∷ xs) = xs

-- the first message that arrives with y is y, and can be put in before the others
first_to_front : (y : Message) (acc xs ys : List Message) → filter (together y) xs ≡ y ∷ ys → puts acc xs ≡ puts (put y acc) (without_first (together y) xs)
first_to_front y acc [] ys e = cc
first_to_front y acc (x ∷ xs) ys e =
    elim (cases_Bool (together y x)) [
      | inl with ↦
          let both = sym (filter-kept (together y) x xs with) ∙ e in
          let same : x ≡ y = cc in
          ap (λ m. puts (put m acc) xs) same ∙ ap (puts (put y acc)) (sym (cond-true _ _ _ with))
      | inr without ↦
          first_to_front y (put x acc) xs ys (sym (filter-left_out (together y) x xs without) ∙ e)
          ∙ ap (λ ms. puts ms (without_first (together y) xs)) (put-put y x acc (apart-tie y x without))
          ∙ ap (puts (put y acc)) (sym (cond-false _ _ _ without))
    ]

-- a test that fails where the other passes does not see that the message is gone
filter-without_other : (p q : Message → Bool) (xs : List Message) → ((x : Message) → p x ≡ true → q x ≡ false) → filter q (without_first p xs) ≡ filter q xs
filter-without_other p q [] h = refl
filter-without_other p q (x ∷ xs) h =
    elim (cases_Bool (p x)) [
      | inl with ↦ ap (filter q) (cond-true _ _ _ with) ∙ sym (filter-left_out q x xs (h x with))
      | inr without ↦ ap (filter q) (cond-false _ _ _ without) ∙ ap (λ ms. cond (q x) (x ∷ ms) ms) (filter-without_other p q xs h)
    ]

-- a test that passes where the other does misses its first
filter-without_first : (p q : Message → Bool) (xs : List Message) → ((x : Message) → q x ≡ p x) → filter q (without_first p xs) ≡ rest (filter q xs)
filter-without_first p q [] h = refl
filter-without_first p q (x ∷ xs) h =
    elim (cases_Bool (p x)) [
      | inl with ↦ ap (filter q) (cond-true _ _ _ with) ∙ sym (ap rest (filter-kept q x xs (h x ∙ with)))
      | inr without ↦
          ap (filter q) (cond-false _ _ _ without) ∙ filter-left_out q x _ (h x ∙ without) ∙ filter-without_first p q xs h
          ∙ sym (ap rest (filter-left_out q x xs (h x ∙ without)))
    ]

abbrev Alike : List Message → List Message → Type 0
Alike xs ys = (x : Message) → filter (together x) ys ≡ filter (together x) xs

Alike-rest : (y : Message) (xs ys : List Message) → Alike xs (y ∷ ys) → Alike (without_first (together y) xs) ys
Alike-rest y xs ys h x =
    elim (cases_Bool (together x y)) [
      | inl with ↦
          sym (ap rest (filter-kept (together x) y ys with)) ∙ ap rest (h x)
          ∙ sym (filter-without_first (together y) (together x) xs (λ z. together_alike x y z with))
      | inr without ↦
          sym (filter-left_out (together x) y ys without) ∙ h x
          ∙ sym (filter-without_other (together y) (together x) xs (λ z. together_apart x y z without))
    ]

puts-Alike : (acc xs ys : List Message) → Alike xs ys → puts acc ys ≡ puts acc xs
puts-Alike acc [] [] h = refl
puts-Alike acc (x ∷ xs) [] h =
    let clash = h x ∙ filter-kept (together x) x xs (together_itself x) in cc
puts-Alike acc xs (y ∷ ys) h =
    puts-Alike (put y acc) (without_first (together y) xs) ys (Alike-rest y xs ys h)
    ∙ sym (first_to_front y acc xs (filter (together y) ys) (sym (h y) ∙ filter-kept (together y) y ys (together_itself y)))

-- after a stable sort by arrival the messages are put in to the same effect
pub fold-sorted : (acc xs ys : List Message) → IsStableByKey (λ (m : Message). m.arrival) nat_cmp xs ys → fold insert_by_age acc ys ≡ fold insert_by_age acc xs
fold-sorted acc xs ys h = fold-puts acc ys ∙ puts-Alike acc xs ys h ∙ sym (fold-puts acc xs)
