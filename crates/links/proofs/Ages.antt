-- Messages by age: two that differ in arrival or link can be put in in either order, and a list in order stays as it
-- is.
use Rattle.std.proofs.Common.{◌≡◌, ℕ, ◌≤◌, ltb, ◌||◌, Bool, true, false, List, [], ◌∷◌, ◌++◌, refl, sym, ap, ◌∙◌, subst, append-nil, append_assoc, arith}
use Rattle.std.specs.Prelude.{filter, slice_get, All, IfSome}
use Rattle.std.specs.Option.{option_map}
use Rattle.std.proofs.lemmas.List.Elements.{All-from_recursion}
use Rattle.std.specs.List.{AllByRecursion as Each}
use Rattle.std.proofs.lemmas.Bool.{cond_both, cond-false}
use Rattle.std.proofs.lemmas.Bool.Decides.{nat_tests}
use Rattle.sim_base.specs.History.{is_before, by_age}
use Rattle.sim_base.specs.declared.message.Message.{Message}
use Rattle.sim_base.proofs.Arrived.{put, puts, by_age-puts}
use Rattle.sim_base.proofs.Each.{Each-append}
use Rattle.sim_base.proofs.Ordered.{Each-weaker, Sorted, Sorted-puts, filter-by_age, Sorted-put, is_tie, puts-put}

put-last : (m : Message) (acc : List Message) → Each (λ (a : Message). is_before m a ≡ false) acc → put m acc ≡ acc ++ m ∷ []
put-last m [] h = refl
put-last m (a ∷ acc) h = cond-false _ _ _ h.0 ∙ ap (λ x. a ∷ x) (put-last m acc h.1)

-- none of some messages is before one of others
abbrev NoneBefore : List Message → List Message → Type 0
NoneBefore acc ys = Each (λ (y : Message). Each (λ (a : Message). is_before y a ≡ false) acc) ys

NoneBefore-push : (acc : List Message) (m : Message) (ys : List Message) → NoneBefore acc ys → Each (λ (y : Message). is_before y m ≡ false) ys → NoneBefore (acc ++ m ∷ []) ys
NoneBefore-push acc m [] h k = tt
NoneBefore-push acc m (y ∷ ys) h k = (Each-append (λ (a : Message). is_before y a ≡ false) acc (m ∷ []) h.0 (k.0, tt), NoneBefore-push acc m ys h.1 k.1)

puts-last : (acc ys : List Message) → Sorted ys → NoneBefore acc ys → puts acc ys ≡ acc ++ ys
puts-last acc [] h k = sym (append-nil acc)
puts-last acc (y ∷ ys) h k =
    ap (λ x. puts x ys) (put-last y acc k.0) ∙ puts-last (acc ++ y ∷ []) ys h.1 (NoneBefore-push acc y ys k.1 h.0) ∙ append_assoc acc (y ∷ []) ys

no_past : (ys : List Message) → NoneBefore [] ys
no_past [] = tt
no_past (y ∷ ys) = (tt, no_past ys)

-- messages that stand in order stay as they are
pub by_age-same : (ys : List Message) → Sorted ys → by_age ys ≡ ys
by_age-same ys h = by_age-puts ys ∙ puts-last [] ys h (no_past ys)

-- what stays as it is stands in order
pub in_order-Sorted : (ms : List Message) → by_age ms ≡ ms → Sorted ms
in_order-Sorted ms h = subst Sorted (sym (by_age-puts ms) ∙ h) (Sorted-puts [] ms tt)

pub by_age-nil : by_age [] ≡ []
by_age-nil = by_age-puts []

-- a message in its place among others in order
pub put-in_order : (m : Message) (ms : List Message) → by_age ms ≡ ms → by_age (put m ms) ≡ put m ms
put-in_order m ms h = by_age-same (put m ms) (Sorted-put m ms (in_order-Sorted ms h))

pub filter-in_order : (p : Message → Bool) (ms : List Message) → by_age ms ≡ ms → by_age (filter p ms) ≡ filter p ms
filter-in_order p ms h = sym (filter-by_age p ms) ∙ ap (filter p) h

before_tie : (m x y : Message) → is_before m x ≡ true → is_before y x ≡ false → is_tie m y ≡ false
before_tie m x y h k = grind (arith, nat_tests)

-- a message can be put into its place among the first of some messages, or among all of them
pub puts-put_first : (m : Message) (acc ms ys : List Message) → Sorted ms → Each (λ (y : Message). is_tie m y ≡ false) ys → puts acc (put m ms ++ ys) ≡ put m (puts acc (ms ++ ys))
puts-put_first m acc [] ys s h = puts-put m acc ys h
puts-put_first m acc (x ∷ xs) ys s h =
    cond_both (is_before m x) (m ∷ x ∷ xs) (x ∷ put m xs) (λ z. puts acc (z ++ ys) ≡ put m (puts acc (x ∷ xs ++ ys)))
    (λ e. puts-put m acc (x ∷ xs ++ ys) (before_tie_itself m x e, Each-append _ xs ys (Each-weaker _ (λ (y : Message). is_tie m y ≡ false) (λ y k. before_tie m x y e k) xs s.0) h))
    (λ e. puts-put_first m (put x acc) xs ys s.1 h)
  where
    before_tie_itself : (m x : Message) → is_before m x ≡ true → is_tie m x ≡ false
    before_tie_itself m x e = grind (arith, nat_tests)

-- messages by age are in order
pub by_age-twice : (ms : List Message) → by_age (by_age ms) ≡ by_age ms
by_age-twice ms = by_age-same (by_age ms) (subst Sorted (sym (by_age-puts ms)) (Sorted-puts [] ms tt))

-- the first of messages by age arrives no later than any
pub first_is_least : (ms : List Message) → by_age ms ≡ ms → IfSome (option_map (λ (m : Message). m.arrival) (slice_get ms 0)) (λ cycle. All (λ m. cycle ≤ m.arrival) ms)
first_is_least [] h = tt
first_is_least (m ∷ ms) h =
    All-from_recursion (λ (n : Message). m.arrival ≤ n.arrival) (m ∷ ms)
    (omega arith, Each-weaker (λ (y : Message). is_before y m ≡ false) (λ (y : Message). m.arrival ≤ y.arrival) (λ y e. no_sooner y.arrival m.arrival _ e) ms (in_order-Sorted (m ∷ ms) h).0)
  where
    no_sooner : (a b : ℕ) (same : Bool) → (ltb a b || same) ≡ false → b ≤ a
    no_sooner a b same e = grind (arith, nat_tests)
