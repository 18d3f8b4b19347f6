-- Messages by arrival and then by link: the order stays where some are left out, and does not depend on the order in
-- which messages of different links are put in.
use Rattle.std.proofs.Common.{Bool, true, false, cond, eqb, ◌&&◌, ◌≡◌, List, [], ◌∷◌, ◌++◌, refl, sym, ap, ◌∙◌, arith}
use Rattle.std.specs.Prelude.{filter}
use Rattle.std.specs.List.{AllByRecursion as Each}
use Rattle.std.proofs.lemmas.Bool.{cond_both, cond-true, cond-false}
use Rattle.std.proofs.lemmas.Bool.Decides.{nat_tests}
use Rattle.sim_base.specs.History.{is_before, by_age}
use Rattle.sim_base.specs.declared.message.Message.{Message}
use Rattle.sim_base.proofs.Each.{Each-filter}
use Rattle.sim_base.proofs.Arrived.{put, puts, by_age-puts, Each-put}

pub before_trans : (a b c : Message) → is_before a b ≡ true → is_before b c ≡ true → is_before a c ≡ true
before_trans a b c h k = grind (arith, nat_tests)

pub before_asym : (a b : Message) → is_before a b ≡ true → is_before b a ≡ false
before_asym a b h = grind (arith, nat_tests)

before_no_later : (m n y : Message) → is_before m n ≡ true → is_before y n ≡ false → is_before m y ≡ true
before_no_later m n y h k = grind (arith, nat_tests)

pub not_before_sooner : (m n y : Message) → is_before m n ≡ true → is_before y n ≡ false → is_before y m ≡ false
not_before_sooner m n y h k = grind (arith, nat_tests)

pub Each-weaker : {X : Type 0} (P Q : X → Type 0) → ((x : X) → P x → Q x) → (xs : List X) → Each P xs → Each Q xs
Each-weaker P Q f [] h = tt
Each-weaker P Q f (x ∷ xs) h = (f x h.0, Each-weaker P Q f xs h.1)

-- none is before one that stands before it
abbrev pub Sorted : List Message → Type 0
Sorted [] = Unit {0}
Sorted (m ∷ ms) = Each (λ (y : Message). is_before y m ≡ false) ms × Sorted ms

pub Sorted-put : (m : Message) (ns : List Message) → Sorted ns → Sorted (put m ns)
Sorted-put m [] k = (tt, tt)
Sorted-put m (n ∷ ns) k =
    cond_both (is_before m n) _ _ Sorted
    (λ e. ((before_asym m n e, Each-weaker _ (λ (y : Message). is_before y m ≡ false) (λ y h. not_before_sooner m n y e h) ns k.0), k))
    (λ e. (Each-put (λ (y : Message). is_before y n ≡ false) m e ns k.0, Sorted-put m ns k.1))

pub Sorted-puts : (acc ms : List Message) → Sorted acc → Sorted (puts acc ms)
Sorted-puts acc [] k = k
Sorted-puts acc (m ∷ ms) k = Sorted-puts (put m acc) ms (Sorted-put m acc k)

put-front : (m : Message) (ns : List Message) → Each (λ (y : Message). is_before m y ≡ true) ns → put m ns ≡ m ∷ ns
put-front m [] h = refl
put-front m (n ∷ ns) h = cond-true _ _ _ h.0

kept_after : (p : Message → Bool) (m n : Message) (ns : List Message) → is_before m n ≡ false → (a b : Bool)
    → cond a (n ∷ cond b (put m ns) ns) (cond b (put m ns) ns) ≡ cond b (put m (cond a (n ∷ ns) ns)) (cond a (n ∷ ns) ns)
kept_after p m n ns e true true = sym (cond-false _ _ _ e)
kept_after p m n ns e true false = refl
kept_after p m n ns e false true = refl
kept_after p m n ns e false false = refl

filter-put : (p : Message → Bool) (m : Message) (ns : List Message) → Sorted ns → filter p (put m ns) ≡ cond (p m) (put m (filter p ns)) (filter p ns)
filter-put p m [] k = refl
filter-put p m (n ∷ ns) k =
    cond_both (is_before m n) (m ∷ n ∷ ns) (n ∷ put m ns) (λ x. filter p x ≡ cond (p m) (put m (filter p (n ∷ ns))) (filter p (n ∷ ns)))
    (λ e. ap (λ x. cond (p m) x (filter p (n ∷ ns)))
    (sym (put-front m (filter p (n ∷ ns)) (Each-filter _ p (n ∷ ns) (e, Each-weaker _ (λ (y : Message). is_before m y ≡ true) (λ y h. before_no_later m n y e h) ns k.0)))))
    (λ e. ap (λ x. cond (p n) (n ∷ x) x) (filter-put p m ns k.1) ∙ kept_after p m n (filter p ns) e (p n) (p m))

puts_kept : (b : Bool) (m : Message) (acc ms : List Message) → puts (cond b (put m acc) acc) ms ≡ puts acc (cond b (m ∷ ms) ms)
puts_kept true m acc ms = refl
puts_kept false m acc ms = refl

pub filter-puts : (p : Message → Bool) (acc ms : List Message) → Sorted acc → filter p (puts acc ms) ≡ puts (filter p acc) (filter p ms)
filter-puts p acc [] k = refl
filter-puts p acc (m ∷ ms) k =
    filter-puts p (put m acc) ms (Sorted-put m acc k)
    ∙ ap (λ x. puts x (filter p ms)) (filter-put p m acc k)
    ∙ puts_kept (p m) m (filter p acc) (filter p ms)

-- messages can be left out before they are put in order, or after
pub filter-by_age : (p : Message → Bool) (ms : List Message) → filter p (by_age ms) ≡ by_age (filter p ms)
filter-by_age p ms = ap (filter p) (by_age-puts ms) ∙ filter-puts p [] ms tt ∙ sym (by_age-puts (filter p ms))

pub put-before : (m n : Message) (ns : List Message) → is_before m n ≡ true → put m (put n ns) ≡ put n (put m ns)
put-before m n [] e = cond-true _ _ _ e ∙ sym (cond-false _ _ _ (before_asym m n e))
put-before m n (x ∷ xs) e =
    cond_both (is_before n x) (n ∷ x ∷ xs) (x ∷ put n xs) (λ y. put m y ≡ put n (put m (x ∷ xs)))
    (λ f. cond-true _ _ _ e
    ∙ sym (ap (put n) (cond-true _ _ _ (before_trans m n x e f)) ∙ cond-false _ _ _ (before_asym m n e) ∙ ap (λ y. m ∷ y) (cond-true _ _ _ f)))
    (λ f. cond_both (is_before m x) (m ∷ x ∷ xs) (x ∷ put m xs) (λ y. put m (x ∷ put n xs) ≡ put n y)
    (λ g. cond-true _ _ _ g ∙ sym (cond-false _ _ _ (before_asym m n e) ∙ ap (λ y. m ∷ y) (cond-false _ _ _ f)))
    (λ g. cond-false _ _ _ g ∙ ap (λ y. x ∷ y) (put-before m n xs e) ∙ sym (cond-false _ _ _ f)))

-- two messages with one arrival and one link
abbrev pub is_tie : Message → Message → Bool
is_tie a b = eqb a.arrival b.arrival && eqb a.link b.link

before_back : (a b : Message) → is_tie a b ≡ false → is_before a b ≡ false → is_before b a ≡ true
before_back a b h k = grind (arith, nat_tests)

pub put-put : (m n : Message) (ns : List Message) → is_tie m n ≡ false → put m (put n ns) ≡ put n (put m ns)
put-put m n ns h = by (is_before m n) refl
  where
    by : (b : Bool) → is_before m n ≡ b → put m (put n ns) ≡ put n (put m ns)
    by true e = put-before m n ns e
    by false e = sym (put-before n m ns (before_back m n h e))

-- a message can be put in before others that it does not tie with, or after them
pub puts-put : (m : Message) (acc ys : List Message) → Each (λ (y : Message). is_tie m y ≡ false) ys → puts (put m acc) ys ≡ put m (puts acc ys)
puts-put m acc [] h = refl
puts-put m acc (y ∷ ys) h = ap (λ x. puts x ys) (sym (put-put m y acc h.0)) ∙ puts-put m (put y acc) ys h.1

-- no message of the one list is of a link of one in the other
abbrev pub Apart : List Message → List Message → Type 0
Apart xs ys = Each (λ (x : Message). Each (λ (y : Message). eqb x.link y.link ≡ false) ys) xs

-- messages of different links do not tie
links-no_tie : (m n : Message) → eqb m.link n.link ≡ false → is_tie m n ≡ false
links-no_tie m n h = grind (arith, nat_tests)

pub puts-swap : (acc xs ys : List Message) → Apart xs ys → puts (puts acc xs) ys ≡ puts (puts acc ys) xs
puts-swap acc [] ys h = refl
puts-swap acc (x ∷ xs) ys h = puts-swap (put x acc) xs ys h.1 ∙ ap (λ z. puts z xs) (puts-put x acc ys (Each-weaker _ (λ (y : Message). is_tie x y ≡ false) (λ y e. links-no_tie x y e) ys h.0))

pub puts-append : (acc xs ys : List Message) → puts acc (xs ++ ys) ≡ puts (puts acc xs) ys
puts-append acc [] ys = refl
puts-append acc (x ∷ xs) ys = puts-append (put x acc) xs ys
