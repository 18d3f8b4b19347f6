-- Messages by age, cut into spans, and counts that are no more than one.
use Rattle.std.proofs.Common.{◌≡◌, ℕ, ◌+◌, ◌<◌, ◌≤◌, Bool, true, false, cond, ltb, leb, ◌&&◌, List, [], ◌∷◌, ◌++◌, refl, sym, ap, ap₂, ◌∙◌, arith}
use Rattle.std.specs.Prelude.{filter, count_by}
use Rattle.std.specs.List.{AllByRecursion as Each}
use Rattle.std.proofs.lemmas.Bool.{cond_both, cond-true, cond-false, and_parts, ltb-true, ltb-false, lt-ltb, le-leb, lt-leb, leb-true}
use Rattle.std.proofs.lemmas.Bool.Decides.{nat_tests}
use Rattle.sim_base.specs.History.{is_before}
use Rattle.sim_base.specs.declared.message.Message.{Message}
use Rattle.sim_base.proofs.Arrived.{arrived, NotBefore, arrived-none, not_before_le}
use Rattle.sim_base.proofs.Each.{Each-filter}
use Rattle.sim_base.proofs.Ordered.{Each-weaker, Sorted}
use Rattle.sim_base.proofs.Lists.{count-cons}
use Rattle.laws.proofs.Counting.{count-filter, count-weaker}
use Rattle.laws.proofs.Receivers.{Each-filter_passes}
use Rattle.laws.specs.Links.{arrives_on}
use Rattle.channel_step.specs.Fit.{ComeByAge}
use Rattle.units.specs.SpanLaws.Mail.{arriving}

-- where all arrive at the start of a span or later, those that arrive in it are those that arrive by its end
arriving-late : (from until : ℕ) (ms : List Message) → NotBefore from ms → arriving from until ms ≡ arrived ms until
arriving-late from until [] h = refl
arriving-late from until (m ∷ ms) h = ap₂ (λ b x. cond b (m ∷ x) x) (ap (λ b. b && ltb m.arrival until) (le-leb from m.arrival h.0)) (arriving-late from until ms h.1)

-- the messages that arrived before a span, and those that arrive in it, are those that arrived by its end
pub arriving-more : (from until : ℕ) → from ≤ until → (ms : List Message) → Sorted ms → arrived ms from ++ arriving from until ms ≡ arrived ms until
arriving-more from until l [] h = refl
arriving-more from until l (m ∷ ms) h =
    cond_both (ltb m.arrival from) (m ∷ arrived ms from) (arrived ms from) (λ x. x ++ arriving from until (m ∷ ms) ≡ arrived (m ∷ ms) until)
    (λ e.
    let a : m.arrival < from = ltb-true _ _ e in
    let b : (leb from m.arrival && ltb m.arrival until) ≡ false = ap (λ x. x && ltb m.arrival until) (lt-leb from m.arrival a) in
    let c : ltb m.arrival until ≡ true = lt-ltb m.arrival until (omega arith) in
    ap (λ x. (m ∷ arrived ms from) ++ x) (cond-false _ _ _ b) ∙ ap (λ x. m ∷ x) (arriving-more from until l ms h.1) ∙ sym (cond-true _ _ _ c))
    (λ e.
    let a : from ≤ m.arrival = ltb-false _ _ e in
    let rest : NotBefore from ms = Each-weaker (λ (y : Message). is_before y m ≡ false) (λ (y : Message). from ≤ y.arrival) (λ y k. let d = not_before_le y m k in omega arith) ms h.0 in
    ap (λ x. x ++ arriving from until (m ∷ ms)) (arrived-none from ms rest) ∙ arriving-late from until (m ∷ ms) (a, rest))

-- each message of a span arrives in it
pub arriving-within : (from until : ℕ) (P : Message → Type 0) (ms : List Message) → Each P ms
    → Each (λ (m : Message). (from ≤ m.arrival) × (m.arrival < until) × P m) (arriving from until ms)
arriving-within from until P ms h =
    let p = λ (m : Message). leb from m.arrival && ltb m.arrival until in
    Each-weaker (λ (m : Message). (p m ≡ true) × P m) (λ (m : Message). (from ≤ m.arrival) × (m.arrival < until) × P m)
    (λ m k. let both = and_parts (leb from m.arrival) (ltb m.arrival until) k.0 in (leb-true from m.arrival both.0, ltb-true m.arrival until both.1, k.1))
    (filter p ms) (Each-filter_passes P p ms h)

-- what arrived before a cycle
pub before-within : (cycle : ℕ) (ms : List Message) → Each (λ (m : Message). m.arrival < cycle) (arrived ms cycle)
before-within cycle [] = tt
before-within cycle (m ∷ ms) =
    cond_both (ltb m.arrival cycle) (m ∷ arrived ms cycle) (arrived ms cycle) (Each (λ (y : Message). y.arrival < cycle))
    (λ e. (ltb-true m.arrival cycle e, before-within cycle ms)) (λ e. before-within cycle ms)

-- a part of what is in order
pub Sorted-filter : (p : Message → Bool) (ms : List Message) → Sorted ms → Sorted (filter p ms)
Sorted-filter p [] h = tt
Sorted-filter p (m ∷ ms) h =
    cond_both (p m) (m ∷ filter p ms) (filter p ms) Sorted (λ e. (Each-filter (λ (y : Message). is_before y m ≡ false) p ms h.0, Sorted-filter p ms h.1)) (λ e. Sorted-filter p ms h.1)

-- where none is counted, none passes
pub each-none : {X : Type 0} (p : X → Bool) (xs : List X) → count_by p xs ≡ 0 → Each (λ x. p x ≡ false) xs
each-none p [] h = tt
each-none p (x ∷ xs) h = go (p x) refl (count-cons p x xs) (each-none p xs)
  where
    go : (b : Bool) → p x ≡ b → count_by p (x ∷ xs) ≡ cond b 1 0 + count_by p xs → (count_by p xs ≡ 0 → Each (λ y. p y ≡ false) xs) → (p x ≡ false) × Each (λ y. p y ≡ false) xs
    go true e k rest = absurd (omega arith)
    go false e k rest = (e, rest (omega arith))

pub count-tail : {X : Type 0} (p : X → Bool) (x : X) (xs : List X) → count_by p xs ≤ count_by p (x ∷ xs)
count-tail p x xs = let e = count-cons p x xs in omega arith

-- where one at most is counted, and the first is, the others are not
pub count-others : {X : Type 0} (p : X → Bool) (x : X) (xs : List X) → p x ≡ true → count_by p (x ∷ xs) ≤ 1 → count_by p xs ≡ 0
count-others p x xs e h =
    let a : count_by p (x ∷ xs) ≡ 1 + count_by p xs = count-cons p x xs ∙ ap (λ b. cond b 1 0 + count_by p xs) e in
    omega arith

-- a part of a list has no more
pub count-kept : {X : Type 0} (p q : X → Bool) (xs : List X) → count_by q (filter p xs) ≤ count_by q xs
count-kept p q xs =
    let a = count-filter p q xs in
    let b = count-weaker (λ x. p x && q x) q (λ x h. (and_parts (p x) (q x) h).1) xs in
    omega arith

sooner : (m y : Message) → is_before y m ≡ false → arrives_on m.link m.arrival y ≡ false → is_before m y ≡ true
sooner m y h k = grind (arith, nat_tests)

alone : (m : Message) → arrives_on m.link m.arrival m ≡ true
alone m = grind (arith, nat_tests)

before-each : (m : Message) (ms : List Message) → Each (λ (y : Message). is_before y m ≡ false) ms → Each (λ (y : Message). arrives_on m.link m.arrival y ≡ false) ms
    → Each (λ (y : Message). is_before m y ≡ true) ms
before-each m [] h k = tt
before-each m (y ∷ ms) h k = (sooner m y h.0 k.0, before-each m ms h.1 k.1)

-- messages by age, of which one at most arrives on a link in a cycle
pub come-by_age : (ms : List Message) → Sorted ms → ((link cycle : ℕ) → count_by (arrives_on link cycle) ms ≤ 1) → ComeByAge ms
come-by_age [] h k = tt
come-by_age (m ∷ ms) h k = (
  before-each m ms h.0 (each-none (arrives_on m.link m.arrival) ms (count-others (arrives_on m.link m.arrival) m ms (alone m) (k m.link m.arrival))),
  come-by_age ms h.1 (λ link cycle. let e = count-tail (arrives_on link cycle) m ms in let f = k link cycle in omega arith),
)
