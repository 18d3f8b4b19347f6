-- The next message by age, of replies and credits.
use Rattle.std.proofs.Common.{◌≡◌, ℕ, ◌<◌, ◌-◌, Bool, true, false, List, [], ◌∷◌, length, get_or, take, drop, sym, ap, ◌∙◌, refl, subst, arith}
use Rattle.std.specs.Prelude.{fold, min}
use Rattle.std.specs.List.{AllByRecursion as Each}
use Rattle.std.proofs.Math.Seq.{take-length}
use Rattle.std.proofs.lemmas.Bool.{cond-true, cond-false}
use Rattle.std.proofs.lemmas.Bool.Decides.{nat_tests}
use Rattle.sim_base.specs.History.{is_before, insert_by_age, by_age}
use Rattle.sim_base.specs.declared.message.Message.{Message}
use Rattle.sim_base.proofs.Arrived.{put, puts, by_age-puts, fold-puts, before_le, not_before_le}
use Rattle.sim_base.proofs.Ordered.{Each-weaker, Sorted, Sorted-puts}
use Rattle.core_window.specs.Arriving.{first_arrival}

-- none of some messages is before this one
abbrev NoneBefore : Message → List Message → Type 0
NoneBefore a ys = Each (λ (y : Message). is_before y a ≡ false) ys

-- it then stays first
puts-head : (x : Message) (acc ys : List Message) → NoneBefore x ys → puts (x ∷ acc) ys ≡ x ∷ puts acc ys
puts-head x acc [] h = refl
puts-head x acc (y ∷ ys) h = ap (λ z. puts z ys) (cond-false _ _ _ h.0) ∙ puts-head x (put y acc) ys h.1

-- messages in order stay as they are
puts-sorted : (y : Message) (ys : List Message) → Sorted (y ∷ ys) → puts [] (y ∷ ys) ≡ y ∷ ys
puts-sorted y [] h = refl
puts-sorted y (z ∷ ys) h = puts-head y [] (z ∷ ys) h.0 ∙ ap (λ l. y ∷ l) (puts-sorted z ys h.1)

-- and what stays as it is stands in order
in_order-Sorted : (ms : List Message) → by_age ms ≡ ms → Sorted ms
in_order-Sorted ms h = subst Sorted (sym (by_age-puts ms) ∙ h) (Sorted-puts [] ms tt)

in_order-tail : (b : Message) (ys : List Message) → by_age (b ∷ ys) ≡ b ∷ ys → by_age ys ≡ ys
in_order-tail b [] s = by_age-puts []
in_order-tail b (y ∷ ys) s = by_age-puts (y ∷ ys) ∙ puts-sorted y ys (in_order-Sorted (b ∷ y ∷ ys) s).1

-- all messages but the first
abbrev others : List Message → List Message
others ms = take (length ms - 1) (drop 1 ms)

others-cons : (m : Message) (ms : List Message) → others (m ∷ ms) ≡ ms
others-cons m ms = let e : length (m ∷ ms) - 1 ≡ length ms = omega arith in ap (λ n. take n ms) e ∙ take-length ms

pub first_and_others : (d : Message) (ms : List Message) → 0 < length ms → ms ≡ get_or ms 0 d ∷ others ms
first_and_others d [] l = absurd (omega arith)
first_and_others d (m ∷ ms) l = ap (λ z. m ∷ z) (sym (others-cons m ms))

pub others_by_age : (ms : List Message) → 0 < length ms → by_age ms ≡ ms → by_age (others ms) ≡ others ms
others_by_age [] l s = absurd (omega arith)
others_by_age (m ∷ ms) l s = subst (λ z. by_age z ≡ z) (sym (others-cons m ms)) (in_order-tail m ms s)

after_both : (a b y : Message) → is_before b a ≡ false → is_before y b ≡ false → is_before y a ≡ false
after_both a b y h k = grind (arith, nat_tests)

-- the first credit goes first, where it is older than the first reply or there is none
pub credit_first : (b : Message) (xs ys later : List Message) → ys ≡ b ∷ later → by_age ys ≡ ys → put b xs ≡ b ∷ xs → fold insert_by_age xs ys ≡ b ∷ fold insert_by_age xs later
credit_first b xs ys later e s h =
    ap (fold insert_by_age xs) e
    ∙ fold-puts xs (b ∷ later)
    ∙ ap (λ z. puts z later) h
    ∙ puts-head b xs later (in_order-Sorted (b ∷ later) (subst (λ z. by_age z ≡ z) e s)).0
    ∙ ap (λ z. b ∷ z) (sym (fold-puts xs later))

pub no_reply : (b : Message) (xs : List Message) → length xs < 1 → put b xs ≡ b ∷ xs
no_reply b [] l = refl
no_reply b (x ∷ xs) l = absurd (omega arith)

pub reply_younger : (b d : Message) (xs : List Message) → is_before b (get_or xs 0 d) ≡ true → put b xs ≡ b ∷ xs
reply_younger b d [] h = refl
reply_younger b d (x ∷ xs) h = cond-true _ _ _ h

-- otherwise the first reply does
pub reply_first : (a : Message) (xs ys later : List Message) → xs ≡ a ∷ later → NoneBefore a ys → fold insert_by_age xs ys ≡ a ∷ fold insert_by_age later ys
reply_first a xs ys later e h =
    ap (λ z. fold insert_by_age z ys) e ∙ fold-puts (a ∷ later) ys ∙ puts-head a later ys h ∙ ap (λ z. a ∷ z) (sym (fold-puts later ys))

-- where no credit is before it
pub none_before : (a : Message) (ys : List Message) → length ys < 1 → NoneBefore a ys
none_before a [] l = tt
none_before a (y ∷ ys) l = absurd (omega arith)

pub none_before_first : (a d : Message) (ys : List Message) → 0 < length ys → by_age ys ≡ ys → is_before (get_or ys 0 d) a ≡ false → NoneBefore a ys
none_before_first a d [] l s h = tt
none_before_first a d (y ∷ ys) l s h =
    (h, Each-weaker _ (λ (z : Message). is_before z a ≡ false) (λ z k. after_both a y z h k) ys (in_order-Sorted (y ∷ ys) s).0)

-- the first arrival, where there are no replies
pub arrival-credit : (until : ℕ) (d : Message) (replies credits : List Message) → length replies < 1 → 0 < length credits → by_age credits ≡ credits
    → (get_or credits 0 d).arrival ≡ first_arrival until (fold insert_by_age replies credits)
arrival-credit until d replies credits e l s =
    sym (ap (first_arrival until) (credit_first (get_or credits 0 d) replies credits (others credits) (first_and_others d credits l) s (no_reply (get_or credits 0 d) replies e)))

-- and where there are both
pub arrival-both : (until : ℕ) (d : Message) (replies credits : List Message) → 0 < length replies → 0 < length credits → by_age credits ≡ credits
    → min (get_or replies 0 d).arrival (get_or credits 0 d).arrival ≡ first_arrival until (fold insert_by_age replies credits)
arrival-both until d replies credits k l s = by (is_before (get_or credits 0 d) (get_or replies 0 d)) refl
  where
    by : (b : Bool) → is_before (get_or credits 0 d) (get_or replies 0 d) ≡ b
        → min (get_or replies 0 d).arrival (get_or credits 0 d).arrival ≡ first_arrival until (fold insert_by_age replies credits)
    by true h =
        let first : fold insert_by_age replies credits ≡ get_or credits 0 d ∷ fold insert_by_age replies (others credits) =
        credit_first (get_or credits 0 d) replies credits (others credits) (first_and_others d credits l) s (reply_younger (get_or credits 0 d) d replies h) in
        let least : min (get_or replies 0 d).arrival (get_or credits 0 d).arrival ≡ (get_or credits 0 d).arrival = omega (arith, before_le (get_or credits 0 d) (get_or replies 0 d) h) in
        least ∙ sym (ap (first_arrival until) first)
    by false h =
        let first : fold insert_by_age replies credits ≡ get_or replies 0 d ∷ fold insert_by_age (others replies) credits =
        reply_first (get_or replies 0 d) replies credits (others replies) (first_and_others d replies k) (none_before_first (get_or replies 0 d) d credits l s h) in
        let least : min (get_or replies 0 d).arrival (get_or credits 0 d).arrival ≡ (get_or replies 0 d).arrival = omega (arith, not_before_le (get_or credits 0 d) (get_or replies 0 d) h) in
        least ∙ sym (ap (first_arrival until) first)
