-- Lists of messages and requests that are cut in two, or get one more at their end.
use Rattle.std.proofs.Common.{◌≡◌, ◌⊎◌, inl, inr, ℕ, suc, ◌+◌, ◌<◌, ◌≤◌, Bool, true, false, ltb, cond, List, [], ◌∷◌, ◌++◌, length, take, drop, get_or, drop-cons, Some, None, refl, sym, ap, subst, ◌∙◌, arith}
use Rattle.std.specs.Prelude.{nat_lt, slice_get, option_to_list}
use Rattle.std.proofs.Math.ListN.{drop_of_length-le}
use Rattle.std.proofs.lemmas.Option.{slice_get_cases}
use Rattle.std.specs.List.{AllByRecursion as Each, list_all, prefix_len}
use Rattle.std.proofs.lemmas.Bool.{and_parts, ltb-true, ltb-false}
use Rattle.std.proofs.lemmas.Bool.Decides.{nat_tests}
use Rattle.sim_base.proofs.Each.{Each-append, Each-first}
use Rattle.sim_base.proofs.Ordered.{Each-weaker}
use Rattle.sim_base.specs.History.{is_before}
use Rattle.sim_base.specs.declared.message.Message.{Message}
use Rattle.sim_base.specs.declared.message.Request.{Request}
use Rattle.channel_step.specs.Fit.{ComeByAge}
use Rattle.channel_step.specs.Past.{IsOther, Differ}

-- what comes by age does so cut in two
pub age-first : (xs ys : List Message) → ComeByAge (xs ++ ys) → ComeByAge xs
age-first [] ys h = tt
age-first (x ∷ xs) ys h = (Each-first (λ (n : Message). is_before x n ≡ true) xs ys h.0, age-first xs ys h.1)

pub age-last : (xs ys : List Message) → ComeByAge (xs ++ ys) → ComeByAge ys
age-last [] ys h = h
age-last (x ∷ xs) ys h = age-last xs ys h.1

-- and with one more that goes behind all
pub age-more : (xs : List Message) (m : Message) → ComeByAge xs → list_all (λ n. is_before n m) xs ≡ true → ComeByAge (xs ++ m ∷ [])
age-more [] m h k = (tt, tt)
age-more (x ∷ xs) m h k =
    let parts = and_parts _ _ k in
    (Each-append (λ (n : Message). is_before x n ≡ true) xs (m ∷ []) h.0 (parts.0, tt), age-more xs m h.1 parts.1)

pub differ-append : (xs ys : List Request) → Differ xs → Differ ys → Each (λ (r : Request). Each (IsOther r) ys) xs → Differ (xs ++ ys)
differ-append [] ys d e h = e
differ-append (x ∷ xs) ys d e h = (Each-append (IsOther x) xs ys d.0 h.0, differ-append xs ys d.1 e h.1)

-- how many at the head of these arrive before a cycle
abbrev pub due : ℕ → List Message → ℕ
due until ms = prefix_len (λ (m : Message). nat_lt m.arrival until) ms

one-more : (n : ℕ) → suc n ≡ 1 + n
one-more n = omega arith

-- they do
pub due-early : (until : ℕ) (ms : List Message) → Each (λ (m : Message). m.arrival < until) (take (due until ms) ms)
due-early until [] = tt
due-early until (m ∷ ms) = by (ltb m.arrival until) refl (due-early until ms)
  where
    by : (b : Bool) → ltb m.arrival until ≡ b → Each (λ (n : Message). n.arrival < until) (take (due until ms) ms)
        → Each (λ (n : Message). n.arrival < until) (take (cond b (1 + due until ms) 0) (m ∷ ms))
    by true e h = subst (λ k. Each (λ (n : Message). n.arrival < until) (take k (m ∷ ms))) (one-more (due until ms)) (ltb-true _ _ e, h)
    by false e h = tt

pub later-all : (until : ℕ) (m n : Message) → until ≤ m.arrival → is_before m n ≡ true → until ≤ n.arrival
later-all until m n h k = grind (arith, nat_tests)

-- and the others arrive then or later
pub due-late : (until : ℕ) (ms : List Message) → ComeByAge ms → Each (λ (m : Message). until ≤ m.arrival) (drop (due until ms) ms)
due-late until [] h = tt
due-late until (m ∷ ms) h = by (ltb m.arrival until) refl (due-late until ms h.1)
  where
    by : (b : Bool) → ltb m.arrival until ≡ b → Each (λ (n : Message). until ≤ n.arrival) (drop (due until ms) ms)
        → Each (λ (n : Message). until ≤ n.arrival) (drop (cond b (1 + due until ms) 0) (m ∷ ms))
    by true e k = subst (λ n. Each (λ (x : Message). until ≤ x.arrival) (drop n (m ∷ ms))) (one-more (due until ms)) k
    by false e k =
        let here : until ≤ m.arrival = ltb-false _ _ e in
        (here, Each-weaker (λ (n : Message). is_before m n ≡ true) (λ (n : Message). until ≤ n.arrival) (λ n l. later-all until m n here l) ms h.0)

-- the front of what is left
pub drop-front : {X : Type 0} (n : ℕ) (xs : List X) → drop n xs ≡ option_to_list (slice_get xs n) ++ drop (n + 1) xs
drop-front {X = X} n xs = by (slice_get_cases xs n).1
  where
    by : ((x : X) × (n < length xs) × (slice_get xs n ≡ Some x) × (get_or xs n x ≡ x)) ⊎ ((length xs ≤ n) × (slice_get xs n ≡ None)) → drop n xs ≡ option_to_list (slice_get xs n) ++ drop (n + 1) xs
    by (inl h) =
        let next : n + 1 ≡ suc n = omega arith in
        drop-cons xs n h.0 h.1 ∙ ap (λ y. y ∷ drop (suc n) xs) h.3 ∙ ap (λ k. h.0 ∷ drop k xs) (sym next)
        ∙ ap (λ o. option_to_list o ++ drop (n + 1) xs) (sym h.2)
    by (inr h) =
        let past : length xs ≤ n + 1 = let l = h.0 in omega arith in
        drop_of_length-le xs h.0 ∙ sym (drop_of_length-le xs past) ∙ ap (λ o. option_to_list o ++ drop (n + 1) xs) (sym h.1)
