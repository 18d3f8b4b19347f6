-- The steps of the loops over one buffer.
use Rattle.std.proofs.Common.{◌↔◌, cond, ℕ, suc, zero, ◌+◌, ◌-◌, ◌<◌, ◌≤◌, ◌≡◌, ◌⊎◌, inl, inr, Bool, true, false, not, ltb, get_or, set, length, length-set, take, drop, List, [], ◌∷◌, ◌++◌, append-nil, Option, Some, None, refl, sym, ap, ◌∙◌, subst, arith}
use Rattle.std.specs.Prelude.{filter, insert, slice_get}
use Rattle.std.specs.Option.{option_map_or}
use Rattle.std.specs.List.{take_while, AllByRecursion as Each}
use Rattle.std.proofs.lemmas.Bool.{cases_lt, cond-true, cond-false, le-ltb, lt-ltb, ltb-true, ltb-false, true≢false}
use Rattle.std.proofs.lemmas.Option.{slice_get-get_or}
use Rattle.std.proofs.Math.Seq.{drop-append_seam}
use Rattle.std.proofs.lemmas.List.{get_or_default, get_or-set_other, set-set, length_push, drop-append-le, get_or-drop, length-append, length-drop, length-take-le, take_all, drop_all}
use Rattle.std.proofs.lemmas.List.Sums.{take_while-cons}
use Rattle.sim_base.specs.History.{is_before, insert_by_age, by_age}
use Rattle.sim_base.specs.declared.message.Message.{Message}
use Rattle.sim_base.proofs.Arrived.{put, fold-puts, not_before_le}
use Rattle.sim_base.proofs.Lists.{slice_get-drop}
use Rattle.sim_base.proofs.Ordered.{Each-weaker, Sorted}
use Rattle.links.specs.InFlight.{arrives_before}
use Rattle.links.specs.Buffers.{GoesBehind, arrives_later, is_last_due, is_younger_last, IsInserted}
use Rattle.links.proofs.Ages.{in_order-Sorted}
use Rattle.links.proofs.Merging.{after_both}

-- ---- putting a message in, from the back
pub Each-at : {X : Type 0} (P : X → Type 0) (xs : List X) (k : ℕ) (d : X) → Each P xs → k < length xs → P (get_or xs k d)
Each-at P [] k d h l = absurd (omega arith)
Each-at P (x ∷ xs) zero d h l = h.0
Each-at P (x ∷ xs) (suc k) d h l = Each-at P xs k d h.1 (omega arith)

-- the messages from a place on are younger than a message
abbrev pub AreYounger : Message → ℕ → List Message → Type 0
AreYounger m i xs = Each (λ (y : Message). is_before m y ≡ true) (drop i xs)

pub younger_none : (m : Message) (xs : List Message) → AreYounger m (length xs) xs
younger_none m [] = tt
younger_none m (x ∷ xs) = younger_none m xs

pub insert_last : (m : Message) (xs : List Message) → insert xs (length xs) m ≡ xs ++ m ∷ []
insert_last m [] = refl
insert_last m (x ∷ xs) = ap (λ z. x ∷ z) (insert_last m xs)

pub last_free : (m : Message) (xs : List Message) → set (xs ++ m ∷ []) (length xs) m ≡ insert xs (length xs) m
last_free m [] = refl
last_free m (x ∷ xs) = ap (λ z. x ∷ z) (last_free m xs)

insert_before : (m d : Message) (q : ℕ) (xs : List Message) → q < length xs → get_or (insert xs (suc q) m) q d ≡ get_or xs q d
insert_before m d q [] l = absurd (omega arith)
insert_before m d zero (x ∷ xs) l = refl
insert_before m d (suc q) (x ∷ xs) l = insert_before m d q xs (omega arith)

insert_moves : (m d : Message) (q : ℕ) (xs : List Message) → q < length xs → set (set (insert xs (suc q) m) (suc q) (get_or xs q d)) q m ≡ insert xs q m
insert_moves m d q [] l = absurd (omega arith)
insert_moves m d zero (x ∷ xs) l = refl
insert_moves m d (suc q) (x ∷ xs) l = ap (λ z. x ∷ z) (insert_moves m d q xs (omega arith))

younger_more : (m d : Message) (q : ℕ) (xs : List Message) → q < length xs → AreYounger m (suc q) xs → is_before m (get_or xs q d) ≡ true → AreYounger m q xs
younger_more m d q [] l h k = absurd (omega arith)
younger_more m d zero (x ∷ xs) l h k = (k, h)
younger_more m d (suc q) (x ∷ xs) l h k = younger_more m d q xs (omega arith) h k

-- the message at a place before the one that is free
before_free : (m y : Message) (p q : ℕ) (xs ys : List Message) → p ≡ q + 1 → p ≤ length xs → set ys p m ≡ insert xs p m → get_or ys q y ≡ get_or xs q y
before_free m y p q xs ys e l h =
    let s : p ≡ suc q = omega arith in
    sym (get_or-set_other ys p q m y (λ f. absurd (omega (arith, e, f))))
    ∙ ap (λ z. get_or z q y) h
    ∙ ap (λ i. get_or (insert xs i m) q y) s
    ∙ insert_before m y q xs (omega arith)

-- a younger message moves back into the place that is free, and its own is free
pub inserted : (m y : Message) (p q : ℕ) (xs ys : List Message) → p ≡ q + 1 → p ≤ length xs → set ys p m ≡ insert xs p m → get_or ys q y ≡ y → set (set ys p y) q m ≡ insert xs q m
inserted m y p q xs ys e l h g =
    let s : p ≡ suc q = omega arith in
    let at : get_or xs q y ≡ y = sym (before_free m y p q xs ys e l h) ∙ g in
    ap (λ z. set z q m) (sym (set-set ys p m y))
    ∙ ap (λ z. set (set z p y) q m) h
    ∙ ap (λ i. set (set (insert xs i m) i y) q m) s
    ∙ ap (λ z. set (set (insert xs (suc q) m) (suc q) z) q m) (sym at)
    ∙ insert_moves m y q xs (omega arith)

pub inserted_younger : (m y : Message) (p q : ℕ) (xs ys : List Message) → p ≡ q + 1 → p ≤ length xs → set ys p m ≡ insert xs p m → get_or ys q y ≡ y → is_before m y ≡ true
    → AreYounger m p xs → AreYounger m q xs
inserted_younger m y p q xs ys e l h g b k =
    let s : p ≡ suc q = omega arith in
    let at : get_or xs q y ≡ y = sym (before_free m y p q xs ys e l h) ∙ g in
    younger_more m y q xs (omega arith) (subst (λ i. AreYounger m i xs) s k) (ap (is_before m) at ∙ b)

set_last : (m y : Message) (xs : List Message) → set (xs ++ m ∷ []) (length xs) y ≡ xs ++ y ∷ []
set_last m y [] = refl
set_last m y (x ∷ xs) = ap (λ z. x ∷ z) (set_last m y xs)

pub got : (m y : Message) (k : ℕ) (xs : List Message) → slice_get xs k ≡ Some y → (k < length xs) × (get_or (xs ++ m ∷ []) k y ≡ y)
got m y k [] h = cc
got m y zero (x ∷ xs) h = (omega arith, cc)
got m y (suc k) (x ∷ xs) h = let rest = got m y k xs h in (omega (arith, rest.0), rest.1)

-- the last message, where it is younger, stands once more behind itself, and its place is free
pub inserted_last : (m y : Message) (xs : List Message) → slice_get xs (length xs - 1) ≡ Some y → is_before m y ≡ true
    → (set (xs ++ y ∷ []) (length xs - 1) m ≡ insert xs (length xs - 1) m) × AreYounger m (length xs - 1) xs
inserted_last m y xs h b =
    let at = got m y (length xs - 1) xs h in
    let e : length xs ≡ length xs - 1 + 1 = omega (arith, at.0) in
    let all : length xs ≤ length xs = omega arith in (
      ap (λ z. set z (length xs - 1) m) (sym (set_last m y xs)) ∙ inserted m y (length xs) (length xs - 1) xs (xs ++ m ∷ []) e all (last_free m xs) at.1,
      inserted_younger m y (length xs) (length xs - 1) xs (xs ++ m ∷ []) e all (last_free m xs) at.1 b (younger_none m xs),
    )

put_younger : (m : Message) (xs : List Message) → AreYounger m 0 xs → put m xs ≡ m ∷ xs
put_younger m [] h = refl
put_younger m (x ∷ xs) h = cond-true _ _ _ h.0

insert-put_at : (m : Message) (i : ℕ) (xs : List Message) → Sorted xs → i ≤ length xs → AreYounger m i xs → ((k : ℕ) → suc k ≡ i → is_before m (get_or xs k m) ≡ false)
    → insert xs i m ≡ put m xs
insert-put_at m zero xs s l h k = sym (put_younger m xs h)
insert-put_at m (suc i) [] s l h k = absurd (omega arith)
insert-put_at m (suc i) (x ∷ xs) s l h k =
    ap (λ z. x ∷ z) (insert-put_at m i xs s.1 (omega arith) h (λ j e. k (suc j) (ap suc e)))
    ∙ sym (cond-false (is_before m x) (m ∷ x ∷ xs) (x ∷ put m xs) (first i refl))
  where
    first : (j : ℕ) → j ≡ i → is_before m x ≡ false
    first zero e = k 0 (ap suc e)
    first (suc j) e = after_both x (get_or xs j m) m (Each-at _ xs j m s.0 (omega arith)) (k (suc j) (ap suc e))

-- where no younger one stands before it, the message is in its place
pub placed : (m : Message) (p : ℕ) (xs ys : List Message) → by_age xs ≡ xs → ys ≡ insert xs p m → p ≤ length xs → AreYounger m p xs
    → ((q : ℕ) → p ≡ q + 1 → is_before m (get_or ys q m) ≡ false) → ys ≡ insert_by_age xs m
placed m p xs ys s e l h k =
    e
    ∙ insert-put_at m p xs (in_order-Sorted xs s) l h
    (λ q f. let g : p ≡ q + 1 = omega arith in
    ap (is_before m) (sym (insert_before m m q xs (omega arith)) ∙ ap (λ i. get_or (insert xs i m) q m) f ∙ ap (λ z. get_or z q m) (sym e)) ∙ k q g)
    ∙ sym (fold-puts xs (m ∷ []))

-- a message that is set at a place that is still free is in its place, where no younger one stands before it
pub placed_free : (m : Message) (p : ℕ) (xs ys : List Message) → by_age xs ≡ xs → set ys p m ≡ insert xs p m → p ≤ length xs → AreYounger m p xs
    → ((q : ℕ) → p ≡ q + 1 → is_before m (get_or ys q m) ≡ false) → set ys p m ≡ insert_by_age xs m
placed_free m p xs ys s e l h k =
    placed m p xs (set ys p m) s e l h
    (λ q f. ap (is_before m) (get_or-set_other ys p q m m (λ g. absurd (omega (arith, f, g)))) ∙ k q f)

-- The place where a message is inserted is found by counting from the back: at place p it would stand by age, but for
-- the messages before p.
pub record Sinks (m : Message) (p : ℕ) (old ys : List Message) : Type 0 where
  pub within : p + 1 < length old
  pub length_is : length ys ≡ length old
  pub moved : (ms : List Message) (y : Message) → old ≡ ms ++ y ∷ [] → slice_get ms (length ms - 1) ≡ Some y → is_before m y ≡ true
      → (set ys p m ≡ insert ms p m) × AreYounger m p ms

pub inserts_first : (m : Message) (p : ℕ) (old : List Message) → 2 ≤ length old → p ≡ length old - 2 → Sinks m p old old
inserts_first m p old some e = record {
  within = omega (arith, some, e);
  length_is = refl;
  moved = λ ms y h g b.
      let at : p ≡ length ms - 1 = omega (arith, e, ap length h, length_push ms y) in
      let last = inserted_last m y ms g b in (
        ap (λ z. set z p m) h ∙ ap (λ i. set (ms ++ y ∷ []) i m) at ∙ last.0 ∙ ap (λ i. insert ms i m) (sym at),
        subst (λ i. AreYounger m i ms) (sym at) last.1,
      );
}

pub inserts_more : (m x : Message) (p q : ℕ) (old ys : List Message) → p ≡ q + 1 → get_or ys q x ≡ x → is_before m x ≡ true → Sinks m p old ys → Sinks m q old (set ys p x)
inserts_more m x p q old ys e g b h = record {
  within = omega (arith, e, h.within);
  length_is = length-set ys p x ∙ h.length_is;
  moved = λ ms y f last young.
      let l : p ≤ length ms = omega (arith, h.within, ap length f, length_push ms y) in
      let at = h.moved ms y f last young in
      (inserted m x p q ms ys e l at.0 g, inserted_younger m x p q ms ys e l at.0 g b at.1);
}

pub inserts_step : (m d : Message) (p : ℕ) (old ys : List Message) → 0 < p → is_before m (get_or ys (p - 1) m) ≡ true → Sinks m p old ys → Sinks m (p - 1) old (set ys p (get_or ys (p - 1) d))
inserts_step m d p old ys some b h =
    let l : p - 1 < length ys = omega (arith, h.within, h.length_is) in
    inserts_more m (get_or ys (p - 1) d) p (p - 1) old ys (omega (arith, some)) (get_or_default ys (p - 1) (get_or ys (p - 1) d) d l)
    (ap (is_before m) (get_or_default ys (p - 1) d m l) ∙ b) h

pub inserts_last : (m : Message) (p : ℕ) (old ys : List Message) → Sinks m p old ys → ((q : ℕ) → p ≡ q + 1 → is_before m (get_or ys q m) ≡ false) → IsInserted m old (set ys p m)
inserts_last m p old ys h none ms y s f last young =
    let l : p ≤ length ms = omega (arith, h.within, ap length f, length_push ms y) in
    let at = h.moved ms y f last young in
    placed_free m p ms ys s at.0 l at.1 none

-- what a message is put among, once the last of it, which is younger, stands twice
pub inserted_among : (m y : Message) (old pushed new : List Message) → by_age old ≡ old → slice_get old (length old - 1) ≡ Some y → is_younger_last m old ≡ true
    → pushed ≡ old ++ y ∷ [] → IsInserted m pushed new → new ≡ insert_by_age old m
inserted_among m y old pushed new s at young e h = h old y s e at (subst (λ o. option_map_or (is_before m) o false ≡ true) at young)

pub stands_twice : (y : Message) (old pushed : List Message) → slice_get old (length old - 1) ≡ Some y → pushed ≡ old ++ y ∷ [] → 2 ≤ length pushed
stands_twice y old pushed at e = omega (arith, (got y y (length old - 1) old at).0, ap length e, length_push old y)

-- what stands from a place on, once it was written
pub rest_written : (free len : ℕ) (old new items : List Message) → free ≤ length old → length new ≡ length old - free → len ≡ length old → length items ≡ len
    → drop free (take len ((take free old ++ (new ++ drop (length old - free) (drop free old))) ++ drop (length (take free old ++ (new ++ drop (length old - free) (drop free old)))) items)) ≡ new
rest_written free len old new items l n e k =
    let none : drop (length old - free) (drop free old) ≡ [] = drop_all (length old - free) (drop free old) (omega (arith, length-drop free old)) in
    let same : take free old ++ (new ++ drop (length old - free) (drop free old)) ≡ take free old ++ new = ap (λ z. take free old ++ (new ++ z)) none ∙ ap (λ z. take free old ++ z) (append-nil new) in
    let front : length (take free old) ≡ free = length-take-le free old l in
    let long : length (take free old ++ new) ≡ len = length-append (take free old) new ∙ omega (arith, front, n, e, l) in
    ap (λ all. drop free (take len (all ++ drop (length all) items))) same
    ∙ ap (λ z. drop free (take len ((take free old ++ new) ++ z))) (drop_all (length (take free old ++ new)) items (omega (arith, long, k)))
    ∙ ap (λ z. drop free (take len z)) (append-nil (take free old ++ new))
    ∙ ap (drop free) (take_all len (take free old ++ new) (omega (arith, long)))
    ∙ ap (λ i. drop i (take free old ++ new)) (sym front)
    ∙ drop-append_seam (take free old) new

last_not_younger : (m : Message) (q : ℕ) (xs : List Message) → q < length xs → option_map_or (is_before m) (slice_get xs q) false ≡ false → is_before m (get_or (xs ++ m ∷ []) q m) ≡ false
last_not_younger m q [] l h = absurd (omega arith)
last_not_younger m zero (x ∷ xs) l h = h
last_not_younger m (suc q) (x ∷ xs) l h = last_not_younger m q xs (omega arith) h

-- a message that the last one is not younger than goes to the back
pub placed_last : (m : Message) (xs : List Message) → by_age xs ≡ xs → option_map_or (is_before m) (slice_get xs (length xs - 1)) false ≡ false → xs ++ m ∷ [] ≡ insert_by_age xs m
placed_last m xs s h =
    placed m (length xs) xs (xs ++ m ∷ []) s (sym (insert_last m xs)) (omega arith) (younger_none m xs)
    (λ q f. let e : length xs - 1 ≡ q = omega arith in
    last_not_younger m q xs (omega arith) (subst (λ i. option_map_or (is_before m) (slice_get xs i) false ≡ false) e h))

-- ---- the head of a list
pub head_true : (p : Message → Bool) (x : Message) (xs : List Message) → p x ≡ true → take_while p (x ∷ xs) ≡ x ∷ take_while p xs
head_true p x xs e = take_while-cons p x xs ∙ cond-true _ _ _ e

pub head_false : (p : Message → Bool) (x : Message) (xs : List Message) → p x ≡ false → take_while p (x ∷ xs) ≡ []
head_false p x xs e = take_while-cons p x xs ∙ cond-false _ _ _ e

-- where all arrive later than a cycle
late : (until : ℕ) (ms : List Message) → Each (λ (y : Message). until ≤ y.arrival) ms → (filter (arrives_before until) ms ≡ []) × (filter (arrives_later until) ms ≡ ms)
late until [] h = (refl, refl)
late until (m ∷ ms) h =
    let no : arrives_before until m ≡ false = le-ltb m.arrival until h.0 in
    let rest = late until ms h.1 in
    (cond-false _ _ _ no ∙ rest.0, cond-true _ _ _ (ap not no) ∙ ap (λ x. m ∷ x) rest.1)

all_late : (until : ℕ) (m : Message) (ms : List Message) → Sorted (m ∷ ms) → until ≤ m.arrival → Each (λ (y : Message). until ≤ y.arrival) (m ∷ ms)
all_late until m ms s l = (l, Each-weaker _ (λ (y : Message). until ≤ y.arrival) (λ y h. omega (arith, not_before_le y m h)) ms s.0)

due_at_head : (until : ℕ) (ms : List Message) → Sorted ms
    → (take_while (arrives_before until) ms ≡ filter (arrives_before until) ms)
    × (drop (length (take_while (arrives_before until) ms)) ms ≡ filter (arrives_later until) ms)
due_at_head until [] s = (refl, refl)
due_at_head until (m ∷ ms) s = by (ltb m.arrival until) refl (due_at_head until ms s.1)
  where
    by : (b : Bool) → ltb m.arrival until ≡ b
        → (take_while (arrives_before until) ms ≡ filter (arrives_before until) ms)
        × (drop (length (take_while (arrives_before until) ms)) ms ≡ filter (arrives_later until) ms)
        → (take_while (arrives_before until) (m ∷ ms) ≡ filter (arrives_before until) (m ∷ ms))
        × (drop (length (take_while (arrives_before until) (m ∷ ms))) (m ∷ ms) ≡ filter (arrives_later until) (m ∷ ms))
    by true e rest =
        let head = head_true (arrives_before until) m ms e in (
          head ∙ ap (λ z. m ∷ z) rest.0 ∙ sym (cond-true _ _ _ e),
          ap (λ z. drop (length z) (m ∷ ms)) head ∙ rest.1 ∙ sym (cond-false _ _ _ (ap not e)),
        )
    by false e rest =
        let none = late until (m ∷ ms) (all_late until m ms s (ltb-false m.arrival until e)) in
        let head = head_false (arrives_before until) m ms e in (
          head ∙ sym none.0,
          ap (λ z. drop (length z) (m ∷ ms)) head ∙ sym none.1,
        )

-- what arrives before a cycle stands at the head, and all behind it arrives later
pub head_due : (until : ℕ) (ms : List Message) → by_age ms ≡ ms
    → (take_while (arrives_before until) ms ≡ filter (arrives_before until) ms)
    × (drop (length (take_while (arrives_before until) ms)) ms ≡ filter (arrives_later until) ms)
head_due until ms s = due_at_head until ms (in_order-Sorted ms s)

-- ---- behind places that are free
-- a message is put behind others
pub put_last : (free : ℕ) (m : Message) (ms places pushed : List Message) → free ≤ length places → ms ≡ drop free places → pushed ≡ places ++ m ∷ [] → by_age ms ≡ ms → is_younger_last m ms ≡ false
    → drop free pushed ≡ insert_by_age ms m
put_last free m ms places pushed l e f s young =
    ap (drop free) f ∙ drop-append-le free places (m ∷ []) l ∙ ap (λ z. z ++ m ∷ []) (sym e) ∙ placed_last m ms s young

-- places that are free stand before all messages: the last place is that of the last message
pub last_place : (m : Message) (free : ℕ) (places : List Message) → free ≤ length places → (free ≡ length places → free ≡ 0) → is_younger_last m (drop free places) ≡ is_younger_last m places
last_place m free places l none =
    ap (λ o. option_map_or (is_before m) o false)
    (ap (λ n. slice_get (drop free places) (n - 1)) (length-drop free places) ∙ slice_get-drop places free (length places - free - 1) ∙ ap (slice_get places) (same (cases_lt free (length places))))
  where
    same : (free < length places) ⊎ (length places ≤ free) → free + (length places - free - 1) ≡ length places - 1
    same (inl less) = omega (arith, less)
    same (inr over) =
        let all : free ≡ length places = omega (arith, l, over) in
        let zero_free : free ≡ 0 = none all in
        omega (arith, zero_free)

-- the last of some messages is put behind them once more
pub put_twice : (free : ℕ) (y : Message) (ms places pushed : List Message) → free ≤ length places → ms ≡ drop free places → pushed ≡ places ++ y ∷ [] → drop free pushed ≡ ms ++ y ∷ []
put_twice free y ms places pushed l e f = ap (drop free) f ∙ drop-append-le free places (y ∷ []) l ∙ ap (λ z. z ++ y ∷ []) (sym e)

-- the last of what stands behind the free places, if a message goes before it
pub last_of : (m d : Message) (free : ℕ) (ms places : List Message) → free ≤ length places → ms ≡ drop free places → is_younger_last m ms ≡ true
    → (free < length places) × (slice_get ms (length ms - 1) ≡ Some (get_or places (length places - 1) d))
last_of m d free ms places l e young = by ms e young (length-drop free places)
  where
    none_last : (m : Message) → is_younger_last m [] ≡ true → ⊥
    none_last m h = absurd (true≢false (sym h))

    by : (zs : List Message) → zs ≡ drop free places → is_younger_last m zs ≡ true → length (drop free places) ≡ length places - free
        → (free < length places) × (slice_get zs (length zs - 1) ≡ Some (get_or places (length places - 1) d))
    by [] f h k = absurd (none_last m h)
    by (z ∷ zs) f h k =
        let some : free < length places = omega (arith, ap length f, k) in
        let at : length (z ∷ zs) - 1 < length (z ∷ zs) = omega arith in
        let place : free + (length (z ∷ zs) - 1) ≡ length places - 1 = omega (arith, ap length f, k) in
        (some, slice_get-get_or (z ∷ zs) (length (z ∷ zs) - 1) d at ∙ ap Some (ap (λ l. get_or l (length (z ∷ zs) - 1) d) f ∙ get_or-drop free places (length (z ∷ zs) - 1) d ∙ ap (λ i. get_or places i d) place))

-- the last of some messages is put behind them once more, and then a message among them
pub put_in : (m y : Message) (free len : ℕ) (ms places pushed written new : List Message) → free ≤ length places → ms ≡ drop free places → by_age ms ≡ ms → is_younger_last m ms ≡ true
    → y ≡ get_or places (length places - 1) y → pushed ≡ places ++ y ∷ [] → written ≡ pushed → len ≡ length written
    → length new ≡ length (take (length written - free) (drop free written)) → IsInserted m (take (length written - free) (drop free written)) new
    → drop free (take len ((take free written ++ (new ++ drop (length written - free) (drop free written)))
    ++ drop (length (take free written ++ (new ++ drop (length written - free) (drop free written)))) pushed))
    ≡ insert_by_age ms m
put_in m y free len ms places pushed written new l e s young at f g k same h =
    let long : length pushed ≡ length places + 1 = ap length f ∙ length_push places y in
    let longer : length written ≡ length places + 1 = ap length g ∙ long in
    let whole : take (length written - free) (drop free written) ≡ drop free written = take_all (length written - free) (drop free written) (omega (arith, length-drop free written)) in
    let twice : take (length written - free) (drop free written) ≡ ms ++ y ∷ [] = whole ∙ put_twice free y ms places written l e (g ∙ f) in
    let last = last_of m y free ms places l e young in
    rest_written free len written new pushed (omega (arith, l, longer)) (same ∙ ap length whole ∙ length-drop free written) k (omega (arith, k, long, longer))
    ∙ inserted_among m y ms _ new s (last.1 ∙ ap Some (sym at)) young twice h

-- ---- messages of which the last one is due
get_or-first : (xs : List Message) (k : ℕ) (d : Message) → k < length xs → get_or (xs ++ d ∷ []) k d ≡ get_or xs k d
get_or-first [] k d h = absurd (omega arith)
get_or-first (x ∷ xs) zero d h = refl
get_or-first (x ∷ xs) (suc k) d h = get_or-first xs k d (omega arith)

due-all : (until : ℕ) (ms : List Message) (last : Message) → Sorted ms → slice_get ms (length ms - 1) ≡ Some last → last.arrival < until → filter (arrives_before until) ms ≡ ms
due-all until [] last s e l = refl
due-all until (m ∷ []) last s e l =
    let same : m ≡ last = cc in
    let due : arrives_before until m ≡ true = lt-ltb m.arrival until (omega (arith, l, ap (λ (x : Message). x.arrival) same)) in
    cond-true (arrives_before until m) (m ∷ []) [] due
due-all until (m ∷ n ∷ ns) last s e l =
    let behind_first : length (m ∷ n ∷ ns) - 1 ≡ suc (length ns) = omega arith in
    let last_of_rest : length ns ≡ length (n ∷ ns) - 1 = omega arith in
    let there : slice_get (n ∷ ns) (length ns) ≡ Some last = subst (λ k. slice_get (m ∷ n ∷ ns) k ≡ Some last) behind_first e in
    let rest = due-all until (n ∷ ns) last s.1 (subst (λ k. slice_get (n ∷ ns) k ≡ Some last) last_of_rest there) l in
    let at = got last last (length ns) (n ∷ ns) there in
    let behind : is_before last m ≡ false = subst (λ (x : Message). is_before x m ≡ false) (at-same at.0 at.1) (Each-at _ (n ∷ ns) (length ns) last s.0 at.0) in
    let due : arrives_before until m ≡ true = lt-ltb m.arrival until (omega (arith, l, not_before_le last m behind)) in
    cond-true (arrives_before until m) (m ∷ filter (arrives_before until) (n ∷ ns)) (filter (arrives_before until) (n ∷ ns)) due ∙ ap (λ xs. m ∷ xs) rest
  where
    at-same : length ns < length (n ∷ ns) → get_or ((n ∷ ns) ++ last ∷ []) (length ns) last ≡ last → get_or (n ∷ ns) (length ns) last ≡ last
    at-same within there = sym (get_or-first (n ∷ ns) (length ns) last within) ∙ there

pub all_due : (until : ℕ) (ms : List Message) → by_age ms ≡ ms → is_last_due until ms ≡ true → filter (arrives_before until) ms ≡ ms
all_due until ms h is = pick (slice_get ms (length ms - 1)) refl is
  where
    pick : (o : Option Message) → slice_get ms (length ms - 1) ≡ o → option_map_or (arrives_before until) o false ≡ true → filter (arrives_before until) ms ≡ ms
    pick None e is = absurd (true≢false (sym is))
    pick (Some last) e is = due-all until ms last (in_order-Sorted ms h) e (ltb-true last.arrival until is)

-- ---- messages that go behind others
pub some-left : (free : ℕ) (ms places : List Message) → free ≤ length places → (free ≡ length places → free ≡ 0) → ms ≡ drop free places → (0 < length ms) ↔ (0 < length places)
some-left free ms places l none e = (λ some. omega (arith, ap length e, length-drop free places, some), λ some. left some (cases_lt free (length places)))
  where
    left : 0 < length places → (free < length places) ⊎ (length places ≤ free) → 0 < length ms
    left some (inl less) = omega (arith, ap length e, length-drop free places, less)
    left some (inr over) =
        let all : free ≡ length places = omega (arith, l, over) in
        let zero_free : free ≡ 0 = none all in
        omega (arith, zero_free, some, over)

-- the one that a message goes behind arrives no later
pub behind-no_later : (m : Message) (ms : List Message) → GoesBehind m ms → 0 < length (filter (arrives_before (m.arrival + 1)) ms)
behind-no_later m [] h = h.0
behind-no_later m (x ∷ []) h =
    let due : arrives_before (m.arrival + 1) x ≡ true = lt-ltb x.arrival (m.arrival + 1) (omega (arith, not_before_le m x h.1)) in
    subst (λ b. 0 < length (cond b (x ∷ []) [])) (sym due) (omega arith)
behind-no_later m (x ∷ y ∷ ys) h = more (arrives_before (m.arrival + 1) x) (behind-no_later m (y ∷ ys) (omega arith, subst (λ k. option_map_or (is_before m) (slice_get (y ∷ ys) k) false ≡ false) last_of_rest last))
  where
    last : option_map_or (is_before m) (slice_get (x ∷ y ∷ ys) (suc (length ys))) false ≡ false
    last = let e : length (x ∷ y ∷ ys) - 1 ≡ suc (length ys) = omega arith in subst (λ k. option_map_or (is_before m) (slice_get (x ∷ y ∷ ys) k) false ≡ false) e h.1

    last_of_rest : length ys ≡ length (y ∷ ys) - 1
    last_of_rest = omega arith

    more : (b : Bool) → 0 < length (filter (arrives_before (m.arrival + 1)) (y ∷ ys)) → 0 < length (cond b (x ∷ filter (arrives_before (m.arrival + 1)) (y ∷ ys)) (filter (arrives_before (m.arrival + 1)) (y ∷ ys)))
    more true some = omega arith
    more false some = some
