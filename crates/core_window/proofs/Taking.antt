-- A Read is taken out of those that wait, which are in the order of their numbers.
use Rattle.std.proofs.Common.{get_or, set, ◌≡◌, ℕ, ◌+◌, ◌<◌, Bool, true, false, cond, not, eqb, List, [], ◌∷◌, ◌++◌, length, drop, Some, None, refl, sym, ap, ap₂, subst, ◌∙◌, arith, append_assoc}
use Rattle.std.specs.Prelude.{filter, find, ◌-◌, take}
use Rattle.std.specs.List.{AllByRecursion as Each, copy_within}
use Rattle.std.proofs.Math.Seq.{drop-append_seam, get_or-append_seam, set-append_seam}
use Rattle.std.proofs.lemmas.Bool.{ne_eqb, eq-eqb, eqb-true}
use Rattle.std.proofs.lemmas.List.{append-nil, drop-append-le, drop-set-add, length-append, length-drop, length-take-le, set-append_right}
use Rattle.std.proofs.lemmas.List.Edits.{paste_all}
use Rattle.sim_base.proofs.Ordered.{Each-weaker}
use Rattle.core_window.specs.Counting.{read_of, without_read}
use Rattle.core_window.specs.Outstanding.{IsByNumber}
use Rattle.core_window.specs.declared.outstanding.OutstandingRead.{OutstandingRead}

abbrev is_it : ℕ → OutstandingRead → Bool
is_it e read = eqb read.entry e

abbrev is_other : ℕ → OutstandingRead → Bool
is_other e read = not (eqb read.entry e)

-- the Reads with larger numbers are others than the one that is taken out
all_others : (e : ℕ) (reads : List OutstandingRead) → Each (λ (r : OutstandingRead). e < r.entry) reads → filter (is_other e) reads ≡ reads
all_others e [] h = refl
all_others e (read ∷ reads) h =
    ap (λ b. cond (not b) (read ∷ filter (is_other e) reads) (filter (is_other e) reads)) (ne_eqb read.entry e (λ same. omega (arith, h.0)))
    ∙ ap (λ l. read ∷ l) (all_others e reads h.1)

-- The Read of a number is looked for among those from a place on. Those before it moved up by a place, which leaves the
-- first place free; the last of them is at hand, and those from the next place on stand where they were.
pub record IsCarrying (entry : ℕ) (old : List OutstandingRead) (first : ℕ) (places : List OutstandingRead) (place : ℕ) (held : OutstandingRead) : Type 0 where
  pub front : List OutstandingRead
  pub back : List OutstandingRead
  pub all : places ≡ front ++ back
  pub at : place ≡ length front
  pub inside : first < length front
  pub found : read_of entry old ≡ read_of entry (held ∷ back)
  pub others : without_read entry old ≡ drop (first + 1) front ++ without_read entry (held ∷ back)
  pub order : IsByNumber (held ∷ back)

-- the one at hand is another: it takes the next place, and the one that stood there is at hand
more : (entry : ℕ) (old : List OutstandingRead) (first : ℕ) (places : List OutstandingRead) (place : ℕ) (held d : OutstandingRead) (front back : List OutstandingRead)
    → places ≡ front ++ back → place ≡ length front → first < length front → read_of entry old ≡ read_of entry (held ∷ back)
    → without_read entry old ≡ drop (first + 1) front ++ without_read entry (held ∷ back) → IsByNumber (held ∷ back)
    → place < length places → eqb held.entry entry ≡ false → IsCarrying entry old first (set places place held) (place + 1) (get_or places place d)
more entry old first places place held d front [] all at inside found others order l other =
    let long : length places ≡ length front = ap length (all ∙ append-nil front) in
    absurd (omega (arith, long))
more entry old first places place held d front (x ∷ back) all at inside found others order l other =
    let next : get_or places place d ≡ x = ap₂ (λ ps n. get_or ps n d) all at ∙ get_or-append_seam front x back d in
    let long : length (front ++ held ∷ []) ≡ length front + 1 = length-append front (held ∷ []) in
    let moved : drop (first + 1) (front ++ held ∷ []) ≡ drop (first + 1) front ++ held ∷ [] = drop-append-le (first + 1) front (held ∷ []) (omega arith) in
    record {
      front = front ++ held ∷ [];
      back = back;
      all = ap₂ (λ ps n. set ps n held) all at ∙ set-append_seam front x back held ∙ sym (append_assoc front (held ∷ []) back);
      at = ap (λ n. n + 1) at ∙ sym long;
      inside = omega (arith, long);
      found = found ∙ ap (λ b. cond b (Some held) (read_of entry (x ∷ back))) other ∙ ap (λ y. read_of entry (y ∷ back)) (sym next);
      others = others
          ∙ ap (λ b. drop (first + 1) front ++ cond (not b) (held ∷ without_read entry (x ∷ back)) (without_read entry (x ∷ back))) other
          ∙ sym (append_assoc (drop (first + 1) front) (held ∷ []) (without_read entry (x ∷ back)))
          ∙ ap (λ l. l ++ without_read entry (x ∷ back)) (sym moved)
          ∙ ap (λ y. drop (first + 1) (front ++ held ∷ []) ++ without_read entry (y ∷ back)) (sym next);
      order = subst (λ y. IsByNumber (y ∷ back)) (sym next) order.1;
    }

pub carrying-more : (entry : ℕ) (old : List OutstandingRead) (first : ℕ) (places : List OutstandingRead) (place : ℕ) (held d : OutstandingRead)
    → IsCarrying entry old first places place held → place < length places → (held.entry ≡ entry → ⊥) → IsCarrying entry old first (set places place held) (place + 1) (get_or places place d)
carrying-more entry old first places place held d h l other =
    more entry old first places place held d h.front h.back h.all h.at h.inside h.found h.others h.order l (ne_eqb held.entry entry other)

-- the one at hand is the one that was looked for
pub carrying-last : (entry : ℕ) (old : List OutstandingRead) (first : ℕ) (places : List OutstandingRead) (place : ℕ) (held : OutstandingRead)
    → IsCarrying entry old first places place held → held.entry ≡ entry → drop (first + 1) places ≡ without_read entry old
carrying-last entry old first places place held h same =
    let it : eqb held.entry entry ≡ true = eq-eqb held.entry entry same in
    let larger : Each (λ (r : OutstandingRead). entry < r.entry) h.back = Each-weaker (λ (r : OutstandingRead). held.entry < r.entry) (λ r. entry < r.entry) (λ r k. omega arith) h.back h.order.0 in
    let rest : without_read entry (held ∷ h.back) ≡ h.back = ap (λ b. cond (not b) (held ∷ without_read entry h.back) (without_read entry h.back)) it ∙ all_others entry h.back larger in
    ap (drop (first + 1)) h.all ∙ drop-append-le (first + 1) h.front h.back (omega (arith, h.inside))
    ∙ sym (h.others ∙ ap (λ l. drop (first + 1) h.front ++ l) rest)

-- what stands in a single place
one-set : (l : List OutstandingRead) (x : OutstandingRead) → length l ≡ 1 → set l 0 x ≡ x ∷ []
one-set [] x h = absurd (omega (arith, h))
one-set (y ∷ []) x h = refl
one-set (y ∷ z ∷ l) x h = absurd (omega (arith, h))

-- all from a place on move up by one, and the last place takes another
pub moved-down : (places : List OutstandingRead) (first : ℕ) (last : OutstandingRead) → first < length places
    → drop first (set (copy_within places (first + 1) (length places) first) (length places - 1) last) ≡ drop (first + 1) places ++ last ∷ []
moved-down places first last inside =
    let len = length places in
    let moved = drop (first + 1) places in
    let i = len - 1 - first in
    let long : length moved ≡ i = length-drop (first + 1) places ∙ omega (arith, inside) in
    let end : List OutstandingRead = drop (first + (len - (first + 1))) places in
    let one : length end ≡ 1 = length-drop (first + (len - (first + 1))) places ∙ omega (arith, inside) in
    let front : length (take first places) ≡ first = length-take-le first places (omega (arith, inside)) in
    let pasted : copy_within places (first + 1) len first ≡ take first places ++ (moved ++ end) = paste_all places first moved (len - (first + 1)) (omega (arith, long, inside)) in
    let rest : drop first (copy_within places (first + 1) len first) ≡ moved ++ end =
    ap (drop first) pasted ∙ sym (ap (λ n. drop n (take first places ++ (moved ++ end))) front) ∙ drop-append_seam (take first places) (moved ++ end) in
    let at : len - 1 ≡ first + i = omega (arith, inside) in
    let none : i - i ≡ 0 = omega arith in
    ap (λ n. drop first (set (copy_within places (first + 1) len first) n last)) at
    ∙ drop-set-add first (copy_within places (first + 1) len first) i last
    ∙ ap (λ l. set l i last) rest
    ∙ set-append_right moved end i i last long (omega arith)
    ∙ ap (λ n. moved ++ set end n last) none
    ∙ ap (λ l. moved ++ l) (one-set end last one)

-- the Read that is found has the number
pub found-own : (e : ℕ) (reads : List OutstandingRead) (read : OutstandingRead) → find (is_it e) reads ≡ Some read → read.entry ≡ e
found-own e [] read h = absurd (none_some read h)
  where
    none_some : (r : OutstandingRead) → None ≡ Some r → ⊥
    none_some r q = cc
found-own e (x ∷ reads) read h = by (eqb x.entry e) (eqb-true x.entry e) (found-own e reads read) h
  where
    by : (b : Bool) → (b ≡ true → x.entry ≡ e) → (find (is_it e) reads ≡ Some read → read.entry ≡ e) → cond b (Some x) (find (is_it e) reads) ≡ Some read → read.entry ≡ e
    by true same i q = let at = same refl in let r : x ≡ read = some_same q in ap (λ (w : OutstandingRead). w.entry) (sym r) ∙ at
      where
        some_same : Some x ≡ Some read → x ≡ read
        some_same p = cc
    by false same i q = i q

-- where no Read has the number, none is taken out
pub none-out : (e : ℕ) (reads : List OutstandingRead) → ((read : OutstandingRead) → find (is_it e) reads ≡ Some read → ⊥) → filter (is_other e) reads ≡ reads
none-out e [] h = refl
none-out e (x ∷ reads) h = by (eqb x.entry e) h (none-out e reads)
  where
    by : (b : Bool) → ((read : OutstandingRead) → cond b (Some x) (find (is_it e) reads) ≡ Some read → ⊥)
        → (((read : OutstandingRead) → find (is_it e) reads ≡ Some read → ⊥) → filter (is_other e) reads ≡ reads)
        → cond (not b) (x ∷ filter (is_other e) reads) (filter (is_other e) reads) ≡ x ∷ reads
    by true k i = absurd (k x refl)
    by false k i = ap (λ l. x ∷ l) (i k)
