-- Requests by cycle, cut at a cycle: those that were served up to it, and those after it.
use Rattle.std.proofs.Common.{◌≡◌, ℕ, zero, suc, ◌<◌, ◌≤◌, Bool, true, false, cond, leb, ltb, eqb, List, [], ◌∷◌, ◌++◌, length, get_or, map, take, drop, refl, sym, ap, ap₂, ◌∙◌, arith}
use Rattle.std.specs.Prelude.{filter, flat_map, All}
use Rattle.std.proofs.lemmas.Bool.{cond-true, cond-false, cond_both, ne_eqb, leb-true, leb-false, le-leb, lt-leb, lt-ltb, le-ltb}
use Rattle.std.proofs.lemmas.List.{map-append, append-nil, append_assoc}
use Rattle.std.proofs.lemmas.List.Concat.{flat_map-append}
use Rattle.sim_base.specs.declared.config.Config.{Config}
use Rattle.request_table.specs.declared.served_requests.ServedRequest.{ServedRequest}
use Rattle.request_table.specs.Tables.{AreServedBetween, IsInOrder, served_at, by_cycle, rows_up_to, rows_after, times_of, times_by_cycle}
use Rattle.request_table.proofs.Cycles.{flat-parts}

-- those that were served in a cycle
abbrev pub at : ℕ → List ServedRequest → List ServedRequest
at cycle rows = filter (λ row. eqb row.served cycle) rows

pub served-earlier : (from earlier until : ℕ) → earlier ≤ from → (rows : List ServedRequest) → AreServedBetween from until rows → AreServedBetween earlier until rows
served-earlier from earlier until l [] h = tt
served-earlier from earlier until l (row ∷ rows) h = (omega (arith, l, h.0), h.1, h.2)

pub served-rest : (from until : ℕ) (rows : List ServedRequest) → AreServedBetween from until rows → AreServedBetween from until (drop 1 rows)
served-rest from until [] h = tt
served-rest from until (row ∷ rows) h = served-earlier row.served from until h.0 rows h.2

pub served-filter : (p : ServedRequest → Bool) (from until : ℕ) (rows : List ServedRequest) → AreServedBetween from until rows → AreServedBetween from until (filter p rows)
served-filter p from until [] h = tt
served-filter p from until (row ∷ rows) h =
    cond_both (p row) (row ∷ filter p rows) (filter p rows) (AreServedBetween from until) (λ e. (h.0, h.1, served-filter p row.served until rows h.2))
    (λ e. served-earlier row.served from until h.0 (filter p rows) (served-filter p row.served until rows h.2))

-- each is served from the cycle on
from-get : (from until : ℕ) (rows : List ServedRequest) (j : ℕ) (d : ServedRequest) → AreServedBetween from until rows → j < length rows → from ≤ (get_or rows j d).served
from-get from until [] j d h l = absurd (omega (arith, l))
from-get from until (row ∷ rows) zero d h l = h.0
from-get from until (row ∷ rows) (suc j) d h l = let k = from-get row.served until rows j d h.2 (omega (arith, l)) in omega (arith, k, h.0)

in-order : (from until : ℕ) (rows : List ServedRequest) (i j : ℕ) (d : ServedRequest) → AreServedBetween from until rows → i ≤ j → j < length rows → (get_or rows i d).served ≤ (get_or rows j d).served
in-order from until [] i j d h m l = absurd (omega (arith, l))
in-order from until (row ∷ rows) zero zero d h m l = omega arith
in-order from until (row ∷ rows) zero (suc j) d h m l = from-get row.served until rows j d h.2 (omega (arith, l))
in-order from until (row ∷ rows) (suc i) zero d h m l = absurd (omega (arith, m))
in-order from until (row ∷ rows) (suc i) (suc j) d h m l = in-order row.served until rows i j d h.2 (omega (arith, m)) (omega (arith, l))

-- where one is served up to a cycle, so are those before it
pub partitioned : (rows : List ServedRequest) (cycle : ℕ) → IsInOrder rows → (i j : ℕ) (d : ServedRequest) → i ≤ j → j < length rows → leb (get_or rows j d).served cycle ≡ true → leb (get_or rows i d).served cycle ≡ true
partitioned rows cycle h i j d m l e =
    let k = in-order 0 h.until rows i j d h.served m l in
    let t = leb-true _ _ e in
    le-leb _ _ (omega (arith, k, t))

none-up-to : (cycle : ℕ) (rows : List ServedRequest) → ((k : ℕ) (d : ServedRequest) → k < length rows → leb (get_or rows k d).served cycle ≡ false) → ([] ≡ rows_up_to cycle rows) × (rows ≡ rows_after cycle rows)
none-up-to cycle [] h = (refl, refl)
none-up-to cycle (row ∷ rows) h =
    let e = h 0 row (omega arith) in
    let rest = none-up-to cycle rows (λ k d l. h (suc k) d (omega (arith, l))) in (
      rest.0 ∙ sym (cond-false _ _ _ e),
      ap (λ z. row ∷ z) rest.1 ∙ sym (cond-true _ _ _ (lt-ltb cycle row.served (leb-false _ _ e))),
    )

-- a place before which all are up to a cycle, and from which on all are after it, cuts the list there
pub cut-at : (cycle : ℕ) (rows : List ServedRequest) (place : ℕ) → place ≤ length rows → ((k : ℕ) (d : ServedRequest) → k < place → leb (get_or rows k d).served cycle ≡ true)
    → ((k : ℕ) (d : ServedRequest) → place ≤ k → k < length rows → leb (get_or rows k d).served cycle ≡ false) → (take place rows ≡ rows_up_to cycle rows) × (drop place rows ≡ rows_after cycle rows)
cut-at cycle rows zero l before behind = none-up-to cycle rows (λ k d m. behind k d (omega arith) m)
cut-at cycle [] (suc place) l before behind = absurd (omega (arith, l))
cut-at cycle (row ∷ rows) (suc place) l before behind =
    let e = before 0 row (omega arith) in
    let rest = cut-at cycle rows place (omega (arith, l)) (λ k d m. before (suc k) d (omega (arith, m))) (λ k d m n. behind (suc k) d (omega (arith, m)) (omega (arith, n))) in (
      ap (λ z. row ∷ z) rest.0 ∙ sym (cond-true _ _ _ e),
      rest.1 ∙ sym (cond-false _ _ _ (le-ltb cycle row.served (leb-true _ _ e))),
    )

-- a test that passes what is served in a cycle leaves those, and one that does not leaves none
at-kept : (p : ServedRequest → Bool) (t : ℕ) → ((row : ServedRequest) → row.served ≡ t → p row ≡ true) → (rows : List ServedRequest) → at t (filter p rows) ≡ at t rows
at-kept p t h [] = refl
at-kept p t h (row ∷ rows) = by (p row) refl (at-kept p t h rows)
  where
    by : (b : Bool) → p row ≡ b → at t (filter p rows) ≡ at t rows → at t (filter p (row ∷ rows)) ≡ at t (row ∷ rows)
    by true e k = ap (at t) (cond-true _ _ _ e) ∙ ap (λ z. cond (eqb row.served t) (row ∷ z) z) k
    by false e k =
        let other : row.served ≡ t → ⊥ = λ same. absurd (cc (sym e ∙ h row same)) in
        ap (at t) (cond-false _ _ _ e) ∙ k ∙ sym (cond-false _ _ _ (ne_eqb row.served t other))

at-dropped : (p : ServedRequest → Bool) (t : ℕ) → ((row : ServedRequest) → row.served ≡ t → p row ≡ false) → (rows : List ServedRequest) → at t (filter p rows) ≡ []
at-dropped p t h [] = refl
at-dropped p t h (row ∷ rows) = by (p row) refl (at-dropped p t h rows)
  where
    by : (b : Bool) → p row ≡ b → at t (filter p rows) ≡ [] → at t (filter p (row ∷ rows)) ≡ []
    by true e k =
        let other : row.served ≡ t → ⊥ = λ same. absurd (cc (sym e ∙ h row same)) in
        ap (at t) (cond-true _ _ _ e) ∙ cond-false _ _ _ (ne_eqb row.served t other) ∙ k
    by false e k = ap (at t) (cond-false _ _ _ e) ∙ k

-- if each list keeps all requests that are served in a cycle, all lists together keep them; if each keeps none, they
-- keep none

all-here : (t : ℕ) (f : List ServedRequest → List ServedRequest) → ((rows : List ServedRequest) → at t (f rows) ≡ at t rows) → (lists : List (List ServedRequest)) → served_at (map f lists) t ≡ served_at lists t
all-here t f h [] = refl
all-here t f h (rows ∷ lists) = ap₂ (λ x y. x ++ y) (h rows) (all-here t f h lists)

all-gone : (t : ℕ) (f : List ServedRequest → List ServedRequest) → ((rows : List ServedRequest) → at t (f rows) ≡ []) → (lists : List (List ServedRequest)) → served_at (map f lists) t ≡ []
all-gone t f h [] = refl
all-gone t f h (rows ∷ lists) = ap₂ (λ x y. x ++ y) (h rows) (all-gone t f h lists)

-- a table is that of its lists up to a cycle, and behind it that of its lists after it
table-parts : (cycle cycles : ℕ) (lists : List (List ServedRequest)) → by_cycle cycles lists ≡ by_cycle cycles (map (rows_up_to cycle) lists) ++ by_cycle cycles (map (rows_after cycle) lists)
unfolding by_cycle
table-parts cycle cycles lists =
    flat-parts (served_at lists) (served_at (map (rows_up_to cycle) lists)) (served_at (map (rows_after cycle) lists)) cycle
    (λ t l. (
      all-here t (rows_up_to cycle) (at-kept (λ (row : ServedRequest). leb row.served cycle) t (λ row e. le-leb _ _ (omega (arith, l, e)))) lists,
      all-gone t (rows_after cycle) (at-dropped (λ (row : ServedRequest). ltb cycle row.served) t (λ row e. le-ltb _ _ (omega (arith, l, e)))) lists,
    ))
    (λ t l. (
      all-gone t (rows_up_to cycle) (at-dropped (λ (row : ServedRequest). leb row.served cycle) t (λ row e. lt-leb _ _ (omega (arith, l, e)))) lists,
      all-here t (rows_after cycle) (at-kept (λ (row : ServedRequest). ltb cycle row.served) t (λ row e. lt-ltb _ _ (omega (arith, l, e)))) lists,
    ))
    0 cycles

pub times-parts : (s : Config) (cycle cycles : ℕ) (lists : List (List ServedRequest))
    → times_by_cycle s cycles lists ≡ times_by_cycle s cycles (map (rows_up_to cycle) lists) ++ times_by_cycle s cycles (map (rows_after cycle) lists)
times-parts s cycle cycles lists = ap (map (times_of s cycles)) (table-parts cycle cycles lists) ∙ map-append (times_of s cycles) _ _

-- each part is in order
pub all-served-filter : (p : ServedRequest → Bool) (until : ℕ) (lists : List (List ServedRequest)) → All (AreServedBetween 0 until) lists → All (AreServedBetween 0 until) (map (filter p) lists)
all-served-filter p until [] h k d l = absurd (omega (arith, l))
all-served-filter p until (rows ∷ lists) h zero d l = served-filter p 0 until rows (h 0 rows (omega arith))
all-served-filter p until (rows ∷ lists) h (suc k) d l = all-served-filter p until lists (λ i e m. h (suc i) e (omega (arith, m))) k d (omega (arith, l))

-- one piece more, and what is left behind it
pub piece-more : {A : Type 0} (pieces new : List (List A)) (piece left rest table : List A) → new ≡ pieces ++ piece ∷ [] → left ≡ piece ++ rest → flat_map (λ piece. piece) pieces ++ left ≡ table
    → flat_map (λ piece. piece) new ++ rest ≡ table
piece-more pieces new piece left rest table pushed taken h =
    ap (λ ls. flat_map (λ piece. piece) ls ++ rest) pushed
    ∙ ap (λ rows. rows ++ rest) (flat_map-append (λ piece. piece) pieces (piece ∷ []) ∙ ap (λ rows. flat_map (λ piece. piece) pieces ++ rows) (append-nil piece))
    ∙ append_assoc (flat_map (λ piece. piece) pieces) piece rest
    ∙ ap (λ rows. flat_map (λ piece. piece) pieces ++ rows) (sym taken)
    ∙ h

-- what is left is the last piece
pub piece-last : {A : Type 0} (pieces new : List (List A)) (left table : List A) → new ≡ pieces ++ left ∷ [] → flat_map (λ piece. piece) pieces ++ left ≡ table → flat_map (λ piece. piece) new ≡ table
piece-last pieces new left table pushed h =
    ap (flat_map (λ piece. piece)) pushed ∙ flat_map-append (λ piece. piece) pieces (left ∷ []) ∙ ap (λ rows. flat_map (λ piece. piece) pieces ++ rows) (append-nil left) ∙ h
