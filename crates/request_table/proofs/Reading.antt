-- A table of several lists goes on with the request of the list that begins earliest.
use Rattle.std.proofs.Common.{◌≡◌, ℕ, zero, suc, ◌<◌, ◌≤◌, List, [], ◌∷◌, ◌++◌, length, get_or, map, set, drop, slice_get, Some, IfSome, refl, sym, ap, ap₂, subst, ◌∙◌, arith}
use Rattle.std.specs.Prelude.{All}
use Rattle.std.specs.List.{AllByRecursion as Each}
use Rattle.std.proofs.lemmas.Bool.{cond-true, cond-false, eq-eqb, ne_eqb}
use Rattle.std.proofs.lemmas.List.{get_or_default}
use Rattle.std.proofs.lemmas.List.Elements.{recursion_from_All, All-nil, All-cons, All-set}
use Rattle.sim_base.specs.declared.config.Config.{Config}
use Rattle.request_table.specs.declared.served_requests.ServedRequest.{ServedRequest}
use Rattle.request_table.specs.Lefts.{first_cycle, IsNext}
use Rattle.request_table.specs.Tables.{AreServedBetween, served_at, by_cycle, times_of, times_by_cycle}
use Rattle.request_table.proofs.Cycles.{flat-none, flat-first}
use Rattle.request_table.proofs.Cutting.{at, served-rest}

-- a list that begins no earlier than in a cycle, or later
abbrev From : ℕ → List ServedRequest → Type 0
From cycle rows = IfSome (first_cycle rows) (λ first. cycle ≤ first)

abbrev After : ℕ → List ServedRequest → Type 0
After cycle rows = IfSome (first_cycle rows) (λ first. cycle < first)

none-at : (t from until : ℕ) → t < from → (rows : List ServedRequest) → AreServedBetween from until rows → at t rows ≡ []
none-at t from until l [] h = refl
none-at t from until l (row ∷ rows) h = cond-false _ _ _ (ne_eqb row.served t (λ e. omega (arith, l, h.0, e))) ∙ none-at t row.served until (omega (arith, l, h.0)) rows h.2

-- a list that begins after a cycle has none in it
none-before : (t cycle until : ℕ) → t < cycle → (rows : List ServedRequest) → AreServedBetween 0 until rows → From cycle rows → at t rows ≡ []
none-before t cycle until l [] h f = refl
none-before t cycle until l (row ∷ rows) h f = none-at t cycle until l (row ∷ rows) (f, h.1, h.2)

after-from : (cycle : ℕ) (rows : List ServedRequest) → After cycle rows → From (suc cycle) rows
after-from cycle [] h = tt
after-from cycle (row ∷ rows) h = omega (arith, h)

-- Of some lists, the one at this place begins with this request, and none earlier.
record Begins (lists : List (List ServedRequest)) (place : ℕ) (row : ServedRequest) (rest : List ServedRequest) : Type 0 where
  within : place < length lists
  is : get_or lists place [] ≡ row ∷ rest
  before : (k : ℕ) → k < place → After row.served (get_or lists k [])
  behind : (k : ℕ) → place < k → k < length lists → From row.served (get_or lists k [])

begins-tail : (rows : List ServedRequest) (lists : List (List ServedRequest)) (place : ℕ) (row : ServedRequest) (rest : List ServedRequest) → Begins (rows ∷ lists) (suc place) row rest → Begins lists place row rest
begins-tail rows lists place row rest b =
    record {
      within = omega (arith, b.within);
      is = b.is;
      before = λ k l. b.before (suc k) (omega (arith, l));
      behind = λ k l m. b.behind (suc k) (omega (arith, l)) (omega (arith, m));
    }

-- no list has one before the cycle of the first
all-none : (t cycle until : ℕ) → t < cycle → (lists : List (List ServedRequest)) → Each (AreServedBetween 0 until) lists → ((k : ℕ) → k < length lists → From cycle (get_or lists k [])) → served_at lists t ≡ []
all-none t cycle until l [] h f = refl
all-none t cycle until l (rows ∷ lists) h f =
    ap₂ (λ x y. x ++ y) (none-before t cycle until l rows h.0 (f 0 (omega arith))) (all-none t cycle until l lists h.1 (λ k m. f (suc k) (omega (arith, m))))

earlier : (t until : ℕ) (lists : List (List ServedRequest)) (place : ℕ) (row : ServedRequest) (rest : List ServedRequest) → t < row.served → Each (AreServedBetween 0 until) lists → Begins lists place row rest → served_at lists t ≡ []
earlier t until [] place row rest l h b = refl
earlier t until (rows ∷ lists) zero row rest l h b =
    let own : From row.served rows = subst (From row.served) (sym b.is) (omega arith) in
    ap₂ (λ x y. x ++ y) (none-before t row.served until l rows h.0 own) (all-none t row.served until l lists h.1 (λ k m. b.behind (suc k) (omega arith) (omega (arith, m))))
earlier t until (rows ∷ lists) (suc place) row rest l h b =
    ap₂ (λ x y. x ++ y) (none-before t (suc row.served) until (omega (arith, l)) rows h.0 (after-from row.served rows (b.before 0 (omega arith))))
    (earlier t until lists place row rest l h.1 (begins-tail rows lists place row rest b))

-- in other cycles nothing changes where it is taken
other : (t : ℕ) (lists : List (List ServedRequest)) (place : ℕ) (row : ServedRequest) (rest : List ServedRequest) → (row.served ≡ t → ⊥) → place < length lists → get_or lists place [] ≡ row ∷ rest
    → served_at lists t ≡ served_at (set lists place rest) t
other t [] place row rest n l e = refl
other t (rows ∷ lists) zero row rest n l e = ap (λ x. x ++ served_at lists t) (ap (at t) e ∙ cond-false _ _ _ (ne_eqb row.served t n))
other t (rows ∷ lists) (suc place) row rest n l e = ap (λ x. at t rows ++ x) (other t lists place row rest n (omega (arith, l)) e)

-- in its own it is the first
own : (until : ℕ) (lists : List (List ServedRequest)) (place : ℕ) (row : ServedRequest) (rest : List ServedRequest) → Each (AreServedBetween 0 until) lists → Begins lists place row rest
    → served_at lists row.served ≡ row ∷ served_at (set lists place rest) row.served
own until [] place row rest h b = absurd (omega (arith, b.within))
own until (rows ∷ lists) zero row rest h b = ap (λ x. x ++ served_at lists row.served) (ap (at row.served) b.is ∙ cond-true _ _ _ (eq-eqb row.served row.served refl))
own until (rows ∷ lists) (suc place) row rest h b =
    let none : at row.served rows ≡ [] = none-before row.served (suc row.served) until (omega arith) rows h.0 (after-from row.served rows (b.before 0 (omega arith))) in
    ap₂ (λ x y. x ++ y) none (own until lists place row rest h.1 (begins-tail rows lists place row rest b))
    ∙ ap (λ x. row ∷ (x ++ served_at (set lists place rest) row.served)) (sym none)

-- the table begins with it, and goes on with what is left
first-row : (cycles : ℕ) (lists : List (List ServedRequest)) (place : ℕ) (row : ServedRequest) (rest : List ServedRequest) → All (AreServedBetween 0 cycles) lists → Begins lists place row rest
    → by_cycle cycles lists ≡ row ∷ by_cycle cycles (set lists place rest)
unfolding by_cycle
first-row cycles lists place row rest h b =
    let each : Each (AreServedBetween 0 cycles) lists = recursion_from_All (AreServedBetween 0 cycles) lists h in
    let own-list : AreServedBetween 0 cycles (row ∷ rest) = subst (AreServedBetween 0 cycles) b.is (h place [] b.within) in
    let change = λ (t : ℕ) (n : row.served ≡ t → ⊥). other t lists place row rest n b.within b.is in
    let begins_later = λ (t : ℕ) (l : t < row.served). earlier t cycles lists place row rest l each b in
    let within : row.served < cycles = own-list.1 in
    flat-first (served_at lists) (served_at (set lists place rest)) row row.served
    (λ t l. (begins_later t l, sym (change t (λ e. omega (arith, l, e))) ∙ begins_later t l)) (own cycles lists place row rest each b) (λ t l. change t (λ e. omega (arith, l, e)))
    0 cycles (omega arith) (omega (arith, within))

-- one list alone is its own table
pub own-table : (cycles : ℕ) (rows : List ServedRequest) → AreServedBetween 0 cycles rows → by_cycle cycles (rows ∷ []) ≡ rows
unfolding by_cycle
own-table cycles [] h = flat-none (served_at ([] ∷ [])) 0 cycles (λ t l. refl)
own-table cycles (row ∷ rows) h =
    let alone : All (AreServedBetween 0 cycles) ((row ∷ rows) ∷ []) = All-cons (AreServedBetween 0 cycles) (row ∷ rows) [] h (All-nil (AreServedBetween 0 cycles)) in
    let first : Begins ((row ∷ rows) ∷ []) 0 row rows = record {
      within = omega arith;
      is = refl;
      before = λ k l. absurd (omega (arith, l));
      behind = λ k l m. absurd (omega (arith, l, m));
    } in
    first-row cycles ((row ∷ rows) ∷ []) 0 row rows alone first ∙ ap (λ z. row ∷ z) (own-table cycles rows (served-rest 0 cycles (row ∷ rows) h))

starts : (cycle : ℕ) (row : ServedRequest) (rest rows : List ServedRequest) → rows ≡ row ∷ rest → first_cycle rows ≡ Some cycle → cycle ≡ row.served
starts cycle row rest rows e h = let i : Some row.served ≡ Some cycle = sym (ap first_cycle e) ∙ h in cc

begins : (lists : List (List ServedRequest)) (place : ℕ) (row : ServedRequest) (rest : List ServedRequest) → IsNext lists place → get_or lists place [] ≡ row ∷ rest → Begins lists place row rest
begins lists place row rest n e =
    let same : n.cycle ≡ row.served = starts n.cycle row rest (get_or lists place []) e n.next.starts in
    record {
      within = n.next.within;
      is = e;
      before = λ k l. subst (λ c. After c (get_or lists k [])) same (n.next.before k l);
      behind = λ k l m. subst (λ c. From c (get_or lists k [])) same (n.next.behind k l m);
    }

-- the table is the request that is taken, and what is left
pub times-next : (s : Config) (cycles : ℕ) (lists : List (List ServedRequest)) (place : ℕ) (old : List ServedRequest) (row : ServedRequest) → All (AreServedBetween 0 cycles) lists → IsNext lists place
    → old ≡ get_or lists place old → Some row ≡ slice_get old 0 → times_by_cycle s cycles lists ≡ times_of s cycles row ∷ times_by_cycle s cycles (set lists place (drop 1 old))
times-next s cycles lists place [] row h n o t = absurd (cc)
times-next s cycles lists place (first ∷ rest) row h n o t =
    let same : first ≡ row = cc in
    let is : get_or lists place [] ≡ row ∷ rest = get_or_default lists place [] (first ∷ rest) n.next.within ∙ sym o ∙ ap (λ z. z ∷ rest) same in
    ap (map (times_of s cycles)) (first-row cycles lists place row rest h (begins lists place row rest n is))

-- with nothing left in any list the table has no row
all-empty : (t : ℕ) (lists : List (List ServedRequest)) → Each (λ (rows : List ServedRequest). rows ≡ []) lists → served_at lists t ≡ []
all-empty t [] h = refl
all-empty t (rows ∷ lists) h = ap₂ (λ x y. x ++ y) (ap (at t) h.0) (all-empty t lists h.1)

pub no-row : (s : Config) (cycles : ℕ) (lists : List (List ServedRequest)) → All (λ (rows : List ServedRequest). rows ≡ []) lists → times_by_cycle s cycles lists ≡ []
unfolding by_cycle
no-row s cycles lists h =
    ap (map (times_of s cycles)) (flat-none (served_at lists) 0 cycles (λ t l. all-empty t lists (recursion_from_All (λ (rows : List ServedRequest). rows ≡ []) lists h)))

-- what is left is in order
pub all-served-rest : (cycles : ℕ) (lists : List (List ServedRequest)) (place : ℕ) (old : List ServedRequest) → All (AreServedBetween 0 cycles) lists → place < length lists → old ≡ get_or lists place old
    → All (AreServedBetween 0 cycles) (set lists place (drop 1 old))
all-served-rest cycles lists place old h l o = All-set (AreServedBetween 0 cycles) lists place (drop 1 old) (served-rest 0 cycles old (subst (AreServedBetween 0 cycles) (sym o) (h place old l))) h
