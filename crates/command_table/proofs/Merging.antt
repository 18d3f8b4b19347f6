-- A table of several lists goes on with the row of the list that begins earliest.
use Rattle.std.proofs.Common.{◌≡◌, ℕ, zero, suc, ◌<◌, ◌≤◌, Bool, true, false, eqb, List, [], ◌∷◌, ◌++◌, length, get_or, set, drop, slice_get, Some, IfSome, refl, sym, ap, subst, ◌∙◌, arith}
use Rattle.std.specs.Prelude.{All}
use Rattle.std.specs.List.{AllByRecursion as Each}
use Rattle.std.proofs.lemmas.Bool.{eqb-true, eqb-false}
use Rattle.std.proofs.lemmas.List.{get_or_default, append-nil}
use Rattle.std.proofs.lemmas.List.Elements.{filter-append, recursion_from_All, All-set}
use Rattle.sim_base.specs.declared.command.IssuedCommand.{IssuedCommand}
use Rattle.sim_base.proofs.Each.{Each-append}
use Rattle.command_table.specs.Tables.{IsRising, rows_in, all_rows as all, HaveSameCycles, by_cycle, table_of}
use Rattle.command_table.specs.Lefts.{first_cycle, IsNext}
use Rattle.command_table.proofs.Rising.{weaker, Rising, rising-pairs, own-cycle, other-cycle, cons-same, by_cycle-is, by_cycle-rising, by_cycle-same, each-by_cycle}

-- a list that begins no earlier than in a cycle
abbrev pub From : ℕ → List IssuedCommand → Type 0
From cycle rows = IfSome (first_cycle rows) (λ first. cycle ≤ first)

-- a list that begins later than a cycle
abbrev pub After : ℕ → List IssuedCommand → Type 0
After cycle rows = IfSome (first_cycle rows) (λ first. cycle < first)

from-each : (cycle : ℕ) (rows : List IssuedCommand) → Rising rows → From cycle rows → Each (λ (y : IssuedCommand). cycle ≤ y.cycle) rows
from-each cycle [] r h = tt
from-each cycle (x ∷ xs) r h = (h, weaker cycle x.cycle h xs r.0)

from-after : (cycle : ℕ) (rows : List IssuedCommand) → After cycle rows → From cycle rows
from-after cycle [] h = h
from-after cycle (x ∷ xs) h = omega (arith, h)

none-each : (k cycle : ℕ) → k < cycle → (rows : List IssuedCommand) → Each (λ (y : IssuedCommand). cycle ≤ y.cycle) rows → rows_in k rows ≡ []
none-each k cycle l [] h = refl
none-each k cycle l (x ∷ xs) h = other-cycle x xs k (λ e. omega (arith, l, h.0, e)) ∙ none-each k cycle l xs h.1

-- a list that begins later than a cycle has no row in it
after-none : (cycle : ℕ) (rows : List IssuedCommand) → Rising rows → After cycle rows → rows_in cycle rows ≡ []
after-none cycle [] r h = refl
after-none cycle (x ∷ xs) r h = none-each cycle x.cycle h (x ∷ xs) (omega arith, r.0)

-- All lists rise.
abbrev pub RisingAll : List (List IssuedCommand) → Type 0
RisingAll [] = Unit {0}
RisingAll (rows ∷ lists) = Rising rows × RisingAll lists

pub rising-all : (lists : List (List IssuedCommand)) → Each IsRising lists → RisingAll lists
rising-all [] h = tt
rising-all (rows ∷ lists) h = (rising-pairs rows h.0, rising-all lists h.1)

-- Of some lists, the one at this place begins with this row, and none earlier.
record Begins (lists : List (List IssuedCommand)) (place : ℕ) (row : IssuedCommand) (rest : List IssuedCommand) : Type 0 where
  within : place < length lists
  is : get_or lists place [] ≡ row ∷ rest
  before : (k : ℕ) → k < place → After row.cycle (get_or lists k [])
  behind : (k : ℕ) → place < k → k < length lists → From row.cycle (get_or lists k [])

begins-tail : (rows : List IssuedCommand) (lists : List (List IssuedCommand)) (place : ℕ) (row : IssuedCommand) (rest : List IssuedCommand) → Begins (rows ∷ lists) (suc place) row rest → Begins lists place row rest
begins-tail rows lists place row rest b =
    record {
      within = omega (arith, b.within);
      is = b.is;
      before = λ k l. b.before (suc k) (omega (arith, l));
      behind = λ k l m. b.behind (suc k) (omega (arith, l)) (omega (arith, m));
    }

-- the row is no later than any other
all-from : (lists : List (List IssuedCommand)) (cycle : ℕ) → RisingAll lists → ((k : ℕ) → k < length lists → From cycle (get_or lists k [])) → Each (λ (y : IssuedCommand). cycle ≤ y.cycle) (all lists)
all-from [] cycle r h = tt
all-from (rows ∷ lists) cycle r h =
    Each-append (λ (y : IssuedCommand). cycle ≤ y.cycle) rows (all lists) (from-each cycle rows r.0 (h 0 (omega arith))) (all-from lists cycle r.1 (λ k l. h (suc k) (omega (arith, l))))

left-from : (lists : List (List IssuedCommand)) (place : ℕ) (row : IssuedCommand) (rest : List IssuedCommand) → RisingAll lists → Begins lists place row rest
    → Each (λ (y : IssuedCommand). row.cycle ≤ y.cycle) (all (set lists place rest))
left-from [] place row rest r b = absurd (omega (arith, b.within))
left-from (rows ∷ lists) zero row rest r b =
    let begins : Rising (row ∷ rest) = subst Rising b.is r.0 in
    Each-append (λ (y : IssuedCommand). row.cycle ≤ y.cycle) rest (all lists) begins.0 (all-from lists row.cycle r.1 (λ k l. b.behind (suc k) (omega arith) (omega (arith, l))))
left-from (rows ∷ lists) (suc place) row rest r b =
    Each-append (λ (y : IssuedCommand). row.cycle ≤ y.cycle) rows (all (set lists place rest)) (from-each row.cycle rows r.0 (from-after row.cycle rows (b.before 0 (omega arith))))
    (left-from lists place row rest r.1 (begins-tail rows lists place row rest b))

-- In front of what is left, it leaves the rows of each cycle as they are.
left-same : (lists : List (List IssuedCommand)) (place : ℕ) (row : IssuedCommand) (rest : List IssuedCommand) → RisingAll lists → Begins lists place row rest
    → HaveSameCycles (row ∷ all (set lists place rest)) (all lists)
left-same [] place row rest r b k = absurd (omega (arith, b.within))
left-same (rows ∷ lists) zero row rest r b k = ap (λ z. rows_in k (z ++ all lists)) (sym b.is)
left-same (rows ∷ lists) (suc place) row rest r b k =
    by (eqb row.cycle k) refl (left-same lists place row rest r.1 (begins-tail rows lists place row rest b) k)
  where
    left : List IssuedCommand
    left = all (set lists place rest)

    in_cycle : IssuedCommand → Bool
    in_cycle = λ x. eqb x.cycle k

    by : (t : Bool) → eqb row.cycle k ≡ t → rows_in k (row ∷ left) ≡ rows_in k (all lists) → rows_in k (row ∷ rows ++ left) ≡ rows_in k (rows ++ all lists)
    by true e h =
        let same : row.cycle ≡ k = eqb-true _ _ e in
        let none : rows_in k rows ≡ [] = subst (λ n. rows_in n rows ≡ []) same (after-none row.cycle rows r.0 (b.before 0 (omega arith))) in
        own-cycle row (rows ++ left) k same
        ∙ ap (λ z. row ∷ z) (filter-append in_cycle rows left ∙ ap (λ z. z ++ rows_in k left) none)
        ∙ sym (own-cycle row left k same)
        ∙ h
        ∙ sym (filter-append in_cycle rows (all lists) ∙ ap (λ z. z ++ rows_in k (all lists)) none)
    by false e h =
        let other : row.cycle ≡ k → ⊥ = eqb-false _ _ e in
        other-cycle row (rows ++ left) k other
        ∙ filter-append in_cycle rows left
        ∙ ap (λ z. rows_in k rows ++ z) (sym (other-cycle row left k other) ∙ h)
        ∙ sym (filter-append in_cycle rows (all lists))

-- the table begins with this row, and goes on with what is left
first-row : (lists : List (List IssuedCommand)) (place : ℕ) (row : IssuedCommand) (rest : List IssuedCommand) → RisingAll lists → Begins lists place row rest
    → table_of lists ≡ row ∷ table_of (set lists place rest)
first-row lists place row rest r b =
    let left = all (set lists place rest) in
    by_cycle-is (row ∷ by_cycle left) (all lists)
    (each-by_cycle (λ (y : IssuedCommand). row.cycle ≤ y.cycle) left (left-from lists place row rest r b), by_cycle-rising left)
    (λ k. cons-same row (by_cycle left) left (by_cycle-same left) k ∙ left-same lists place row rest r b k)

starts : (cycle : ℕ) (row : IssuedCommand) (rest rows : List IssuedCommand) → rows ≡ row ∷ rest → first_cycle rows ≡ Some cycle → cycle ≡ row.cycle
starts cycle row rest rows e h = let i : Some row.cycle ≡ Some cycle = sym (ap first_cycle e) ∙ h in cc

pub next-row : (lists : List (List IssuedCommand)) (place : ℕ) (row : IssuedCommand) (rest : List IssuedCommand) → All IsRising lists → IsNext lists place → get_or lists place [] ≡ row ∷ rest
    → table_of lists ≡ row ∷ table_of (set lists place rest)
next-row lists place row rest r n e =
    let same : n.cycle ≡ row.cycle = starts n.cycle row rest (get_or lists place []) e n.next.starts in
    first-row lists place row rest (rising-all lists (recursion_from_All IsRising lists r))
    (record {
      within = n.next.within;
      is = e;
      before = λ k l. subst (λ c. After c (get_or lists k [])) same (n.next.before k l);
      behind = λ k l m. subst (λ c. From c (get_or lists k [])) same (n.next.behind k l m);
    })

-- with no lists the table has no rows
pub no-row : (lists : List (List IssuedCommand)) → lists ≡ [] → table_of lists ≡ []
unfolding by_cycle
no-row lists h = ap table_of h

-- with a list that goes on it has some
pub some-row : (lists : List (List IssuedCommand)) (place : ℕ) → All IsRising lists → IsNext lists place → table_of lists ≡ [] → ⊥
some-row lists place r n h = by (get_or lists place []) refl n.next.starts
  where
    by : (rows : List IssuedCommand) → get_or lists place [] ≡ rows → first_cycle rows ≡ Some n.cycle → ⊥
    by [] e s = absurd (cc)
    by (row ∷ rest) e s = let t = next-row lists place row rest r n e in absurd (cc)

empty-rises : IsRising []
empty-rises i j d a b = absurd (omega (arith, b))

-- what is left of a list rises as it did
pub rest-rises : (rows : List IssuedCommand) → IsRising rows → IsRising (drop 1 rows)
rest-rises [] r = empty-rises
rest-rises (row ∷ rows) r = λ i j d a b. r (suc i) (suc j) d (omega (arith, a)) (omega (arith, b))

pub set-rises : (lists : List (List IssuedCommand)) (place : ℕ) (rest : List IssuedCommand) → All IsRising lists → IsRising rest → All IsRising (set lists place rest)
set-rises lists place rest r h = All-set IsRising lists place rest h r

-- the table is the row that is taken and what is left
pub table-next : (row : IssuedCommand) (lists new : List (List IssuedCommand)) (place : ℕ) (old : List IssuedCommand) → All IsRising lists → IsNext lists place
    → old ≡ get_or lists place old → slice_get old 0 ≡ Some row → table_of new ≡ table_of (set lists place (drop 1 (get_or lists place []))) → table_of lists ≡ row ∷ table_of new
table-next row lists new place [] r n o t e = absurd (cc)
table-next row lists new place (first ∷ rest) r n o t e =
    let same : first ≡ row = cc in
    let is : get_or lists place [] ≡ row ∷ rest = get_or_default lists place [] (first ∷ rest) n.next.within ∙ sym o ∙ ap (λ z. z ∷ rest) same in
    next-row lists place row rest r n is ∙ ap (λ z. row ∷ z) (ap (λ z. table_of (set lists place (drop 1 z))) (sym is) ∙ sym e)

-- a list of rows by cycle is a table of its own
pub own-table : (rows : List IssuedCommand) → IsRising rows → table_of (rows ∷ []) ≡ rows
own-table rows r = by_cycle-is rows (rows ++ []) (rising-pairs rows r) (λ k. ap (rows_in k) (sym (append-nil rows)))
