-- A list of rows by cycle, cut at a cycle: those up to it, and those after it.
use Rattle.std.proofs.Common.{◌≡◌, ℕ, zero, suc, ◌+◌, ◌<◌, ◌≤◌, leb, ltb, List, [], ◌∷◌, ◌++◌, take, drop, Some, slice_get, refl, sym, ap, ap₂, subst, ◌∙◌, add-one, arith}
use Rattle.std.specs.List.{AllByRecursion as Each}
use Rattle.std.proofs.lemmas.Bool.{cond-true, cond-false, le-leb, lt-leb, lt-ltb, le-ltb}
use Rattle.std.proofs.lemmas.List.{append-nil, take-append-drop}
use Rattle.std.proofs.lemmas.List.Elements.{filter-append}
use Rattle.sim_base.specs.declared.command.IssuedCommand.{IssuedCommand}
use Rattle.sim_base.proofs.Each.{Each-get}
use Rattle.command_table.specs.Tables.{IsRising, rows_up_to, rows_after}
use Rattle.command_table.specs.Lefts.{AllUpTo, AllAfter}
use Rattle.command_table.proofs.Rising.{Rising, rising-pairs}

-- where a row is up to a cycle, so are those before it
pub up-to-here : (rows : List IssuedCommand) (count cycle : ℕ) (row : IssuedCommand) → IsRising rows → slice_get rows count ≡ Some row → row.cycle ≤ cycle → AllUpTo cycle (take (count + 1) rows)
up-to-here rows count cycle row r e l = subst (λ n. AllUpTo cycle (take n rows)) (sym (add-one count)) (by rows count (rising-pairs rows r) e)
  where
    by : (rows : List IssuedCommand) (count : ℕ) → Rising rows → slice_get rows count ≡ Some row → AllUpTo cycle (take (suc count) rows)
    by [] count r e = absurd (cc)
    by (first ∷ rows) zero r e = let same : first ≡ row = cc in (subst (λ (z : IssuedCommand). z.cycle ≤ cycle) (sym same) l, tt)
    by (first ∷ rows) (suc count) r e =
        let first-first : first.cycle ≤ row.cycle = Each-get (λ (z : IssuedCommand). first.cycle ≤ z.cycle) rows count row e r.0 in
        (omega (arith, first-first, l), by rows count r.1 e)

-- where a row is after a cycle, so are those behind it
pub after-here : (rows : List IssuedCommand) (count cycle : ℕ) (row : IssuedCommand) → IsRising rows → slice_get rows count ≡ Some row → cycle < row.cycle → AllAfter cycle (drop count rows)
after-here rows count cycle row r e l = by rows count (rising-pairs rows r) e
  where
    later : (first : IssuedCommand) (rows : List IssuedCommand) → cycle < first.cycle → Each (λ (z : IssuedCommand). first.cycle ≤ z.cycle) rows → AllAfter cycle rows
    later first [] l h = tt
    later first (row ∷ rows) l h = (omega (arith, l, h.0), later first rows l h.1)

    by : (rows : List IssuedCommand) (count : ℕ) → Rising rows → slice_get rows count ≡ Some row → AllAfter cycle (drop count rows)
    by [] count r e = absurd (cc)
    by (first ∷ rows) zero r e =
        let same : row ≡ first = cc in
        let first-later : cycle < first.cycle = subst (λ (z : IssuedCommand). cycle < z.cycle) same l in
        (first-later, later first rows first-later r.0)
    by (first ∷ rows) (suc count) r e = by rows count r.1 e

up-to-all : (cycle : ℕ) (rows : List IssuedCommand) → AllUpTo cycle rows → rows_up_to cycle rows ≡ rows
up-to-all cycle [] h = refl
up-to-all cycle (row ∷ rows) h = cond-true _ _ _ (le-leb row.cycle cycle h.0) ∙ ap (λ z. row ∷ z) (up-to-all cycle rows h.1)

up-to-none : (cycle : ℕ) (rows : List IssuedCommand) → AllAfter cycle rows → rows_up_to cycle rows ≡ []
up-to-none cycle [] h = refl
up-to-none cycle (row ∷ rows) h = cond-false _ _ _ (lt-leb row.cycle cycle h.0) ∙ up-to-none cycle rows h.1

after-all : (cycle : ℕ) (rows : List IssuedCommand) → AllAfter cycle rows → rows_after cycle rows ≡ rows
after-all cycle [] h = refl
after-all cycle (row ∷ rows) h = cond-true _ _ _ (lt-ltb cycle row.cycle h.0) ∙ ap (λ z. row ∷ z) (after-all cycle rows h.1)

after-none : (cycle : ℕ) (rows : List IssuedCommand) → AllUpTo cycle rows → rows_after cycle rows ≡ []
after-none cycle [] h = refl
after-none cycle (row ∷ rows) h = cond-false _ _ _ (le-ltb cycle row.cycle h.0) ∙ after-none cycle rows h.1

-- where those before a place are up to a cycle and those from it on after it, the place cuts the list at the cycle
pub front-up-to : (rows : List IssuedCommand) (count cycle : ℕ) → AllUpTo cycle (take count rows) → AllAfter cycle (drop count rows) → take count rows ≡ rows_up_to cycle rows
front-up-to rows count cycle up after =
    sym (ap (rows_up_to cycle) (sym (take-append-drop count rows))
    ∙ filter-append (λ (row : IssuedCommand). leb row.cycle cycle) (take count rows) (drop count rows)
    ∙ ap₂ (λ xs ys. xs ++ ys) (up-to-all cycle (take count rows) up) (up-to-none cycle (drop count rows) after)
    ∙ append-nil (take count rows))

pub rest-after : (rows : List IssuedCommand) (count cycle : ℕ) → AllUpTo cycle (take count rows) → AllAfter cycle (drop count rows) → drop count rows ≡ rows_after cycle rows
rest-after rows count cycle up after =
    sym (ap (rows_after cycle) (sym (take-append-drop count rows))
    ∙ filter-append (λ (row : IssuedCommand). ltb cycle row.cycle) (take count rows) (drop count rows)
    ∙ ap₂ (λ xs ys. xs ++ ys) (after-none cycle (take count rows) up) (after-all cycle (drop count rows) after))
