-- Which list a table of several lists goes on with.
--     first_cycle rows      the cycle of the first row
--     AllUpTo cycle rows      none of the rows is after a cycle
--     AllAfter cycle rows      each of the rows is after a cycle
--     IsNextOf lists count place cycle      of the first `count` lists, the one at a place begins first, in a cycle
--     IsNext lists place      of all lists, the one at this place begins first
use Rattle.std.specs.Prelude.{◌≡◌, ℕ, ◌<◌, ◌≤◌, List, [], ◌∷◌, length, slice_index_or, Option, Some, None, IfSome}
use Rattle.std.specs.List.{AllByRecursion as Each}
use Rattle.sim_base.specs.declared.command.IssuedCommand.{IssuedCommand}

-- the cycle of the first row, if there is one
abbrev pub first_cycle : List IssuedCommand → Option ℕ
first_cycle [] = None
first_cycle (row ∷ rest) = Some row.cycle

-- none of the rows is after a cycle
abbrev pub AllUpTo : ℕ → List IssuedCommand → Type 0
AllUpTo cycle rows = Each (λ row. row.cycle ≤ cycle) rows

-- each of the rows is after a cycle
abbrev pub AllAfter : ℕ → List IssuedCommand → Type 0
AllAfter cycle rows = Each (λ row. cycle < row.cycle) rows

-- Of the first `count` lists, the one at this place begins in this cycle. Those before it begin later, and those after
-- it no earlier.
pub record IsNextOf (lists : List (List IssuedCommand)) (count place cycle : ℕ) : Type 0 where
  pub within : place < count
  pub starts : first_cycle (slice_index_or lists place []) ≡ Some cycle
  pub before : (k : ℕ) → k < place → IfSome (first_cycle (slice_index_or lists k [])) (λ first. cycle < first)
  pub behind : (k : ℕ) → place < k → k < count
      → IfSome (first_cycle (slice_index_or lists k [])) (λ first. cycle ≤ first)

-- Of all lists, the one at this place begins first. Those before it begin later, and those after it no earlier.
pub record IsNext (lists : List (List IssuedCommand)) (place : ℕ) : Type 0 where
  pub cycle : ℕ
  pub next : IsNextOf lists (length lists) place cycle
