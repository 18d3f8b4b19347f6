-- What one row of a table leads to.
--     Decides s past number fields answer      a record decides the verdict, whatever comes after it
--     IsKeptRow past s rows number fields      a record writes a row that keeps every rule, and is kept
--     KeepsRow s old new number fields      the same after all rows that were kept before
use Rattle.std.specs.Prelude.{◌≡◌, ℕ, ◌+◌, List, [], ◌∷◌, ◌++◌, Result}
use Rattle.sim_base.specs.declared.config.Config.{Config}
use Rattle.sim_base.specs.declared.command.IssuedCommand.{IssuedCommand}
use Rattle.sim_base.specs.declared.fault.Fault.{Fault}
use Rattle.rule_check.specs.declared.verdict.Verdict.{Verdict}
use Rattle.rule_check.specs.declared.state.Past.{Past}
use Rattle.rule_check.specs.Past.{IsPast}
use Rattle.rule_check.specs.Verdict.{verdict_after}

-- After each list of rows that a `Past` keeps, a record with this number decides the verdict, whatever comes after it.
abbrev pub Decides : Config → Past → ℕ → List (List ℕ) → Result Verdict Fault → Type 0
Decides s past number fields answer =
    (rows : List IssuedCommand) (others : List (List (List ℕ))) → IsPast past s rows
    → verdict_after s rows number (fields ∷ others) ≡ answer

-- A record with this number, after these rows, writes a row that keeps every rule, and a `Past` keeps it: the verdict
-- is the one on what comes after it.
pub record IsKeptRow (past : Past) (s : Config) (rows : List IssuedCommand) (number : ℕ) (fields : List (List ℕ))
    : Type 0 where
  pub row : IssuedCommand
  pub kept : IsPast past s (rows ++ row ∷ [])
  pub goes_on : (others : List (List (List ℕ)))
      → verdict_after s rows number (fields ∷ others) ≡ verdict_after s (rows ++ row ∷ []) (number + 1) others

-- After each list of rows that a `Past` kept, a record with this number decides nothing, and another `Past` keeps its
-- row too.
abbrev pub KeepsRow : Config → Past → Past → ℕ → List (List ℕ) → Type 0
KeepsRow s old new number fields = (rows : List IssuedCommand) → IsPast old s rows → IsKeptRow new s rows number fields
