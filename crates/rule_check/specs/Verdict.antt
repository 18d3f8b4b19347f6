-- The verdict on a table of commands.
--     records_of table      the records of its text
--     verdict s records      the verdict on a table with these records
--     IsCheckFault fault      why a table may be refused
--     IsLegalTable s table      it has the header, no malformed record, and each row keeps every rule
use Rattle.std.specs.Prelude.{◌≡◌, ℕ, ◌+◌, ◌<◌, ◌≤◌, false, IsTrue, length, take, map, slice_index_or, List, [], ◌∷◌, ◌++◌, ⊤, Option, Some, None, Result, Ok, Err, if◌then◌else◌}
use Rattle.csv.specs.Reading.{default_config, records, strip_bom}
use Rattle.sim_base.specs.declared.config.Config.{Config}
use Rattle.sim_base.specs.declared.command.IssuedCommand.{IssuedCommand}
use Rattle.sim_base.specs.declared.fault.Fault.{Fault}
use Rattle.sim_base.specs.declared.fault.Fault.TheVariants.{CheckRow, Memory}
use Rattle.rule_check.specs.Fields.{limits_of, is_header, row_in}
use Rattle.rule_check.specs.Broken.{breaks, lowest_broken}
use Rattle.rule_check.specs.declared.verdict.Verdict.{Verdict}
use Rattle.rule_check.specs.declared.verdict.Verdict.TheVariants.{Legal, Broken}

-- The records of a table's text, as `csv` reads them: CR, LF or both end a row, blank lines are skipped, fields may be
-- quoted.
abbrev pub records_of : List ℕ → List (List (List ℕ))
records_of table = records default_config (strip_bom table)

-- a row that breaks a rule decides; otherwise what comes after it does
abbrev pub decided_by_rule : ℕ → Option ℕ → Result Verdict Fault → Result Verdict Fault
decided_by_rule number (Some rule) rest = Ok (Broken number rule)
decided_by_rule number None rest = rest

-- so does a malformed record, before any rule is looked at
abbrev pub decided_by_row : ℕ → (IssuedCommand → Option ℕ) → (IssuedCommand → Result Verdict Fault)
    → Option IssuedCommand → Result Verdict Fault
decided_by_row number broken rest None = Err (CheckRow number)
decided_by_row number broken rest (Some row) = decided_by_rule number (broken row) (rest row)

-- The verdict on the records from a number on, after rows that are well-formed and keep every rule: the first record
-- that is malformed, or breaks a rule, decides.
unfoldable pub verdict_after : Config → List IssuedCommand → ℕ → List (List (List ℕ)) → Result Verdict Fault
verdict_after s rows number [] = Ok Legal
verdict_after s rows number (fields ∷ others) =
    decided_by_row number (lowest_broken s rows) (λ row. verdict_after s (rows ++ row ∷ []) (number + 1) others)
    (row_in (limits_of s) fields)

-- The verdict on a table with these records. The first is the header, and those after it are counted from 1.
unfoldable pub verdict : Config → List (List (List ℕ)) → Result Verdict Fault
verdict s [] = Err (CheckRow 0)
verdict s (header ∷ others) = if is_header s.ranks header then verdict_after s [] 1 others else Err (CheckRow 0)

-- a row is malformed, or memory was refused
abbrev pub IsCheckFault : Fault → Type 0
IsCheckFault (CheckRow row) = ⊤
IsCheckFault Memory = ⊤
IsCheckFault _ = ⊥

-- each row of a table keeps every rule over the rows before it
abbrev pub KeepsRules : Config → List IssuedCommand → Type 0
KeepsRules s rows =
    (i number : ℕ) (d : IssuedCommand) → i < length rows → 1 ≤ number → number ≤ 21
    → breaks s (take i rows) (slice_index_or rows i d) number ≡ false

-- the records of a table without fault: the header, and then records that write rows which keep every rule
pub record IsLegalTable (s : Config) (table : List (List (List ℕ))) : Type 0 where
  pub header : List (List ℕ)
  pub others : List (List (List ℕ))
  pub rows : List IssuedCommand
  pub parts : table ≡ header ∷ others
  pub is_header : IsTrue (is_header s.ranks header)
  pub well_formed : map (row_in (limits_of s)) others ≡ map Some rows
  pub keeps_rules : KeepsRules s rows
