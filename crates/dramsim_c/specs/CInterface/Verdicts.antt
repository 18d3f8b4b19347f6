-- The verdict on a table of commands, as a program in C is told.
--     outcome_of verdict, row_of verdict      what a call answers, and the row that it writes
--     IsJudged text table result row      a table was judged under the configuration of a text
--     IsVerdictAnswer verdict old new result      the answer of a call that tells this verdict
--     IsCheckAnswer text table old new result      the answer of a call that judges a table
use Rattle.std.specs.Prelude.{◌≡◌, ℕ, List, Result, Ok, Err}
use Rattle.config_reader.specs.Document.{document_of}
use Rattle.rule_check.specs.Verdict.{records_of, verdict}
use Rattle.rule_check.specs.declared.verdict.Verdict.{Verdict}
use Rattle.rule_check.specs.declared.verdict.Verdict.TheVariants.{Legal, Broken}
use Rattle.sim_base.specs.Values.{values_of}
use Rattle.sim_base.specs.declared.config.Config.{Config}
use Rattle.sim_base.specs.declared.fault.Fault.{Fault}
use Rattle.sim_base.specs.declared.fault.Fault.TheVariants.{CheckRow, Memory}
use Rattle.dramsim_c.specs.declared.c_interface.fault.CallFault.{CallFault}
use Rattle.dramsim_c.specs.declared.c_interface.fault.CallFault.TheVariants.{Configuration, BreaksRule, Malformed}
use Rattle.dramsim_c.specs.declared.c_interface.rows.VerdictRow.{VerdictRow}

-- a table that is legal is not refused
abbrev pub outcome_of : Result Verdict Fault → Result (Unit {0}) CallFault
outcome_of (Ok Legal) = Ok _
outcome_of (Ok (Broken row rule)) = Err BreaksRule
outcome_of (Err fault) = Err Malformed

-- the row and the rule that are at fault, or 0
abbrev pub row_at : Fault → ℕ
row_at (CheckRow row) = row
row_at fault = 0

-- the row that C is handed: that of a broken rule or of a fault, and the rule, or zeros
abbrev pub row_of : Result Verdict Fault → VerdictRow
row_of (Ok Legal) = record { row = 0; rule = 0 }
row_of (Ok (Broken row rule)) = record { row = row; rule = rule }
row_of (Err fault) = record { row = row_at fault; rule = 0 }

-- the answer of a call that tells a verdict: memory may be refused, and the row is as it was then
pub record IsTold (v : Result Verdict Fault) (new : VerdictRow) (result : Result (Unit {0}) CallFault) : Type 0 where
  pub outcome : result ≡ outcome_of v
  pub row_is : new ≡ row_of v

-- what a call answers: the verdict, or that memory was refused, and then the row stays as it was
abbrev pub IsVerdictAnswer : Result Verdict Fault → VerdictRow → VerdictRow → Result (Unit {0}) CallFault → Type 0
IsVerdictAnswer v old new (Err (Configuration fault)) = (fault ≡ Memory) × (new ≡ old)
IsVerdictAnswer v old new result = IsTold v new result

-- a table was judged under the configuration that a text states
pub record IsJudged (text table : List ℕ) (result : Result (Unit {0}) CallFault) (row : VerdictRow) : Type 0 where
  pub config : Config
  pub configured : document_of text ≡ Ok (values_of config)
  pub told : IsTold (verdict config (records_of table)) row result

-- the configuration is refused with this fault, or memory was refused; the row is as it was
abbrev pub IsUnjudged : List ℕ → Fault → Type 0
IsUnjudged text Memory = Unit {0}
IsUnjudged text fault = document_of text ≡ Err fault

-- the answer of a call that judges a table
abbrev pub IsCheckAnswer : List ℕ → List ℕ → VerdictRow → VerdictRow → Result (Unit {0}) CallFault → Type 0
IsCheckAnswer text table old new (Err (Configuration fault)) = IsUnjudged text fault × (new ≡ old)
IsCheckAnswer text table old new result = IsJudged text table result new
