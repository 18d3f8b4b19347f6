-- The verdict on a table that is read back.
use Rattle.std.proofs.Common.{◌≡◌, ℕ, ◌≤◌, ◌^◌, List, length, Ok}
use Rattle.std.specs.Prelude.{All}
use Rattle.sim_base.specs.declared.config.Config.{Config}
use Rattle.sim_base.specs.declared.command.IssuedCommand.{IssuedCommand}
use Rattle.sim_base.specs.declared.trace.Entry.{Entry}
use Rattle.sim_base.specs.History.{commands}
use Rattle.sim_base.specs.Machine.{run}
use Rattle.reports.specs.Commands.{header, commands_text}
use Rattle.rule_check.specs.Verdict.{records_of, verdict, KeepsRules}
use Rattle.rule_check.specs.declared.verdict.Verdict.TheVariants.{Legal}
use Rattle.rule_check.proofs.Legals.{table-legal}
use Rattle.run_tables.specs.TableLaws.Written.{RowIsOf}
use Rattle.run_tables.proofs.TableLaws.RowsBack.{records-read}
use Rattle.run_tables.proofs.TableLaws.FieldsBack.{header-read, rows-back}
use Rattle.run_tables.proofs.TableLaws.InRange.{commands_are_in_range}
use Rattle.run_tables.proofs.TableLaws.Unbroken.{tables_keep_every_rule}

-- a table of rows that keep every rule is legal
pub rows-legal : (s : Config) (rows : List IssuedCommand) → All (RowIsOf s) rows → KeepsRules s rows → verdict s (records_of (commands_text s.ranks rows)) ≡ Ok Legal
rows-legal s rows inside keeps =
    table-legal s _ (record {
      header = header s.ranks;
      others = _;
      rows = rows;
      parts = records-read s.ranks rows;
      is_header = header-read s.ranks;
      well_formed = rows-back s rows inside;
      keeps_rules = keeps;
    })

-- so is that of a run
pub runs-legal : (s : Config) (traces : List (List Entry)) (n : ℕ) → n ≤ 2 ^ 62 → All (λ (t : List Entry). length t ≤ 2 ^ 62) traces
    → verdict s (records_of (commands_text s.ranks (commands (run s traces n)))) ≡ Ok Legal
runs-legal s traces n few short = rows-legal s (commands (run s traces n)) (commands_are_in_range s traces n few short) (tables_keep_every_rule s traces n)
