-- The runs so far are those of the tables so far.
use Rattle.std.proofs.Common.{◌≡◌, map, take}
use Rattle.rule_check.specs.Verdict.{records_of}
use Rattle.answers.specs.Answers.{stats_table}
use Rattle.answers.proofs.comparisons.runs_of.Given as goal

abbrev pub invariant-loop-table : goal.invariant-loop-table
invariant-loop-table l = map (λ t. records_of t.bytes.items) (take l.table-index l.tables) ≡ map stats_table l.runs.items
