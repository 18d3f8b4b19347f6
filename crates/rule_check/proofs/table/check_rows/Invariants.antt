-- The rows so far are well-formed and keep every rule, and the verdict on those that are left is that on the whole.
use Rattle.std.proofs.Common.{◌≡◌, ◌≤◌, ◌+◌, [], List, length}
use Rattle.sim_base.specs.declared.command.IssuedCommand.{IssuedCommand}
use Rattle.rule_check.specs.Left.{IsReading, left_of}
use Rattle.rule_check.specs.Past.{IsPast}
use Rattle.rule_check.specs.Verdict.{verdict_after}
use Rattle.rule_check.proofs.table.check_rows.Given as goal

abbrev pub invariant-loop-number : goal.invariant-loop-number
invariant-loop-number l =
    IsReading l.reader
    × (rows : List IssuedCommand) × IsPast l.past l.config rows
    × (l.number + length (left_of l.reader) + 1 ≤ l.fn.most_reads)
    × (verdict_after l.config [] 1 (left_of l.fn.reader) ≡ verdict_after l.config rows l.number (left_of l.reader))
