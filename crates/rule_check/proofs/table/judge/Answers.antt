-- A malformed record and a broken rule decide; else the row is kept.
use Rattle.std.proofs.Common.{sym}
use Rattle.csv.specs.Records.{fields_of}
use Rattle.rule_check.proofs.Judging.{malformed, broken_by, goes_on_after}
use Rattle.rule_check.proofs.table.judge.Goals as goal

pub returns-in_default-clause-decided : goal.returns-in_default-clause-decided
returns-in_default-clause-decided c rows others past =
    malformed c.args.config.now rows c.args.number (fields_of c.args.fields.now) others (sym (rw c.of.ensures at c.in_default.ensures.value))

pub returns-in-Some-lowest_broken-clause-decided : goal.returns-in-Some-lowest_broken-clause-decided
returns-in-Some-lowest_broken-clause-decided c rows others past =
    broken_by c.args.config.now rows c.args.number (fields_of c.args.fields.now) others c.in-Some.row c.in-Some-lowest_broken.rule
    (sym (rw c.of.ensures at c.in-Some.ensures.value)) (sym (c.in-Some-lowest_broken.ensures rows past))

pub returns-clause-kept : goal.returns-clause-kept
returns-clause-kept c none rows past =
    record {
      row = c.in-Some.row;
      kept = c.note.ensures rows past;
      goes_on = λ others. goes_on_after c.args.config.now rows c.args.number (fields_of c.args.fields.now) others c.in-Some.row
          (sym (rw c.of.ensures at c.in-Some.ensures.value)) (sym (c.in_default-lowest_broken.ensures rows past));
    }
