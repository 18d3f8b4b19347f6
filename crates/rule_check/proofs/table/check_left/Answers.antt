-- The first record is the header, and those after it decide.
use Rattle.std.proofs.Common.{◌≡◌, [], ◌∷◌, ◌∙◌, length, sym, ap, arith}
use Rattle.csv.specs.Records.{fields_of}
use Rattle.rule_check.specs.Left.{left_of}
use Rattle.rule_check.specs.Verdict.{verdict, verdict_after}
use Rattle.rule_check.proofs.Judging.{no_header, wrong_header, after_header, ok_through, err_through}
use Rattle.rule_check.proofs.table.check_left.Goals as goal

pub returns-then-not-found-clause-refused : goal.returns-then-not-found-clause-refused
returns-then-not-found-clause-refused c n =
    let none = rw c.if-not-found.true at ((c.in-Ok.ensures {u = tt}).takes) in
    no_header c.args.config.now (left_of c.args.reader.now) none

pub returns-then-not-is_header-clause-refused : goal.returns-then-not-is_header-clause-refused
returns-then-not-is_header-clause-refused c n =
    let took = rw c.if-not-found.false at ((c.in-Ok.ensures {u = tt}).takes) in
    wrong_header c.args.config.now (left_of c.args.reader.now) (fields_of c.read_next.new.row) (left_of c.read_next.new.reader)
    took.1 (sym c.is_header.ensures ∙ c.if-not-is_header.true)

pub check_rows-requires-clause-few : goal.check_rows-requires-clause-few
check_rows-requires-clause-few c =
    let took = rw c.if-not-found.false at ((c.in-Ok.ensures {u = tt}).takes) in
    let few = c.requires.few in
    let size : length (left_of c.args.reader.now) ≡ length (fields_of c.read_next.new.row ∷ left_of c.read_next.new.reader) =
    ap length took.1 in
    omega (arith, few, size)

pub returns-clause-ok : goal.returns-clause-ok
returns-clause-ok c =
    let took = rw c.if-not-found.false at ((c.in-Ok.ensures {u = tt}).takes) in
    ok_through c.check_rows.result (verdict c.args.config.now (left_of c.args.reader.now)) (verdict_after c.args.config.now [] 1 (left_of c.read_next.new.reader))
    (after_header c.args.config.now (left_of c.args.reader.now) (fields_of c.read_next.new.row) (left_of c.read_next.new.reader)
    took.1 (sym c.is_header.ensures ∙ c.if-not-is_header.false))
    c.check_rows.ensures.ok

pub returns-clause-refused : goal.returns-clause-refused
returns-clause-refused c =
    let took = rw c.if-not-found.false at ((c.in-Ok.ensures {u = tt}).takes) in
    err_through c.check_rows.result (verdict c.args.config.now (left_of c.args.reader.now)) (verdict_after c.args.config.now [] 1 (left_of c.read_next.new.reader))
    (after_header c.args.config.now (left_of c.args.reader.now) (fields_of c.read_next.new.row) (left_of c.read_next.new.reader)
    took.1 (sym c.is_header.ensures ∙ c.if-not-is_header.false))
    c.check_rows.ensures.refused
