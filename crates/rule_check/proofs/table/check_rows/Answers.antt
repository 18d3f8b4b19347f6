-- The next record decides, or is kept.
use Rattle.std.proofs.Common.{◌≡◌, ◌++◌, ◌∷◌, [], ◌∙◌, length, refl, ap, arith}
use Rattle.csv.specs.Records.{fields_of}
use Rattle.rule_check.specs.Left.{left_of}
use Rattle.rule_check.specs.Verdict.{verdict_after}
use Rattle.rule_check.proofs.Judging.{answers_ok, answers_err, at_end_of}
use Rattle.rule_check.proofs.table.check_rows.Goals as goal

pub loop-number-init : goal.loop-number-init
loop-number-init c =
    let few = c.requires.few in
    (c.requires.reading, [], c.in_ok-past.ensures {u = tt}, omega (arith, few), refl)

pub read_next-requires : goal.read_next-requires
read_next-requires c = c.loop-number.invariant.0

pub returns-then-not-found-clause-ok : goal.returns-then-not-found-clause-ok
returns-then-not-found-clause-ok c =
    let inv = c.loop-number.invariant in
    let none = rw c.if-not-found.true at ((c.in-Ok.ensures {u = tt}).takes) in
    inv.4
    ∙ ap (verdict_after c.args.config.now inv.1 c.loop-number.number) none
    ∙ at_end_of c.args.config.now inv.1 c.loop-number.number

pub judge-requires-clause-stands : goal.judge-requires-clause-stands
judge-requires-clause-stands c = (c.loop-number.invariant.1, c.loop-number.invariant.2)

pub returns-in-Some-clause-ok : goal.returns-in-Some-clause-ok
returns-in-Some-clause-ok c =
    let inv = c.loop-number.invariant in
    let took = rw c.if-not-found.false at ((c.in-Ok.ensures {u = tt}).takes) in
    let decided = (c.in-Some.ensures {u = tt}).decided inv.1 (left_of c.read_next.new.reader) inv.2 in
    answers_ok c.in-Some.answer (verdict_after c.args.config.now [] 1 (left_of c.args.reader.now))
    (inv.4 ∙ ap (verdict_after c.args.config.now inv.1 c.loop-number.number) took.1 ∙ decided)

pub returns-in-Some-clause-refused : goal.returns-in-Some-clause-refused
returns-in-Some-clause-refused c =
    let inv = c.loop-number.invariant in
    let took = rw c.if-not-found.false at ((c.in-Ok.ensures {u = tt}).takes) in
    let decided = (c.in-Some.ensures {u = tt}).decided inv.1 (left_of c.read_next.new.reader) inv.2 in
    answers_err c.in-Some.answer (verdict_after c.args.config.now [] 1 (left_of c.args.reader.now))
    (inv.4 ∙ ap (verdict_after c.args.config.now inv.1 c.loop-number.number) took.1 ∙ decided)

pub loop-number-preserved : goal.loop-number-preserved
loop-number-preserved c =
    let inv = c.loop-number.invariant in
    let took = rw c.if-not-found.false at ((c.in-Ok.ensures {u = tt}).takes) in
    let kept = (c.in_default-judge.ensures {u = tt}).kept refl inv.1 inv.2 in
    let few = inv.3 in
    let size : length (left_of c.loop-number.reader) ≡ length (fields_of c.read_next.new.row ∷ left_of c.read_next.new.reader) = ap length took.1 in (
      took.0,
      inv.1 ++ kept.row ∷ [],
      kept.kept,
      omega (arith, few, size),
      inv.4 ∙ ap (verdict_after c.args.config.now inv.1 c.loop-number.number) took.1 ∙ kept.goes_on (left_of c.read_next.new.reader),
    )

pub unreachable-requires : goal.unreachable-requires
unreachable-requires c =
    let few = c.loop-number.invariant.3 in
    let last = c.loop-number-test.false in
    omega (arith, few, last)
