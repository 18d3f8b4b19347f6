use Rattle.std.proofs.Common.{arith}
use Rattle.std.proofs.lemmas.Fmt.{decimal_digit, length-decimal-le}
use Rattle.reports.proofs.line.put_digits.Goals as goal

pub returns-then-number-lt10-clause-text : goal.returns-then-number-lt10-clause-text
returns-then-number-lt10-clause-text c = rw (decimal_digit c.args.number c.if-number-lt10.true) c.put_byte.ensures.text

pub write_digits-requires : goal.write_digits-requires
write_digits-requires c =
    let small = c.if-number-lt100.true in
    let digits = length-decimal-le 20 c.from.result (omega arith) (omega (arith, small, c.from.ensures)) (omega (arith, small, c.from.ensures)) in
    (omega (arith, digits, c.requires), omega (arith, c.requires, c.told-line))

pub returns-then-number-lt100-clause-low : goal.returns-then-number-lt100-clause-low
returns-then-number-lt100-clause-low c =
    let small = c.if-number-lt100.true in
    let digits = length-decimal-le 20 c.from.result (omega arith) (omega (arith, small, c.from.ensures)) (omega (arith, small, c.from.ensures)) in
    omega (arith, digits, c.write_digits.ensures.start)

pub write_digits-requires-2 : goal.write_digits-requires-2
write_digits-requires-2 c =
    let digits = length-decimal-le 20 c.args.number (omega arith) (omega (arith, c.ranges.number.fits)) c.ranges.number.fits in
    (omega (arith, digits, c.requires), omega (arith, c.requires, c.told-line))

pub returns-clause-low : goal.returns-clause-low
returns-clause-low c =
    let digits = length-decimal-le 20 c.args.number (omega arith) (omega (arith, c.ranges.number.fits)) c.ranges.number.fits in
    omega (arith, digits, c.write_digits-2.ensures.start)
