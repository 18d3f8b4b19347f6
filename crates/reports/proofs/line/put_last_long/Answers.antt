use Rattle.std.proofs.Common.{decimal, arith}
use Rattle.std.proofs.lemmas.Fmt.{length-decimal-le}
use Rattle.reports.proofs.LineLemmas.{last_field}
use Rattle.reports.proofs.line.put_last_long.Goals as goal

pub write_digits-requires : goal.write_digits-requires
write_digits-requires c =
    let digits = length-decimal-le 20 c.args.number (omega arith) (omega (arith, c.ranges.number.fits)) c.ranges.number.fits in
    (omega (arith, digits), omega (arith, c.told-line))

pub returns-then-number-ge10000-clause-text : goal.returns-then-number-ge10000-clause-text
returns-then-number-ge10000-clause-text c = last_field _ (decimal c.args.number) c.args.line.now c.told-line c.write_digits.ensures.written

pub returns-then-number-ge10000-clause-low : goal.returns-then-number-ge10000-clause-low
returns-then-number-ge10000-clause-low c =
    let digits = length-decimal-le 20 c.args.number (omega arith) (omega (arith, c.ranges.number.fits)) c.ranges.number.fits in
    omega (arith, digits, c.write_digits.ensures.start)

pub returns-clause-text : goal.returns-clause-text
returns-clause-text c = last_field _ (decimal c.args.number) c.args.line.now c.told-line c.put_digits.ensures.text
