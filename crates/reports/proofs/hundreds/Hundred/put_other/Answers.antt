use Rattle.std.proofs.Common.{arith}
use Rattle.std.proofs.lemmas.Fmt.{length-decimal-le}
use Rattle.reports.proofs.hundreds.Hundred.put_other.Goals as goal

pub write_digits-requires : goal.write_digits-requires
write_digits-requires c =
    let digits = length-decimal-le 20 c.args.cycle (omega arith) (omega (arith, c.ranges.cycle.fits)) c.ranges.cycle.fits in
    (omega (arith, digits, c.requires), omega (arith, c.requires, c.told-line))

pub returns-then-cycle-lt100-clause-low : goal.returns-then-cycle-lt100-clause-low
returns-then-cycle-lt100-clause-low c =
    let digits = length-decimal-le 20 c.args.cycle (omega arith) (omega (arith, c.ranges.cycle.fits)) c.ranges.cycle.fits in
    omega (arith, digits, c.write_digits.ensures.start)
