use Rattle.std.proofs.Common.{◌/◌, arith}
use Rattle.std.proofs.lemmas.Fmt.{length-decimal-le}
use Rattle.reports.proofs.hundreds.Hundred.of.Goals as goal

pub write_digits-start-requires : goal.write_digits-start-requires
write_digits-start-requires c =
    (length-decimal-le 16 (c.args.cycle / 100) (omega arith) (omega (arith, c.requires.high)) (omega (arith, c.requires.high)), omega arith)
