use Rattle.std.proofs.Common.{get_or, ap, ◌∙◌, arith}
use Rattle.cpu_trace.specs.declared.usual.TheConstants.{DIGITS}
use Rattle.cpu_trace.proofs.DigitTable.{DIGITS_at}
use Rattle.cpu_trace.proofs.usual.digit_of.Goals as goal

pub returns-then-digit-radix : goal.returns-then-digit-radix
returns-then-digit-radix c =
    let value = c.from-digit.ensures ∙ ap (λ byte. get_or DIGITS byte 0) c.from.ensures ∙ DIGITS_at c.args.byte (omega (arith, c.ranges.byte.fits)) in
    (rw value at c.if-digit-radix.true, value)
