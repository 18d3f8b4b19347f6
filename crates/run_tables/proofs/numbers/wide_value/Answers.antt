-- The digits are parsed.
use Rattle.std.proofs.Common.{◌∙◌, subst}
use Rattle.std.specs.Str.Parse.{ParsesUnsigned}
use Rattle.run_tables.proofs.Written.{parsed, digits_utf8}
use Rattle.run_tables.proofs.numbers.wide_value.Goals as goal

pub returns-in-Ok : goal.returns-in-Ok
returns-in-Ok c =
    let text = c.in-Ok.ensures.cases.0 in
    c.ok.ensures.value ∙ parsed c.args.digits.now c.parse.result c.requires (subst (λ t. ParsesUnsigned 128 10 t c.parse.result) text c.parse.ensures.value.0)

pub returns-in-Err : goal.returns-in-Err
returns-in-Err c = absurd (c.in-Err.ensures.cases.0 (digits_utf8 c.args.digits.now c.requires))
