use Rattle.std.proofs.Common.{decimal, ap, ◌∙◌}
use Rattle.reports.proofs.LineLemmas.{nothing_behind, last_field}
use Rattle.reports.proofs.line.put_last_wide.Goals as goal

pub returns-in_default-clause-text : goal.returns-in_default-clause-text
returns-in_default-clause-text c = rw c.in_default.is (nothing_behind c.args.line.now c.told-line)

pub returns-in-Ok-clause-text : goal.returns-in-Ok-clause-text
returns-in-Ok-clause-text c =
    rw c.in-Some.is (last_field _ (decimal c.in-Ok.number) c.args.line.now c.told-line c.put_digits.ensures.text ∙ ap decimal (c.in-Ok.ensures {u = tt}).1)

pub returns-in-Err-clause-text : goal.returns-in-Err-clause-text
returns-in-Err-clause-text c =
    rw c.in-Some.is (last_field _ c.as_bytes.result.now c.args.line.now c.told-line c.put_bytes.ensures.text ∙ c.as_bytes.ensures.value ∙ c.format.ensures.text)
