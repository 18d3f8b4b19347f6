use Rattle.std.proofs.Common.{◌∙◌}
use Rattle.refusal.proofs.LineFacts.{line_told}
use Rattle.refusal.proofs.warning.write_line.Goals as goal

pub returns-clause-told : goal.returns-clause-told
returns-clause-told g c =
    line_told c.put.result _ _ _ _ _ (c.as_bytes.ensures ∙ c.line_of.ensures) c.put.ensures.whole c.put.ensures.part c.put.ensures.refused
