use Rattle.std.proofs.Common.{◌∙◌}
use Rattle.std.proofs.lemmas.Result.{on_ok_weaker}
use Rattle.refusal.proofs.LineFacts.{explained_none, explained_whole, explained_by}
use Rattle.refusal.proofs.lines.write_lines.Goals as goal

pub returns-in_err-put-clause-told : goal.returns-in_err-put-clause-told
returns-in_err-put-clause-told g c = explained_none _ _ _ _ _ (c.as_bytes.ensures ∙ c.lines_of.ensures) c.in_err-put.ensures.part c.in_err-put.ensures.refused

pub returns-clause-whole : goal.returns-clause-whole
returns-clause-whole g c =
    on_ok_weaker c.put-2.result (explained_whole _ _ _ _ _ _ (c.as_bytes.ensures ∙ c.lines_of.ensures) c.in_ok-put.ensures.whole) c.put-2.ensures.whole

pub returns-clause-told : goal.returns-clause-told
returns-clause-told g c =
    explained_by c.put-2.result _ _ _ _ _ _ _ (c.as_bytes.ensures ∙ c.lines_of.ensures) c.in_ok-put.ensures.whole c.put-2.ensures.whole c.put-2.ensures.part c.put-2.ensures.refused
