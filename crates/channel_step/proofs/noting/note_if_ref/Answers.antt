use Rattle.std.proofs.Common.{◌∙◌}
use Rattle.channel_step.proofs.noting.note_if_ref.Goals as goal

pub returns-in-Ref : goal.returns-in-Ref
returns-in-Ref c s history i e h = c.note_ref.ensures.stands s history i (e ∙ c.in-Ref.is) h
