use Rattle.std.proofs.Common.{ap, ◌∙◌}
use Rattle.std.specs.Option.{is_some}
use Rattle.channel_step.proofs.fr_fcfs.needs.is_open.Goals as goal

pub returns : goal.returns
returns c history knows = c.is_some.ensures ∙ ap is_some (c.open_row.ensures knows.log history knows.stands)
