-- The command that is asked for a request is a column command or none, and a rank that is to be refreshed needs none.
use Rattle.std.proofs.Common.{true, false, sym, ap, ◌∙◌}
use Rattle.std.specs.List.{slice_get}
use Rattle.queue.specs.Log.{all_requests}
use Rattle.channel_step.specs.FrFcfs.Choices.{command_of}
use Rattle.channel_step.proofs.FrFcfs.Legal.{asked_class}
use Rattle.channel_step.proofs.FrFcfs.Staying.{refresh-no_column}
use Rattle.channel_step.proofs.fr_fcfs.arrivals.needs_column_command.Goals as goal

pub returns-in-Column : goal.returns-in-Column
returns-in-Column c s history log command is =
    sym (asked_class true history (slice_get (all_requests log) c.in-Column.field-0) command (ap (command_of s history log) (sym c.in-Column.is) ∙ is))

pub returns-in-Row : goal.returns-in-Row
returns-in-Row c s history log command is =
    sym (asked_class false history (slice_get (all_requests log) c.in-Row.field-0) command (ap (command_of s history log) (sym c.in-Row.is) ∙ is))

pub returns-in-Refresh : goal.returns-in-Refresh
returns-in-Refresh c s history log command is = sym (refresh-no_column s history c.in-Refresh.field-0 command (ap (command_of s history log) (sym c.in-Refresh.is) ∙ is))
