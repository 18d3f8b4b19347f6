-- The commands that were noted rise, as the table of each run does.
use Rattle.std.proofs.Common.{◌∙◌}
use Rattle.one_clock.proofs.Rising.{table_rises}
use Rattle.one_clock.proofs.machine.tables_asked.Goals as goal

pub table_if_asked-requires : goal.table_if_asked-requires
table_if_asked-requires c = table_rises c.args.cycle.now.config.now c.args.cycle.now.traces.now c.args.cycle.now.number c.deref.result.now (c.deref.ensures.value ∙ c.requires.machine.commands_are)
