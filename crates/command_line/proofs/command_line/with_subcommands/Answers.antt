use Rattle.command_line.specs.CommandLine.{with_below}
use Rattle.command_line.proofs.CommandLemmas.{one_more}
use Rattle.command_line.proofs.command_line.with_subcommands.Goals as goal

pub loop-subcommand-preserved : goal.loop-subcommand-preserved
loop-subcommand-preserved c =
    one_more with_below _ _ _ _ _ _ c.loop-subcommand.invariant c.loop-subcommand-test.true c.in_ok-longer.ensures
