use Rattle.std.proofs.Common.{ap₂, sym, ◌∙◌}
use Rattle.std.proofs.lemmas.List.Sums.{fold_more}
use Rattle.clap.specs.Words.{with_rule}
use Rattle.command_line.specs.CommandLine.{with_argument}
use Rattle.command_line.proofs.command_line.command_of.Goals as goal

pub loop-argument-preserved : goal.loop-argument-preserved
loop-argument-preserved c =
    c.in_ok-longer.ensures.shape c.arg_of.ensures.own
    ∙ ap₂ with_rule c.loop-argument.invariant c.arg_of.ensures.rule
    ∙ sym (fold_more with_argument _ c.args.subcommand.now.arguments.now c.loop-argument.argument-index _ c.loop-argument-test.true)
