use Rattle.std.proofs.lemmas.Result.{IfOk-weaker}
use Rattle.command_line.proofs.CommandLemmas.{with_one}
use Rattle.command_line.proofs.command_line.with_subcommand.Goals as goal

pub returns : goal.returns
returns c =
    IfOk-weaker c.subcommand.result _ _ (λ longer adds. with_one _ _ longer c.args.subcommand.now c.in_ok-below.ensures adds) c.subcommand.ensures
