-- The command with the arguments so far.
use Rattle.std.proofs.Common.{◌≡◌, fold, take}
use Rattle.clap.specs.Words.{app_of, new_app}
use Rattle.command_line.specs.CommandLine.{with_argument}
use Rattle.command_line.proofs.command_line.command_of.Given as goal

abbrev pub invariant-loop-argument : goal.invariant-loop-argument
invariant-loop-argument l = app_of l.command ≡ fold with_argument (new_app l.fn.subcommand.name.now) (take l.argument-index l.fn.subcommand.arguments.now)
