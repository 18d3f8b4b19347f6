-- The command with those below it so far.
use Rattle.std.proofs.Common.{◌≡◌, fold, take}
use Rattle.clap.specs.Words.{app_of}
use Rattle.command_line.specs.CommandLine.{with_below}
use Rattle.command_line.proofs.command_line.with_subcommands.Given as goal

abbrev pub invariant-loop-subcommand : goal.invariant-loop-subcommand
invariant-loop-subcommand l = app_of l.command ≡ fold with_below (app_of l.fn.bare) (take l.subcommand-index l.subcommands)
