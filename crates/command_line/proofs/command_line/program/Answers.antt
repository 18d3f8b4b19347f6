use Rattle.std.proofs.Common.{◌≡◌, ◌∙◌, ap, codes, rules}
use Rattle.clap.specs.Simple.{app_of_fields}
use Rattle.clap.specs.Words.{app_of, new_app}
use Rattle.command_line.specs.CommandLine.{with_subcommand_required, with_version}
use Rattle.command_line.proofs.command_line.program.Goals as goal

pub returns : goal.returns
returns c =
    let bare : app_of c.subcommand_required-bare.result ≡ with_subcommand_required (with_version (new_app (codes "dramsim"))) =
    ap app_of_fields c.subcommand_required-bare.ensures ∙ ap with_subcommand_required (ap app_of_fields c.version.ensures ∙ ap with_version c.bare_command.ensures.app) in
    search (rules, bare)
