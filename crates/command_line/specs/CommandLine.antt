-- The command line, as `clap` sees it.
--     positional_rule id, positionals_rule id      one argument that has no name on the command line
--     required_text_rule id, required_number_rule id, optional_text_rule id, optional_number_rule id, flag_rule id      one that has
--     rule_in argument, with_argument app argument      an argument, by its kind, and a command with it
--     app_in command, with_below app command      a command of the program, and one with it below
--     run_app, check_app, map_app, show_app, page_app, compare_app      one command
--     program_app      the whole
use Rattle.std.specs.Prelude.{true, codes, Some, List, [], ◌∷◌, fold}
use Rattle.clap.specs.Words.{App, Rule, Text, new_app, new_rule, with_rule, with_subcommand}
use Rattle.clap.specs.declared.builder.action.ArgAction.TheVariants.{Append, SetTrue}
use Rattle.command_line.specs.declared.command_line.Argument.{Argument}
use Rattle.command_line.specs.declared.command_line.Subcommand.{Subcommand}
use Rattle.command_line.specs.declared.command_line.ArgumentKind.{ArgumentKind}
use Rattle.command_line.specs.declared.command_line.ArgumentKind.TheVariants as kind
use Rattle.clap.specs.declared.builder.value_parser.ValueParser.TheVariants.{Unsigned}

-- a word that has to be given
abbrev pub positional_rule : Text → Rule
positional_rule id = record (new_rule id) { required = true; value_names = 1 }

-- one word or more
abbrev pub positionals_rule : Text → Rule
positionals_rule id = record (positional_rule id) { action = Some Append }

-- an option that takes a word
abbrev pub required_text_rule : Text → Rule
required_text_rule id = record (positional_rule id) { long = Some id }

-- an option that takes a number of 64 bits
abbrev pub required_number_rule : Text → Rule
required_number_rule id = record (required_text_rule id) { parser = Some (Unsigned 0 18446744073709551615) }

-- an option that takes a word and may be left out
abbrev pub optional_text_rule : Text → Rule
optional_text_rule id = record (new_rule id) { long = Some id; value_names = 1 }

-- an option that takes a number of 64 bits and may be left out
abbrev pub optional_number_rule : Text → Rule
optional_number_rule id = record (optional_text_rule id) { parser = Some (Unsigned 0 18446744073709551615) }

-- an option that takes nothing
abbrev pub flag_rule : Text → Rule
flag_rule id = record (new_rule id) { long = Some id; action = Some SetTrue }

-- an argument of this kind
abbrev pub rule_as : ArgumentKind → Text → Rule
rule_as kind.Positional id = positional_rule id
rule_as kind.Positionals id = positionals_rule id
rule_as kind.RequiredText id = required_text_rule id
rule_as kind.RequiredNumber id = required_number_rule id
rule_as kind.OptionalText id = optional_text_rule id
rule_as kind.OptionalNumber id = optional_number_rule id
rule_as kind.Flag id = flag_rule id

-- an argument of a command
abbrev pub rule_in : Argument → Rule
rule_in argument = rule_as argument.kind argument.id.now

-- a command with one argument more
abbrev pub with_argument : App → Argument → App
with_argument app argument = with_rule app (rule_in argument)

-- a command of the program with its arguments
abbrev pub app_in : Subcommand → App
app_in command = fold with_argument (new_app command.name.now) command.arguments.now

-- a command with one more below it
abbrev pub with_below : App → Subcommand → App
with_below app command = with_subcommand app (app_in command).top

-- CONFIG
abbrev pub config_rule : Rule
config_rule = positional_rule (codes "config")

-- a command of these arguments
abbrev pub command_app : Text → List Rule → App
command_app name rules = fold with_rule (new_app name) rules

-- `run CONFIG --cycles N --workers N [--share WHEN] [--tables LIST] --out DIR TRACE...`
abbrev pub run_app : App
run_app = command_app (codes "run") (
    config_rule ∷ required_number_rule (codes "cycles") ∷ required_number_rule (codes "workers")
    ∷ optional_text_rule (codes "share")
    ∷ optional_text_rule (codes "tables") ∷ required_text_rule (codes "out") ∷ positionals_rule (codes "trace") ∷ [])

-- `check CONFIG COMMANDS`
abbrev pub check_app : App
check_app = command_app (codes "check") (config_rule ∷ positional_rule (codes "commands") ∷ [])

-- `map CONFIG ADDRESS`
abbrev pub map_app : App
map_app = command_app (codes "map") (config_rule ∷ positional_rule (codes "address") ∷ [])

-- `show DIR [--all] [--banks] [--config FILE] [--mhz N]`
abbrev pub show_app : App
show_app = command_app (codes "show") (
    positional_rule (codes "dir") ∷ flag_rule (codes "all") ∷ flag_rule (codes "banks")
    ∷ optional_text_rule (codes "config") ∷ optional_text_rule (codes "mhz") ∷ [])

-- `page DIR FILE [--config FILE] [--mhz N] [--from N] [--cycles N]`
abbrev pub page_app : App
page_app = command_app (codes "page") (
    positional_rule (codes "dir") ∷ positional_rule (codes "file") ∷ optional_text_rule (codes "config")
    ∷ optional_text_rule (codes "mhz")
    ∷ optional_number_rule (codes "from") ∷ optional_number_rule (codes "cycles") ∷ [])

-- `compare DIR DIR... [--csv]`
abbrev pub compare_app : App
compare_app = command_app (codes "compare") (positionals_rule (codes "dir") ∷ flag_rule (codes "csv") ∷ [])

-- a command that tells its version
abbrev pub with_version : App → App
with_version app = record app { top = record app.top { has_version = true } }

-- a command that requires a subcommand
abbrev pub with_subcommand_required : App → App
with_subcommand_required app = record app { top = record app.top { subcommand_required = true } }

-- the program's command line
abbrev pub program_app : App
program_app =
    with_subcommand (with_subcommand (with_subcommand (with_subcommand (with_subcommand (with_subcommand
    (with_subcommand_required (with_version (new_app (codes "dramsim")))) run_app.top) check_app.top)
    map_app.top) show_app.top) page_app.top) compare_app.top
