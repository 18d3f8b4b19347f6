-- The page of a run. Its text is a whole document; what is drawn in it is not specified here, but covered by tests.
--     AreTablesIn stats_table commands_table stats commands      what the two tables hold
--     AreTablesAt stats_path commands_path held stats commands      the same for what two files hold
--     HoldsCommandsOf table stats      a table holds commands of the run
--     IsNoCommands table stats fault      why a table holds no commands of the run
--     IsPageDone dir file config warning old new      the page is in its place, and this is warned of
use Rattle.std.specs.Prelude.{◌≡◌, ◌⊎◌, ℕ, ◌+◌, List, ◌∷◌, Option, Some}
use Rattle.sim_base.specs.declared.command.IssuedCommand.{IssuedCommand}
use Rattle.sim_base.specs.declared.fault.Fault.{Fault}
use Rattle.sim_base.specs.declared.fault.Fault.TheVariants.{CheckRow}
use Rattle.reports.specs.Stats.{stats_header, stats_rows}
use Rattle.rule_check.specs.Verdict.{records_of}
use Rattle.run_tables.specs.Commands.{IsCommandTable, HoldsCommands}
use Rattle.run_tables.specs.Records.{IsRefusedFor}
use Rattle.sim_base.specs.declared.config.Config.{Config}
use Rattle.statistics.specs.Values.{RunStats}
use Rattle.page.specs.Document.{IsDocument}
use Rattle.page.specs.Rows.{IsOfRunAt, IsFirstStranger}
use Rattle.refusal.specs.Warnings.{IsWarningOf}
use Rattle.refusal.specs.declared.warning.LargePage.{LargePage}
use Rattle.whole_files.specs.Files.{Held}
use Rattle.whole_files.specs.Tables.{path_in, stats_name, commands_name}
use Rattle.whole_files.specs.WholeFile.{IsWhole}
use Rattle.request_table.specs.declared.times.RequestTimes.{RequestTimes}
use Rattle.answers.specs.Named.{IsConfigured}
use Rattle.answers.specs.Requests.{requests_path, AreRequestsAt}

-- one table has just the records of the statistics, and the other just those of the commands
pub record AreTablesIn (stats_table commands_table : List ℕ) (stats : RunStats) (commands : List IssuedCommand)
    : Type 0 where
  pub rows_are : records_of stats_table ≡ stats_header ∷ stats_rows stats
  pub commands_are : IsCommandTable (records_of commands_table) commands

-- the tables that two files hold are those of these statistics and commands
pub record AreTablesAt (stats_path commands_path : List ℕ) (held : Held) (stats : RunStats)
    (commands : List IssuedCommand) : Type 0 where
  pub stats_table : List ℕ
  pub commands_table : List ℕ
  pub stats_is : held stats_path ≡ Some stats_table
  pub commands_is : held commands_path ≡ Some commands_table
  pub tables : AreTablesIn stats_table commands_table stats commands

-- a table holds commands of the run
pub record HoldsCommandsOf (table : List ℕ) (stats : RunStats) : Type 0 where
  pub commands : List IssuedCommand
  pub commands_are : IsCommandTable (records_of table) commands
  pub of_run : (place : ℕ) → IsOfRunAt stats commands place

-- a fault names the first command that is not of the run, by its row, where 0 is the header
abbrev pub NamesStranger : RunStats → List IssuedCommand → Fault → Type 0
NamesStranger stats commands fault = (place : ℕ) × IsFirstStranger stats commands place × (fault ≡ CheckRow (place + 1))

-- a table is one of commands, and the fault names the first that is not of the run
pub record HasStranger (table : List ℕ) (stats : RunStats) (fault : Fault) : Type 0 where
  pub commands : List IssuedCommand
  pub commands_are : IsCommandTable (records_of table) commands
  pub named : NamesStranger stats commands fault

-- why a table holds no commands of the run: it is no table of commands from this row on, or one is not of the run; or
-- memory was refused
abbrev pub IsNoCommands : List ℕ → RunStats → Fault → Type 0
IsNoCommands table stats fault = IsRefusedFor HoldsCommands (records_of table) fault ⊎ HasStranger table stats fault

-- the folder has the tables of a run, a configuration that is named is one that it fits, each command is of the run, so
-- is a table of requests, where there is one, the file is a new one that holds a whole document, nothing else has
-- changed, and a page of more than 50 MB is warned of
pub record IsPageDone (dir file : List ℕ) (config : Option (List ℕ)) (warning : Option LargePage) (old new : Held)
    : Type 0 where
  pub stats : RunStats
  pub commands : List IssuedCommand
  pub requests : Option (List RequestTimes)
  pub text : List ℕ
  pub tables : AreTablesAt (path_in dir stats_name) (path_in dir commands_name) old stats commands
  pub machine : Option Config
  pub configured : IsConfigured config old stats machine
  pub requests_are : AreRequestsAt (old (requests_path dir)) stats requests
  pub of_run : (place : ℕ) → IsOfRunAt stats commands place
  pub document : IsDocument text
  pub written : IsWhole file text old new
  pub warned : IsWarningOf text warning
