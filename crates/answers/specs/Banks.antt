-- What `show --banks` answers, from what the files hold that it names.
--     IsShownWithBanks dir config held is_printed      the screen of a run and its banks were printed
use Rattle.std.specs.Prelude.{ℕ, List, Option}
use Rattle.sim_base.specs.declared.command.IssuedCommand.{IssuedCommand}
use Rattle.page.specs.Rows.{IsOfRunAt}
use Rattle.request_table.specs.declared.times.RequestTimes.{RequestTimes}
use Rattle.sim_base.specs.declared.config.Config.{Config}
use Rattle.show.specs.declared.options.Options.{Options}
use Rattle.statistics.specs.Values.{RunStats}
use Rattle.whole_files.specs.Files.{Held}
use Rattle.whole_files.specs.Tables.{path_in, stats_name, commands_name}
use Rattle.answers.specs.Named.{IsConfigured}
use Rattle.answers.specs.Pages.{AreTablesAt}
use Rattle.answers.specs.Requests.{requests_path, AreRequestsAt, IsRunBanksScreen}

-- a folder has the tables of a run, a configuration that is named is one that it fits, each command is of the run, and
-- the screen of the run was printed with its banks, and with its requests where the folder has their table too
pub record IsShownWithBanks (dir : List ℕ) (config : Option (List ℕ)) (options : Options) (held : Held)
    (is_printed : List ℕ → Type 0) : Type 0 where
  pub stats : RunStats
  pub machine : Option Config
  pub commands : List IssuedCommand
  pub requests : Option (List RequestTimes)
  pub text : List ℕ
  pub tables : AreTablesAt (path_in dir stats_name) (path_in dir commands_name) held stats commands
  pub configured : IsConfigured config held stats machine
  pub of_run : (place : ℕ) → IsOfRunAt stats commands place
  pub requests_are : AreRequestsAt (held (requests_path dir)) stats requests
  pub screen : IsRunBanksScreen stats commands options machine requests text
  pub printed : is_printed text
