-- What `check`, `map`, `show` and `compare` answer, from what the files hold that they name.
--     IsVerdict config commands held found      what a table of commands is found to be
--     verdict_line found      the line that tells it
--     IsChecked config commands found held is_printed      it was told
--     IsPlace config address held ranks place      the place of an address, and how many ranks there are
--     place_line ranks place      the line that tells it
--     IsMapped config address held is_printed      it was told
--     IsStatsOf path held stats      the statistics whose table a file holds
--     IsShown dir config held is_printed      their screen was printed
--     stats_path dir      the file of the statistics in a folder
--     stats_table stats      the records of their table
--     AreStatsOf dirs held runs      the statistics whose tables are in folders
--     IsCompared dirs layout held is_printed      their comparison was printed
use Rattle.std.specs.Prelude.{◌≡◌, ℕ, nat_lt, List, [], ◌∷◌, ◌++◌, codes, decimal, map, Option, Some, Ok, if◌then◌else◌}
use Rattle.sim_base.specs.declared.config.Config.{Config}
use Rattle.sim_base.specs.declared.place.Place.{Place}
use Rattle.sim_base.specs.Places.{place_of}
use Rattle.sim_base.specs.Values.{values_of}
use Rattle.config_reader.specs.Document.{document_of}
use Rattle.reports.specs.Stats.{stats_header, stats_rows}
use Rattle.statistics.specs.Values.{RunStats}
use Rattle.rule_check.specs.Verdict.{records_of, verdict}
use Rattle.rule_check.specs.declared.verdict.Verdict.{Verdict}
use Rattle.rule_check.specs.declared.verdict.Verdict.TheVariants.{Legal, Broken}
use Rattle.compare.specs.Comparison.{comparison_text}
use Rattle.compare.specs.declared.layout.Layout.{Layout}
use Rattle.show.specs.declared.options.Options.{Options}
use Rattle.whole_files.specs.Files.{Held}
use Rattle.whole_files.specs.Tables.{path_in, stats_name}
use Rattle.request_table.specs.declared.times.RequestTimes.{RequestTimes}
use Rattle.answers.specs.Named.{IsConfigured}
use Rattle.answers.specs.Requests.{requests_path, AreRequestsAt, IsRunScreen, AreTails}

-- what `check` finds of the table that a file holds, under the configuration that another holds
pub record IsVerdict (config commands : List ℕ) (held : Held) (found : Verdict) : Type 0 where
  pub document : List ℕ
  pub table : List ℕ
  pub machine : Config
  pub config_is : held config ≡ Some document
  pub table_is : held commands ≡ Some table
  pub configured : document_of document ≡ Ok (values_of machine)
  pub found_is : verdict machine (records_of table) ≡ Ok found

-- the line that tells what a table is found to be
abbrev pub verdict_line : Verdict → List ℕ
verdict_line Legal = codes "legal\n"
verdict_line (Broken row rule) = codes "broken row " ++ decimal row ++ codes " rule " ++ decimal rule ++ codes "\n"

-- the verdict was printed
pub record IsChecked (config commands : List ℕ) (found : Verdict) (held : Held) (is_printed : List ℕ → Type 0)
    : Type 0 where
  pub judged : IsVerdict config commands held found
  pub printed : is_printed (verdict_line found)

-- the place of an address under the configuration that a file holds, and how many ranks there are
pub record IsPlace (config : List ℕ) (address : ℕ) (held : Held) (ranks : ℕ) (place : Place) : Type 0 where
  pub document : List ℕ
  pub machine : Config
  pub config_is : held config ≡ Some document
  pub configured : document_of document ≡ Ok (values_of machine)
  pub ranks_is : ranks ≡ machine.ranks
  pub place_is : place ≡ place_of machine address

-- the rank is told where there are several
abbrev pub rank_words : ℕ → ℕ → List ℕ
rank_words ranks rank = if nat_lt 1 ranks then codes " rank " ++ decimal rank else []

-- the line that tells a place
abbrev pub place_line : ℕ → Place → List ℕ
place_line ranks place =
    codes "channel " ++ decimal place.channel ++ rank_words ranks place.rank ++ codes " group " ++ decimal place.group
    ++ codes " bank " ++ decimal place.bank ++ codes " row " ++ decimal place.row ++ codes " column "
    ++ decimal place.column ++ codes "\n"

-- the place of an address was printed
pub record IsMapped (config : List ℕ) (address : ℕ) (held : Held) (is_printed : List ℕ → Type 0) : Type 0 where
  pub ranks : ℕ
  pub place : Place
  pub is_place : IsPlace config address held ranks place
  pub printed : is_printed (place_line ranks place)

-- the statistics whose table a file holds
pub record IsStatsOf (path : List ℕ) (held : Held) (stats : RunStats) : Type 0 where
  pub table : List ℕ
  pub table_is : held path ≡ Some table
  pub rows_are : records_of table ≡ stats_header ∷ stats_rows stats

-- a folder has the table of statistics, a configuration that is named is one that they fit, and their screen was
-- printed, with that of the requests where the folder has their table too
pub record IsShown (dir : List ℕ) (config : Option (List ℕ)) (options : Options) (held : Held)
    (is_printed : List ℕ → Type 0) : Type 0 where
  pub stats : RunStats
  pub machine : Option Config
  pub requests : Option (List RequestTimes)
  pub text : List ℕ
  pub stats_are : IsStatsOf (path_in dir stats_name) held stats
  pub configured : IsConfigured config held stats machine
  pub requests_are : AreRequestsAt (held (requests_path dir)) stats requests
  pub screen : IsRunScreen stats options machine requests text
  pub printed : is_printed text

-- the file of the statistics in a folder
abbrev pub stats_path : List ℕ → List ℕ
stats_path dir = path_in dir stats_name

-- the records of a table of statistics
abbrev pub stats_table : RunStats → List (List (List ℕ))
stats_table stats = stats_header ∷ stats_rows stats

-- the statistics whose tables are in folders
pub record AreStatsOf (dirs : List (List ℕ)) (held : Held) (runs : List RunStats) : Type 0 where
  pub tables : List (List ℕ)
  pub tables_are : map held (map stats_path dirs) ≡ map Some tables
  pub rows_are : map records_of tables ≡ map stats_table runs

-- each folder has the table of statistics, and their comparison was printed, with p99 of the read latencies where each
-- has a table of requests
pub record IsCompared (dirs : List (List ℕ)) (layout : Layout) (held : Held) (is_printed : List ℕ → Type 0)
    : Type 0 where
  pub runs : List RunStats
  pub tails : List (Option ℕ)
  pub runs_are : AreStatsOf dirs held runs
  pub tails_are : AreTails dirs held runs tails
  pub printed : is_printed (comparison_text layout dirs runs tails)
