-- Why an answer is refused, from what the files hold that it is made of. What is tested comes in this order: whether
-- each file can be read; what these files hold, a configuration before all else, then the statistics, then the
-- commands; what the table of requests holds, where a folder has one; and last, whether the answer can be written.
-- Memory may be refused at any time.
--     LacksOne tells held paths      one of the files is not there
--     AreTexts tells held paths texts      they hold these texts
--     IsTableFault, IsMapFault texts fault      what is wrong with the texts of a check and of a map
--     IsRightTable, IsRightMap texts      nothing is
--     IsShowFault, IsPageFault, IsCompareFault texts fault      what is wrong with the texts of the other answers
--     HoldRun, HoldRunTables texts stats, HoldRuns texts runs      nothing is, and these are the statistics
--     IsNoShow, IsNoPage tells held dir texts fault      what is wrong with the texts, or with the requests
--     IsRightShow, IsRightPage tells held dir texts      nothing is
--     IsNoComparison tells held dirs texts fault, IsRightCompare tells held dirs texts      the same of a comparison
--     IsFilesFault tells held paths fault      why files are not read
--     IsFoundFault, IsReady tells held paths ..      what was read has a fault, or none
--     IsInputFault, IsAnswerFault tells held paths ..      why the input, or the whole, is refused
use Rattle.std.specs.Prelude.{◌≡◌, ◌≢◌, ◌⊎◌, ℕ, List, [], ◌∷◌, length, map, take, slice_get, Option, Some, None, Ok, Err, IsOk}
use Rattle.sim_base.specs.declared.config.Config.{Config}
use Rattle.sim_base.specs.declared.fault.Fault.{Fault}
use Rattle.sim_base.specs.declared.fault.Fault.TheVariants.{Memory, Read, Write, ConfigRange}
use Rattle.sim_base.specs.declared.key.Key.{Key}
use Rattle.sim_base.specs.declared.key.Key.TheVariants.{Cores, Channels}
use Rattle.sim_base.specs.Values.{values_of}
use Rattle.config_reader.specs.Document.{document_of}
use Rattle.rule_check.specs.Verdict.{records_of, verdict}
use Rattle.rule_check.specs.declared.verdict.Verdict.{Verdict}
use Rattle.run_tables.specs.Records.{IsRefusedFor}
use Rattle.run_tables.specs.Stats.{HoldsStats}
use Rattle.statistics.specs.Values.{RunStats}
use Rattle.whole_files.specs.Files.{Held}
use Rattle.answers.specs.Answers.{stats_table}
use Rattle.answers.specs.Named.{Fits}
use Rattle.answers.specs.Pages.{HoldsCommandsOf, IsNoCommands}
use Rattle.answers.specs.Requests.{requests_path, AreRequestsRefused, HoldsSomeRequests, IsFolderRefused, AreTails}

-- one of these paths holds no file, where the set of files tells
abbrev pub LacksOne : Type 0 → Held → List (List ℕ) → Type 0
LacksOne tells held [] = ⊥
LacksOne tells held (path ∷ paths) = (tells → held path ≡ None) ⊎ LacksOne tells held paths

-- each of these paths has its text, which it holds where the set of files tells
pub record AreTexts (tells : Type 0) (held : Held) (paths texts : List (List ℕ)) : Type 0 where
  pub count : length texts ≡ length paths
  pub texts_are : tells → map held paths ≡ map Some texts

-- the configuration is right, and this is the fault of the first row of the table that is malformed
pub record IsRowFault (document table : List ℕ) (fault : Fault) : Type 0 where
  pub machine : Config
  pub configured : document_of document ≡ Ok (values_of machine)
  pub row_is : verdict machine (records_of table) ≡ Err fault

-- the table has a verdict under a configuration that is right
pub record IsJudged (document table : List ℕ) : Type 0 where
  pub machine : Config
  pub found : Verdict
  pub configured : document_of document ≡ Ok (values_of machine)
  pub found_is : verdict machine (records_of table) ≡ Ok found

-- what is wrong with the configuration and the table of a check: the first fault of the configuration, or else of the
-- table
abbrev pub IsTableFault : List (List ℕ) → Fault → Type 0
IsTableFault (document ∷ table ∷ []) fault = (document_of document ≡ Err fault) ⊎ IsRowFault document table fault
IsTableFault _ fault = ⊥

abbrev pub IsRightTable : List (List ℕ) → Type 0
IsRightTable (document ∷ table ∷ []) = IsJudged document table
IsRightTable _ = ⊥

-- what is wrong with the configuration of a map
abbrev pub IsMapFault : List (List ℕ) → Fault → Type 0
IsMapFault (document ∷ []) fault = document_of document ≡ Err fault
IsMapFault _ fault = ⊥

abbrev pub IsRightMap : List (List ℕ) → Type 0
IsRightMap (document ∷ []) = IsOk (document_of document)
IsRightMap _ = ⊥

-- a table of statistics is refused, for its first wrong record or for memory
abbrev pub IsStatsRefusal : List ℕ → Fault → Type 0
IsStatsRefusal table fault = IsRefusedFor HoldsStats (records_of table) fault

-- a machine has not as many cores as a run, or else not as many channels
abbrev pub IsMisfitKey : Config → RunStats → Key → Type 0
IsMisfitKey machine stats Cores = machine.cores ≢ length stats.cores
IsMisfitKey machine stats Channels = (machine.cores ≡ length stats.cores) × (machine.channels ≢ length stats.channels)
IsMisfitKey machine stats _ = ⊥

-- this key is out of the range that the tables of a run leave
abbrev pub IsSizeFault : Config → RunStats → Fault → Type 0
IsSizeFault machine stats (ConfigRange key) = IsMisfitKey machine stats key
IsSizeFault machine stats _ = ⊥

-- the table is of statistics, and they are not of a run of this machine
pub record IsMisfit (machine : Config) (table : List ℕ) (fault : Fault) : Type 0 where
  pub stats : RunStats
  pub rows_are : records_of table ≡ stats_table stats
  pub fault_is : IsSizeFault machine stats fault

-- the configuration is right, and the table of statistics is refused, or they are not of a run of this machine
pub record IsFaultUnder (document table : List ℕ) (fault : Fault) : Type 0 where
  pub machine : Config
  pub configured : document_of document ≡ Ok (values_of machine)
  pub fault_is : IsStatsRefusal table fault ⊎ IsMisfit machine table fault

-- the configuration is right, the records of a table are just those of these statistics, and the machine has the run's
-- numbers of cores and channels
pub record IsStatsUnder (document table : List ℕ) (stats : RunStats) : Type 0 where
  pub machine : Config
  pub configured : document_of document ≡ Ok (values_of machine)
  pub rows_are : records_of table ≡ stats_table stats
  pub fits : Fits machine stats

-- ---- the texts of a show: a configuration, where one is named, and the table of statistics

-- what is wrong with them: first the configuration, then the table, and last that they do not fit
abbrev pub IsShowFault : List (List ℕ) → Fault → Type 0
IsShowFault (table ∷ []) fault = IsStatsRefusal table fault
IsShowFault (document ∷ table ∷ []) fault = (document_of document ≡ Err fault) ⊎ IsFaultUnder document table fault
IsShowFault _ fault = ⊥

-- nothing is, and they hold these statistics
abbrev pub HoldRun : List (List ℕ) → RunStats → Type 0
HoldRun (table ∷ []) stats = records_of table ≡ stats_table stats
HoldRun (document ∷ table ∷ []) stats = IsStatsUnder document table stats
HoldRun _ stats = ⊥

-- ---- the texts of a page: those of a show, and the table of commands

-- the texts of a show are right, and the commands are refused
pub record AreCommandsRefused (texts : List (List ℕ)) (table : List ℕ) (fault : Fault) : Type 0 where
  pub stats : RunStats
  pub run : HoldRun texts stats
  pub fault_is : IsNoCommands table stats fault

-- what is wrong with them: first what is with those of a show, then the table of commands, and last that a command is
-- not of the run
abbrev pub IsPageFault : List (List ℕ) → Fault → Type 0
IsPageFault (stats ∷ commands ∷ []) fault =
    IsShowFault (stats ∷ []) fault ⊎ AreCommandsRefused (stats ∷ []) commands fault
IsPageFault (document ∷ stats ∷ commands ∷ []) fault =
    IsShowFault (document ∷ stats ∷ []) fault ⊎ AreCommandsRefused (document ∷ stats ∷ []) commands fault
IsPageFault _ fault = ⊥

-- nothing is, and they hold these statistics, and commands of their run
abbrev pub HoldRunTables : List (List ℕ) → RunStats → Type 0
HoldRunTables (table ∷ commands ∷ []) stats = HoldRun (table ∷ []) stats × HoldsCommandsOf commands stats
HoldRunTables (document ∷ table ∷ commands ∷ []) stats =
    HoldRun (document ∷ table ∷ []) stats × HoldsCommandsOf commands stats
HoldRunTables _ stats = ⊥

-- ---- the requests in the folder of a run, which are looked at where its texts are right

-- the texts hold these statistics, and the requests in the folder are refused
pub record IsFaultBeside (holds : RunStats → Type 0) (tells : Type 0) (held : Held) (dir : List ℕ) (fault : Fault)
    : Type 0 where
  pub stats : RunStats
  pub run : holds stats
  pub refused : AreRequestsRefused tells held (requests_path dir) stats fault

-- the texts hold these statistics, and the folder has requests of their run, or none
pub record IsRightBeside (holds : RunStats → Type 0) (tells : Type 0) (held : Held) (dir : List ℕ) : Type 0 where
  pub stats : RunStats
  pub run : holds stats
  pub requests : tells → HoldsSomeRequests (held (requests_path dir)) stats

-- what is wrong with a show of the run in a folder: its texts, or else the requests
abbrev pub IsNoShow : Type 0 → Held → List ℕ → List (List ℕ) → Fault → Type 0
IsNoShow tells held dir texts fault = IsShowFault texts fault ⊎ IsFaultBeside (HoldRun texts) tells held dir fault

-- nothing is
abbrev pub IsRightShow : Type 0 → Held → List ℕ → List (List ℕ) → Type 0
IsRightShow tells held dir texts = IsRightBeside (HoldRun texts) tells held dir

-- what is wrong with a page of the run in a folder, or with its screen of banks: the texts, or else the requests
abbrev pub IsNoPage : Type 0 → Held → List ℕ → List (List ℕ) → Fault → Type 0
IsNoPage tells held dir texts fault = IsPageFault texts fault ⊎ IsFaultBeside (HoldRunTables texts) tells held dir fault

-- nothing is
abbrev pub IsRightPage : Type 0 → Held → List ℕ → List (List ℕ) → Type 0
IsRightPage tells held dir texts = IsRightBeside (HoldRunTables texts) tells held dir

-- ---- the texts of a comparison: the tables of statistics

-- the tables hold these statistics
abbrev pub HoldRuns : List (List ℕ) → List RunStats → Type 0
HoldRuns texts runs = map records_of texts ≡ map stats_table runs

-- what is wrong with them: this table is refused, and those before it are right
pub record IsCompareFault (texts : List (List ℕ)) (fault : Fault) : Type 0 where
  pub place : ℕ
  pub table : List ℕ
  pub runs : List RunStats
  pub table_is : slice_get texts place ≡ Some table
  pub before : HoldRuns (take place texts) runs
  pub refused : IsStatsRefusal table fault

-- the tables are right, and the requests in one of the folders are refused
pub record IsTailsFault (tells : Type 0) (held : Held) (dirs texts : List (List ℕ)) (fault : Fault) : Type 0 where
  pub runs : List RunStats
  pub tables : HoldRuns texts runs
  pub refused : IsFolderRefused tells held dirs runs fault

-- what is wrong with a comparison of the runs in folders: their tables, or else the requests
abbrev pub IsNoComparison : Type 0 → Held → List (List ℕ) → List (List ℕ) → Fault → Type 0
IsNoComparison tells held dirs texts fault = IsCompareFault texts fault ⊎ IsTailsFault tells held dirs texts fault

-- nothing is: each folder has requests of its run, or one has none, and each before it has
pub record IsRightCompare (tells : Type 0) (held : Held) (dirs texts : List (List ℕ)) : Type 0 where
  pub runs : List RunStats
  pub tables : HoldRuns texts runs
  pub requests : tells → (tails : List (Option ℕ)) × AreTails dirs held runs tails

-- ---- what is read, and what is answered

-- memory was refused, or one of the files cannot be read
abbrev pub IsFilesFault : Type 0 → Held → List (List ℕ) → Fault → Type 0
IsFilesFault tells held paths fault = (fault ≡ Memory) ⊎ ((fault ≡ Read) × LacksOne tells held paths)

-- each file was read, and the texts have this fault
pub record IsFoundFault (tells : Type 0) (held : Held) (paths : List (List ℕ))
    (is_fault : List (List ℕ) → Fault → Type 0) (fault : Fault) : Type 0 where
  pub texts : List (List ℕ)
  pub read : AreTexts tells held paths texts
  pub fault_is : is_fault texts fault

-- each file was read, and the texts have no fault
pub record IsReady (tells : Type 0) (held : Held) (paths : List (List ℕ)) (is_right : List (List ℕ) → Type 0)
    : Type 0 where
  pub texts : List (List ℕ)
  pub read : AreTexts tells held paths texts
  pub right : is_right texts

-- memory was refused; or a file is not there; or all are, and this is wrong with what they hold
abbrev pub IsInputFault : Type 0 → Held → List (List ℕ) → (List (List ℕ) → Fault → Type 0) → Fault → Type 0
IsInputFault tells held paths is_fault fault =
    IsFilesFault tells held paths fault ⊎ IsFoundFault tells held paths is_fault fault

-- the input is refused; or nothing is wrong with it, and the answer cannot be written
abbrev pub IsAnswerFault : Type 0 → Held → List (List ℕ) → (List (List ℕ) → Fault → Type 0) → (List (List ℕ) → Type 0)
    → Fault → Type 0
IsAnswerFault tells held paths is_fault is_right fault =
    IsInputFault tells held paths is_fault fault ⊎ ((fault ≡ Write) × IsReady tells held paths is_right)
