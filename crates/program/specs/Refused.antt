-- Why what the words ask for is refused. What is tested comes in this order: the words; whether each file that they
-- name can be read; what these files hold, the configuration before all else; what the tables of requests hold, where
-- the folders of runs have them; and last, whether the answer can be written.
--     HasNoAsk words      the words ask for nothing
--     named ask      the files that are read
--     IsRunFault cycles workers texts fault, IsRightRun cycles workers texts      what is wrong with the texts of a run, and that nothing is
--     IsFaultIn tells held ask texts fault, IsRight tells held ask texts      the same for what is asked
--     IsAskFault tells held ask fault      why what is asked is refused
--     IsFaultOf tells held words fault      the same for the words of a command line
use Rattle.std.specs.Prelude.{◌≡◌, ◌⊎◌, ℕ, true, ⊤, List, [], ◌∷◌, map, option_map, IsOk}
use Rattle.sim_base.specs.declared.fault.Fault.{Fault}
use Rattle.sim_base.specs.declared.fault.Fault.TheVariants.{Memory, CommandLine, Write}
use Rattle.simulation.specs.Runs.{input_of, IsRefusal}
use Rattle.command_line.specs.Ask.{is_taken, command_of, IsCallForHelp, IsCallForVersion, HasBadWord, IsAskedBy}
use Rattle.whole_files.specs.Files.{Held}
use Rattle.whole_files.specs.Tables.{path_in, stats_name, commands_name}
use Rattle.answers.specs.Answers.{stats_path}
use Rattle.answers.specs.Named.{with_config}
use Rattle.answers.specs.Refused.{IsTableFault, IsRightTable, IsMapFault, IsRightMap, IsNoShow, IsRightShow, IsNoPage, IsRightPage, IsNoComparison, IsRightCompare, IsAnswerFault}
use Rattle.command_line.specs.declared.words.Ask.{Ask}
use Rattle.command_line.specs.declared.words.Ask.TheVariants.{Run, Check, Map, Show, ShowBanks, Page, Compare, Help, Version}

-- the words call for no help and no version, and the command line does not take them, unless a word of theirs is bad
pub record HasNoAsk (words : List (List ℕ)) : Type 0 where
  pub no_help : ¬ (IsCallForHelp words)
  pub no_version : ¬ (IsCallForVersion words)
  pub no_command : is_taken words ≡ true → HasBadWord (command_of words)

-- the files that are read, in their order; a configuration is the first
abbrev pub named : Ask → List (List ℕ)
named (Run run) = run.config.now ∷ map (λ t. t.now) run.traces.items
named (Check config commands) = config.now ∷ commands.now ∷ []
named (Map config address) = config.now ∷ []
named (Show show) = with_config (option_map (λ c. c.now) show.config) (path_in show.dir.now stats_name ∷ [])
named (ShowBanks show) =
    with_config (option_map (λ c. c.now) show.config)
    (path_in show.dir.now stats_name ∷ path_in show.dir.now commands_name ∷ [])
named (Page page) =
    with_config (option_map (λ c. c.now) page.config)
    (path_in page.dir.now stats_name ∷ path_in page.dir.now commands_name ∷ [])
named (Compare dirs csv) = map (λ d. stats_path d.now) dirs.items
named (Help text) = []
named (Version text) = []

-- what is wrong with the configuration and the traces of a run: the first fault in the order of their tests, or a
-- worker's start
abbrev pub IsRunFault : ℕ → ℕ → List (List ℕ) → Fault → Type 0
IsRunFault cycles workers (document ∷ texts) fault = IsRefusal document texts cycles workers fault
IsRunFault cycles workers _ fault = ⊥

-- what is wrong with the configuration and the traces of a run, or a worker's start; or nothing is wrong with them, and
-- the folder of the run is refused
abbrev pub IsRunRefusal : List ℕ → List (List ℕ) → ℕ → ℕ → Fault → Type 0
IsRunRefusal document texts cycles workers fault =
    IsRefusal document texts cycles workers fault ⊎ ((fault ≡ Write) × IsOk (input_of document texts cycles workers))

-- they have no fault
abbrev pub IsRightRun : ℕ → ℕ → List (List ℕ) → Type 0
IsRightRun cycles workers (document ∷ texts) = IsOk (input_of document texts cycles workers)
IsRightRun cycles workers _ = ⊥

-- what is wrong with the texts of the files that are read, or with the tables of requests beside them
abbrev pub IsFaultIn : Type 0 → Held → Ask → List (List ℕ) → Fault → Type 0
IsFaultIn tells held (Run run) = IsRunFault run.cycles run.workers
IsFaultIn tells held (Check config commands) = IsTableFault
IsFaultIn tells held (Map config address) = IsMapFault
IsFaultIn tells held (Show show) = IsNoShow tells held show.dir.now
IsFaultIn tells held (ShowBanks show) = IsNoPage tells held show.dir.now
IsFaultIn tells held (Page page) = IsNoPage tells held page.dir.now
IsFaultIn tells held (Compare dirs csv) = IsNoComparison tells held (map (λ d. d.now) dirs.items)
IsFaultIn tells held (Help text) = λ _ _. ⊥
IsFaultIn tells held (Version text) = λ _ _. ⊥

-- nothing is
abbrev pub IsRight : Type 0 → Held → Ask → List (List ℕ) → Type 0
IsRight tells held (Run run) = IsRightRun run.cycles run.workers
IsRight tells held (Check config commands) = IsRightTable
IsRight tells held (Map config address) = IsRightMap
IsRight tells held (Show show) = IsRightShow tells held show.dir.now
IsRight tells held (ShowBanks show) = IsRightPage tells held show.dir.now
IsRight tells held (Page page) = IsRightPage tells held page.dir.now
IsRight tells held (Compare dirs csv) = IsRightCompare tells held (map (λ d. d.now) dirs.items)
IsRight tells held (Help text) = λ _. ⊤
IsRight tells held (Version text) = λ _. ⊤

-- why what is asked is refused
abbrev pub IsAskFault : Type 0 → Held → Ask → Fault → Type 0
IsAskFault tells held ask fault =
    IsAnswerFault tells held (named ask) (IsFaultIn tells held ask) (IsRight tells held ask) fault

-- the words ask for something, and that is refused with this fault
pub record IsFaultOfAsk (tells : Type 0) (held : Held) (words : List (List ℕ)) (fault : Fault) : Type 0 where
  pub ask : Ask
  pub asked : IsAskedBy words ask
  pub refused : IsAskFault tells held ask fault

-- memory was refused; or the words ask for nothing; or they ask for something, and that is refused with this fault
abbrev pub IsFaultOf : Type 0 → Held → List (List ℕ) → Fault → Type 0
IsFaultOf tells held words fault =
    (fault ≡ Memory) ⊎ ((fault ≡ CommandLine) × HasNoAsk words) ⊎ IsFaultOfAsk tells held words fault
