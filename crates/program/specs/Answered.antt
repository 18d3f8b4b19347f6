-- What the program does for what the words ask, where the set of files tells what it holds.
--     Seen      what can be seen of the files and the stream
--     IsInputOf config cycles workers traces held machine entries      a machine and its traces are what the named files hold
--     IsOutcome config cycles workers tables traces held run      the outcome of a run over what the named files hold
--     IsRunDone config cycles workers tables out traces old new before after      its tables are in the folder
--     IsUnfinished refusal config cycles workers tables out traces has_folder old new before after      what is left of a run that is refused
--     IsAnswer ask done old new      what is asked has been done
--     IsUnwarned ask warning      nothing is warned of but pages
--     IsLeft refusal ask old new      what is left where it has not been done
--     IsAnswered words status old new has_refused before after      what the words of a command line ask for has been done, and its warning told
--     IsRefusedBy refusal words old new, IsRefused words old new      what is left where it has not been done
--     AskForPage words      the words ask for a page
use Rattle.std.specs.Prelude.{◌≡◌, ◌⊎◌, ⊤, ℕ, Bool, true, List, [], ◌∷◌, ◌++◌, map, option_map, string_bytes, Option, Some, None, if◌then◌else◌}
use Rattle.std.specs.Io.KnownBytes.{Appends}
use Rattle.statistics.specs.Values.{RunOutcome}
use Rattle.statistics.specs.declared.tables.Tables.{Tables}
use Rattle.sim_base.specs.declared.config.Config.{Config}
use Rattle.sim_base.specs.declared.trace.Entry.{Entry}
use Rattle.simulation.specs.Runs.{IsInput, IsRunOf, IsJudgedLegal}
use Rattle.command_line.specs.Ask.{IsAskedBy}
use Rattle.whole_files.specs.Files.{Held, IsUntouched}
use Rattle.whole_files.specs.WholeFile.{part_of, IsUnwritten}
use Rattle.refusal.specs.Refusals.{IsKept}
use Rattle.refusal.specs.Warnings.{IsWarned}
use Rattle.refusal.specs.declared.warning.LargePage.{LargePage}
use Rattle.program.specs.Status.{verdict_status}
use Rattle.program.specs.declared.done.Done.{Done}
use Rattle.program.specs.declared.status.ExitStatus.{ExitStatus}
use Rattle.program.specs.declared.status.ExitStatus.TheVariants as exit
use Rattle.whole_files.specs.Tables.{parts, IsWritten, LeavesAll, IsUnplaced}
use Rattle.rule_check.specs.declared.verdict.Verdict.{Verdict}
use Rattle.answers.specs.Answers.{IsChecked, IsMapped, IsShown, IsCompared}
use Rattle.compare.specs.declared.layout.Layout.{Layout}
use Rattle.compare.specs.declared.layout.Layout.TheVariants.{Screen, Csv}
use Rattle.show.specs.declared.options.Options.{Options}
use Rattle.command_line.specs.declared.words.ShowArguments.{ShowArguments}
use Rattle.answers.specs.Banks.{IsShownWithBanks}
use Rattle.answers.specs.Pages.{IsPageDone}
use Rattle.refusal.specs.declared.refusal.Refusal.{Refusal}
use Rattle.command_line.specs.declared.words.Ask.{Ask}
use Rattle.command_line.specs.declared.words.Ask.TheVariants.{Run, Check, Map, Show, ShowBanks, Page, Compare, Help, Version}

-- what the paths hold, where folders stand, which paths were opened to be written, and what the stream of answers
-- holds, where that is told
pub record Seen : Type 0 where
  pub held : Held
  pub has_folder : List ℕ → Bool
  pub opened : List (List ℕ)
  pub printed : Option (List ℕ)

abbrev pub seen : Held → (List ℕ → Bool) → List (List ℕ) → Option (List ℕ) → Seen
seen held has_folder opened printed =
    record { held = held; has_folder = has_folder; opened = opened; printed = printed }

-- The files that are named hold a configuration and traces, and these are the machine and the entries that they mean.
pub record IsInputOf (config : List ℕ) (cycles workers : ℕ) (traces : List (List ℕ)) (held : Held) (machine : Config)
    (entries : List (List Entry)) : Type 0 where
  pub document : List ℕ
  pub texts : List (List ℕ)
  pub config_is : held config ≡ Some document
  pub traces_are : map held traces ≡ map Some texts
  pub input : IsInput document texts cycles workers machine entries

-- The files that are named hold a configuration and traces, this is the outcome of the one-clock machine that they
-- describe, with the tables that are asked for, and `check` says of the table of its commands that it is legal.
pub record IsOutcome (config : List ℕ) (cycles workers : ℕ) (tables : Tables) (traces : List (List ℕ)) (held : Held)
    (run : RunOutcome) : Type 0 where
  pub document : List ℕ
  pub texts : List (List ℕ)
  pub config_is : held config ≡ Some document
  pub traces_are : map held traces ≡ map Some texts
  pub run_is : IsRunOf document texts cycles workers tables run
  pub legal : IsJudgedLegal document texts cycles workers tables run

-- the tables of the outcome that are asked for are in the folder and no others, just these were opened, and nothing
-- else has changed
pub record IsRunDone (config : List ℕ) (cycles workers : ℕ) (tables : Tables) (out : List ℕ) (traces : List (List ℕ))
    (old new : Held) (before after : List (List ℕ)) : Type 0 where
  pub run : RunOutcome
  pub outcome : IsOutcome config cycles workers tables traces old run
  pub written : IsWritten out run old new
  pub opened_are : after ≡ before ++ parts out run

-- the run has an outcome, its folder was there before it began, and its tables could not all be given their places
pub record IsRunLeft (refusal : Refusal) (config : List ℕ) (cycles workers : ℕ) (tables : Tables) (out : List ℕ)
    (traces : List (List ℕ)) (has_folder : Bool) (old new : Held) : Type 0 where
  pub run : RunOutcome
  pub folder : has_folder ≡ true
  pub outcome : IsOutcome config cycles workers tables traces old run
  pub unplaced : IsUnplaced refusal out run old new

-- What is left of a run that is refused: it had no outcome, as where its folder was not there, or memory was refused,
-- and no file has changed and none was opened to be written; or its folder was there, it had an outcome, and is left
-- undone after that.
abbrev pub IsUnfinished : Refusal → List ℕ → ℕ → ℕ → Tables → List ℕ → List (List ℕ) → Bool → Held → Held
    → List (List ℕ) → List (List ℕ) → Type 0
IsUnfinished refusal config cycles workers tables out traces has_folder old new before after =
    LeavesAll refusal old new before after
    ⊎ IsRunLeft refusal config cycles workers tables out traces has_folder old new

-- a run has been done: its folder was there before it began, it prints nothing, and opens just the tables that are
-- asked for
pub record IsRunAnswer (config : List ℕ) (cycles workers : ℕ) (tables : Tables) (out : List ℕ) (traces : List (List ℕ))
    (status : ExitStatus) (old new : Seen) : Type 0 where
  pub status_is : status ≡ exit.Done
  pub folder : old.has_folder out ≡ true
  pub done : IsRunDone config cycles workers tables out traces old.held new.held old.opened new.opened
  pub silent : new.printed ≡ old.printed

-- a table has been checked, and the program ends as the verdict is
pub record IsCheckAnswer (config commands : List ℕ) (status : ExitStatus) (old new : Seen) : Type 0 where
  pub found : Verdict
  pub checked : IsChecked config commands found old.held (Appends old.printed new.printed)
  pub status_is : status ≡ verdict_status found
  pub untouched : IsUntouched old.held new.held old.opened new.opened

-- an address has been mapped
pub record IsMapAnswer (config : List ℕ) (address : ℕ) (status : ExitStatus) (old new : Seen) : Type 0 where
  pub status_is : status ≡ exit.Done
  pub mapped : IsMapped config address old.held (Appends old.printed new.printed)
  pub untouched : IsUntouched old.held new.held old.opened new.opened

-- what a screen shows, and by which clock
abbrev pub options_of : ShowArguments → Options
options_of show = record { all = show.all; khz = show.khz }

-- a run has been shown
pub record IsShowAnswer (dir : List ℕ) (config : Option (List ℕ)) (options : Options) (status : ExitStatus)
    (old new : Seen) : Type 0 where
  pub status_is : status ≡ exit.Done
  pub shown : IsShown dir config options old.held (Appends old.printed new.printed)
  pub untouched : IsUntouched old.held new.held old.opened new.opened

-- a run has been shown with its banks
pub record IsBanksAnswer (dir : List ℕ) (config : Option (List ℕ)) (options : Options) (status : ExitStatus)
    (old new : Seen) : Type 0 where
  pub status_is : status ≡ exit.Done
  pub shown : IsShownWithBanks dir config options old.held (Appends old.printed new.printed)
  pub untouched : IsUntouched old.held new.held old.opened new.opened

-- a page has been made: it prints nothing, and opens just one file
pub record IsPageAnswer (dir file : List ℕ) (config : Option (List ℕ)) (done : Done) (old new : Seen) : Type 0 where
  pub status_is : done.status ≡ exit.Done
  pub page : IsPageDone dir file config done.warning old.held new.held
  pub opened_is : new.opened ≡ old.opened ++ part_of file ∷ []
  pub silent : new.printed ≡ old.printed

-- a page has not been made: what stood in its place stands there, and nothing is left beside it
pub record IsPageLeft (refusal : Refusal) (file : List ℕ) (old new : Seen) : Type 0 where
  pub kept : IsKept refusal
  pub unwritten : IsUnwritten file old.held new.held old.opened new.opened

-- a screen, or a table of CSV where that is asked for
abbrev pub layout_of : Bool → Layout
layout_of csv = if csv then Csv else Screen

-- runs have been compared
pub record IsCompareAnswer (dirs : List (List ℕ)) (csv : Bool) (status : ExitStatus) (old new : Seen) : Type 0 where
  pub status_is : status ≡ exit.Done
  pub compared : IsCompared dirs (layout_of csv) old.held (Appends old.printed new.printed)
  pub untouched : IsUntouched old.held new.held old.opened new.opened

-- help has been given, or the version
pub record IsHelpAnswer (text : List ℕ) (status : ExitStatus) (old new : Seen) : Type 0 where
  pub status_is : status ≡ exit.Done
  pub printed : Appends old.printed new.printed text
  pub untouched : IsUntouched old.held new.held old.opened new.opened

-- what is asked has been done
abbrev pub IsAnswer : Ask → Done → Seen → Seen → Type 0
IsAnswer (Run run) done old new =
    IsRunAnswer run.config.now run.cycles run.workers run.tables run.out.now (map (λ t. t.now) run.traces.items)
    done.status old new
IsAnswer (Check config commands) done old new = IsCheckAnswer config.now commands.now done.status old new
IsAnswer (Map config address) done old new = IsMapAnswer config.now address done.status old new
IsAnswer (Show show) done old new =
    IsShowAnswer show.dir.now (option_map (λ c. c.now) show.config) (options_of show) done.status old new
IsAnswer (ShowBanks show) done old new =
    IsBanksAnswer show.dir.now (option_map (λ c. c.now) show.config) (options_of show) done.status old new
IsAnswer (Page page) done old new =
    IsPageAnswer page.dir.now page.file.now (option_map (λ c. c.now) page.config) done old new
IsAnswer (Compare dirs csv) done old new = IsCompareAnswer (map (λ d. d.now) dirs.items) csv done.status old new
IsAnswer (Help text) done old new = IsHelpAnswer (string_bytes text) done.status old new
IsAnswer (Version text) done old new = IsHelpAnswer (string_bytes text) done.status old new

-- it is a page
abbrev pub IsForPage : Ask → Type 0
IsForPage (Page page) = ⊤
IsForPage _ = ⊥

-- nothing is warned of but pages
abbrev pub IsUnwarned : Ask → Option LargePage → Type 0
IsUnwarned (Page page) warning = ⊤
IsUnwarned _ warning = warning ≡ None

-- what is left where it has not been done: nothing was touched, or a run is left undone after its outcome was there, or
-- a page
abbrev pub IsLeft : Refusal → Ask → Seen → Seen → Type 0
IsLeft refusal (Run run) old new =
    IsUnfinished refusal run.config.now run.cycles run.workers run.tables run.out.now
    (map (λ t. t.now) run.traces.items)
    (old.has_folder run.out.now) old.held new.held old.opened new.opened
IsLeft refusal (Page page) old new = IsPageLeft refusal page.file.now old new
IsLeft refusal _ old new = LeavesAll refusal old.held new.held old.opened new.opened

-- what the words ask for has been done, and the program ends so, with this warning
pub record IsDone (words : List (List ℕ)) (done : Done) (old new : Seen) : Type 0 where
  pub ask : Ask
  pub asked : IsAskedBy words ask
  pub answer : IsAnswer ask done old new

-- what the words ask for has been done with this status; and the stream of errors took the line that warns of a page of
-- more than 50 MB, or a beginning of it where it has refused, and nothing where there is no such page
pub record IsAnswered (words : List (List ℕ)) (status : ExitStatus) (old new : Seen) (has_refused : Bool)
    (before after : Option (List ℕ)) : Type 0 where
  pub done : Done
  pub status_is : status ≡ done.status
  pub is_done : IsDone words done old new
  pub warned : IsWarned done.warning has_refused before after

-- the words ask for a page
pub record AskForPage (words : List (List ℕ)) : Type 0 where
  pub ask : Ask
  pub asked : IsAskedBy words ask
  pub for_page : IsForPage ask

-- what the words ask for has not been done
pub record IsUndone (refusal : Refusal) (words : List (List ℕ)) (old new : Seen) : Type 0 where
  pub ask : Ask
  pub asked : IsAskedBy words ask
  pub left : IsLeft refusal ask old new

-- the words are none that the program knows, or memory was refused, and nothing was touched; or what they ask for has
-- not been done
abbrev pub IsRefusedBy : Refusal → List (List ℕ) → Seen → Seen → Type 0
IsRefusedBy refusal words old new =
    LeavesAll refusal old.held new.held old.opened new.opened ⊎ IsUndone refusal words old new

-- for some refusal, the words are none that the program knows, or memory was refused, and nothing was touched; or what
-- they ask for has not been done
pub record IsRefused (words : List (List ℕ)) (old new : Seen) : Type 0 where
  pub refusal : Refusal
  pub left : IsRefusedBy refusal words old new
