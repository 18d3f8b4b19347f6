-- What a run is asked to be, and what the program has done, in the words of contracts. There `F.FileSet` is what a set
-- of files says of itself, `P.Write` what a stream does, and `files.old` is the set before a call. A fact about what
-- files hold is claimed where the set tells.
--     sight set stream files output      what can be seen of the files and of the stream of answers
--     IsSeen set stream old new before after is      what is so of what can be seen before and after a call
--     texts_of words      the words of a command line
--     traces_of asked, run_paths asked      the files of a run's traces, and all that it reads
--     ReadsInput, ReadsOutcome set files asked ..      the input of a run, and its outcome
--     CanRun set files asked, RefusesRun set files asked fault      its files can be read and are right, and why it is refused
--     EndsRun set old new asked, LeavesRun set old new asked refusal      what a run has done, and what is left of one that is refused
--     LeavesFiles set old new refusal      a refusal leaves all files as they were
--     Answers, Tells stream before after ..      what was asked has been done, or is refused, and that was told on a stream of errors
use Rattle.std.specs.Prelude.{◌≡◌, ◌⊎◌, ℕ, ◌≤◌, List, ◌∷◌, map, Option, Some, None, Vec}
use Rattle.std.specs.Borrow.{Bor}
use Rattle.std.specs.declared.alloc.Global.{Global}
use Rattle.std.specs.declared.io.Write.{Ghosts as Stream}
use Rattle.sim_base.specs.declared.config.Config.{Config}
use Rattle.sim_base.specs.declared.fault.Fault.{Fault}
use Rattle.sim_base.specs.declared.trace.Entry.{Entry}
use Rattle.statistics.specs.Values.{RunOutcome}
use Rattle.simulation.specs.Runs.{HoldsOfInput, IsInput, IsRunOf, IsJudgedLegal}
use Rattle.refusal.specs.Refusals.{fault_of}
use Rattle.refusal.specs.Streams.{has_refused, stream_of}
use Rattle.refusal.specs.declared.error_stream.ErrorStream.{ErrorStream}
use Rattle.refusal.specs.declared.refusal.Refusal.{Refusal}
use Rattle.refusal.specs.declared.warning.LargePage.{LargePage}
use Rattle.whole_files.specs.Tables.{LeavesAll}
use Rattle.whole_files.specs.declared.files.FileSet.{Ghosts as Files}
use Rattle.answers.specs.Refused.{IsFilesFault, IsReady, IsAnswerFault}
use Rattle.program.specs.Answered.{Seen, seen, IsInputOf, IsOutcome, IsRunDone, IsUnfinished, IsAnswered, AskForPage}
use Rattle.program.specs.declared.status.ExitStatus.{ExitStatus}
use Rattle.program.specs.Refused.{IsRunFault, IsRightRun, IsRunRefusal, IsAskFault, IsFaultOf}
use Rattle.program.specs.Told.{IsTold}
use Rattle.program.specs.declared.asked.RunAsk.{RunAsk}
use Rattle.program.specs.declared.explained.Input.{Input}
use Rattle.command_line.specs.declared.words.Ask.{Ask}
use Rattle.sim_base.specs.Texts.{texts_of}

-- ---- what stands behind references

-- the files of a run's traces
abbrev pub traces_of : RunAsk → List (List ℕ)
traces_of asked = texts_of asked.traces.now

-- the files that a run reads: its configuration, and its traces
abbrev pub run_paths : RunAsk → List (List ℕ)
run_paths asked = asked.config.now ∷ traces_of asked

-- the texts of a run's traces
abbrev pub texts_in : Input → List (List ℕ)
texts_in input = texts_of input.texts.now

-- what can be seen of the files and of the stream of answers
abbrev pub sight : {S O P : Type 0} → Files S O → Stream P → S → P → Seen
sight set stream files output = seen (set.held files) (set.has_folder files) (set.opened files) (stream.contents output)

-- this is so of what can be seen before and after a call, where the set tells
abbrev pub IsSeen : {S O P : Type 0} → Files S O → Stream P → S → S → P → P → (Seen → Seen → Type 0) → Type 0
IsSeen set stream old new before after is = set.tells → is (sight set stream old before) (sight set stream new after)

-- ---- files that are read

-- files hold these texts
abbrev pub AreTextsAt : {S O : Type 0} → Files S O → S → List (Bor (List ℕ)) → Vec (List ℕ) Global → Type 0
AreTextsAt set files paths texts = set.tells → map (λ p. set.held files p.now) paths ≡ map (λ t. Some t) texts.items

-- memory was refused, or one of these files cannot be read
abbrev pub AreUnread : {S O : Type 0} → Files S O → S → List (Bor (List ℕ)) → Fault → Type 0
AreUnread set files paths fault = IsFilesFault set.tells (set.held files) (texts_of paths) fault

-- ---- a run

-- there are 1 to 64 workers
abbrev pub HasWorkers : RunAsk → Type 0
HasWorkers asked = (1 ≤ asked.workers.count) × (asked.workers.count ≤ 64)

-- a machine and its traces are what the texts of a run describe
abbrev pub IsInputIn : Input → Config × Vec (List Entry) Global → Type 0
IsInputIn input read =
    IsInput input.document.now (texts_in input) input.asked.now.cycles input.asked.now.workers.count read.0 read.1.items

-- why the texts of a run, or its folder, are refused
abbrev pub IsInputRefusal : Input → Fault → Type 0
IsInputRefusal input fault =
    IsRunRefusal input.document.now (texts_in input) input.asked.now.cycles input.asked.now.workers.count fault

-- a machine and its traces are what the files of a run describe
abbrev pub ReadsInput : {S O : Type 0} → Files S O → S → RunAsk → Config × Vec (List Entry) Global → Type 0
ReadsInput set files asked read =
    set.tells
    → IsInputOf asked.config.now asked.cycles asked.workers.count (traces_of asked) (set.held files) read.0 read.1.items

-- this is the outcome of the run that this machine and these traces describe, from whatever texts they were read
abbrev pub EndsInput : RunAsk → Config → List (List Entry) → RunOutcome → Type 0
EndsInput asked machine traces =
    HoldsOfInput asked.cycles asked.workers.count machine traces
    (λ config texts. IsRunOf config texts asked.cycles asked.workers.count asked.tables)

-- `check` finds the table of its commands legal
abbrev pub EndsLegally : RunAsk → Config → List (List Entry) → RunOutcome → Type 0
EndsLegally asked machine traces =
    HoldsOfInput asked.cycles asked.workers.count machine traces
    (λ config texts. IsJudgedLegal config texts asked.cycles asked.workers.count asked.tables)

-- the outcome of a run, from its files
abbrev pub ReadsOutcome : {S O : Type 0} → Files S O → S → RunAsk → RunOutcome → Type 0
ReadsOutcome set files asked run =
    set.tells
    → IsOutcome asked.config.now asked.cycles asked.workers.count asked.tables (traces_of asked) (set.held files) run

-- the files of a run can be read, and are right
abbrev pub CanRun : {S O : Type 0} → Files S O → S → RunAsk → Type 0
CanRun set files asked =
    IsReady set.tells (set.held files) (run_paths asked) (IsRightRun asked.cycles asked.workers.count)

-- why a run is refused
abbrev pub RefusesRun : {S O : Type 0} → Files S O → S → RunAsk → Fault → Type 0
RefusesRun set files asked fault =
    IsAnswerFault set.tells (set.held files) (run_paths asked) (IsRunFault asked.cycles asked.workers.count)
    (IsRightRun asked.cycles asked.workers.count) fault

-- the tables of a run are in its folder
abbrev pub EndsRun : {S O : Type 0} → Files S O → S → S → RunAsk → Type 0
EndsRun set old new asked =
    set.tells → IsRunDone asked.config.now asked.cycles asked.workers.count asked.tables asked.out.now (traces_of asked)
    (set.held old) (set.held new) (set.opened old) (set.opened new)

-- what is left of a run that is refused
abbrev pub LeavesRun : {S O : Type 0} → Files S O → S → S → RunAsk → Refusal → Type 0
LeavesRun set old new asked refusal =
    set.tells
    → IsUnfinished refusal asked.config.now asked.cycles asked.workers.count asked.tables asked.out.now
    (traces_of asked)
    (set.has_folder old asked.out.now) (set.held old) (set.held new) (set.opened old) (set.opened new)

-- ---- what is asked

-- a refusal leaves all files as they were, and none was opened to be written
abbrev pub LeavesFiles : {S O : Type 0} → Files S O → S → S → Refusal → Type 0
LeavesFiles set old new refusal =
    set.tells → LeavesAll refusal (set.held old) (set.held new) (set.opened old) (set.opened new)

-- why what is asked is refused
abbrev pub RefusesAsk : {S O : Type 0} → Files S O → S → Ask → Refusal → Type 0
RefusesAsk set files ask refusal = IsAskFault set.tells (set.held files) ask (fault_of refusal)

-- why what words ask for is refused
abbrev pub RefusesWords : {S O : Type 0} → Files S O → S → List (Bor (List ℕ)) → Refusal → Type 0
RefusesWords set files words refusal = IsFaultOf set.tells (set.held files) (texts_of words) (fault_of refusal)

-- there is nothing to warn of, unless the words ask for a page
abbrev pub WarnsOfPages : List (Bor (List ℕ)) → Option LargePage → Type 0
WarnsOfPages words warning = (warning ≡ None) ⊎ AskForPage (texts_of words)

-- the stream of errors was left alone, unless the words ask for a page
abbrev pub IsSilentBut : {E : Type 0} → ErrorStream E → ErrorStream E → List (Bor (List ℕ)) → Type 0
IsSilentBut before after words = (after ≡ before) ⊎ AskForPage (texts_of words)

-- what the words ask for has been done with this status, and a large page is warned of on a stream of errors
abbrev pub Answers : {E : Type 0} → Stream E → ErrorStream E → ErrorStream E → List (Bor (List ℕ)) → ExitStatus → Seen
    → Seen → Type 0
Answers stream before after words status old new =
    IsAnswered (texts_of words) status old new
    (has_refused after) (stream.contents (stream_of before)) (stream.contents (stream_of after))

-- what the words ask for is refused, and why is told on a stream of errors
abbrev pub Tells : {E : Type 0} → Stream E → ErrorStream E → ErrorStream E → Type 0 → List (Bor (List ℕ)) → Seen → Seen
    → Type 0
Tells stream before after tells words old new =
    IsTold tells (texts_of words) old new
    (has_refused after) (stream.contents (stream_of before)) (stream.contents (stream_of after))
