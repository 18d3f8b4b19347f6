-- What an answer is made of, where it goes, and why it is refused, in the words of contracts. There `F.FileSet` is what
-- a set of files says of itself, `files.old` is the set before a call, and `P.Write` is what a stream says of itself. A
-- fact about what files hold is claimed where the set tells.
--     Prints stream old new text      a stream has got this text
--     rows_in requests, text_of document, texts_of paths, path_of path      what stands behind references and in vectors
--     Checks, Maps, Shows, ShowsBanks, Compares set files .. printed      an answer was printed
--     MakesPage set old new ..      a page is in its place
--     CanCheck, CanMap, CanShow, CanPage, CanCompare set files ..      what it is made of can be read, and has no fault
--     BarsCheck, BarsMap, BarsShow, BarsPage, BarsCompare set files .. fault      why what it is made of is refused
--     RefusesCheck, RefusesMap, RefusesShow, RefusesPage, RefusesCompare set files .. fault      why the answer is refused
use Rattle.std.specs.Prelude.{◌≡◌, ◌≢◌, ◌⊎◌, ℕ, List, [], ◌∷◌, ◌++◌, map, option_map, string_bytes, Option, Some, Err, Vec, String}
use Rattle.std.specs.Borrow.{Bor}
use Rattle.std.specs.Io.KnownBytes.{Appends}
use Rattle.std.specs.declared.alloc.Global.{Global}
use Rattle.std.specs.declared.io.Write.{Ghosts as Stream}
use Rattle.compare.specs.declared.layout.Layout.{Layout}
use Rattle.config_reader.specs.Document.{document_of}
use Rattle.page.specs.Rows.{IsOfRunAt}
use Rattle.refusal.specs.declared.warning.LargePage.{LargePage}
use Rattle.request_table.specs.declared.times.RequestTimes.{RequestTimes}
use Rattle.rule_check.specs.Verdict.{records_of, verdict}
use Rattle.rule_check.specs.declared.verdict.Verdict.{Verdict}
use Rattle.sim_base.specs.declared.config.Config.{Config}
use Rattle.sim_base.specs.declared.fault.Fault.{Fault}
use Rattle.sim_base.specs.declared.fault.Fault.TheVariants.{Memory, Write}
use Rattle.sim_base.specs.declared.place.Place.{Place}
use Rattle.statistics.specs.Values.{RunStats}
use Rattle.whole_files.specs.Tables.{path_in, commands_name}
use Rattle.whole_files.specs.WholeFile.{IsUnwritten, IsWhole}
use Rattle.show.specs.declared.options.Options.{Options}
use Rattle.whole_files.specs.declared.files.FileSet.{Ghosts as Files}
use Rattle.answers.specs.Answers.{IsVerdict, IsChecked, IsPlace, IsMapped, IsStatsOf, IsShown, stats_path, stats_table, AreStatsOf, IsCompared}
use Rattle.answers.specs.Banks.{IsShownWithBanks}
use Rattle.answers.specs.Named.{with_config, IsNamedText, IsConfiguredBy, IsConfigured}
use Rattle.answers.specs.Pages.{AreTablesIn, AreTablesAt, NamesStranger, IsPageDone}
use Rattle.answers.specs.Refused.{IsTableFault, IsRightTable, IsMapFault, IsRightMap, IsShowFault, HoldRun, IsNoShow, IsRightShow, IsPageFault, HoldRunTables, IsNoPage, IsRightPage, IsCompareFault, HoldRuns, IsNoComparison, IsRightCompare, IsFilesFault, IsInputFault, IsReady, IsAnswerFault}
use Rattle.answers.specs.Requests.{requests_path, AreRequestsAt, AreRequestsRefused, AddsRequests, IsRunScreen, IsRunBanksScreen, IsScreenAt, IsBanksScreenAt, HoldsSomeRequests, IsTailIn, IsFolderRefused, AreTails}
use Rattle.answers.specs.declared.comparisons.StatsTable.{StatsTable}
use Rattle.answers.specs.declared.described.FileText.{FileText}
use Rattle.answers.specs.declared.described.RunRecord.{RunRecord}
use Rattle.answers.specs.declared.folder.RunFolder.{RunFolder}
use Rattle.answers.specs.declared.pages.Page.{Page}
use Rattle.answers.specs.declared.tables.RunTables.{RunTables}
use Rattle.sim_base.specs.Texts.{texts_of}

-- ---- what stands behind references and in vectors

-- the requests that were read, where there is a table of them
abbrev pub rows_in : Option (Vec RequestTimes Global) → Option (List RequestTimes)
rows_in requests = option_map (λ r. r.items) requests

-- the text of a file, where one is named
abbrev pub text_of : Option FileText → Option (List ℕ)
text_of document = option_map (λ d. d.bytes.items) document

-- a path, where one is named
abbrev pub path_of : Option (Bor (List ℕ)) → Option (List ℕ)
path_of path = option_map (λ p. p.now) path

-- the files of the statistics in folders
abbrev pub stats_paths : List (Bor (List ℕ)) → List (List ℕ)
stats_paths dirs = map (λ d. stats_path d.now) dirs

-- the file of the commands in a folder
abbrev pub commands_path : List ℕ → List ℕ
commands_path dir = path_in dir commands_name

-- ---- streams

-- a stream has got this text
abbrev pub Prints : {P : Type 0} → Stream P → P → P → List ℕ → Type 0
Prints stream old new text = Appends (stream.contents old) (stream.contents new) text

-- ---- files that are read

-- memory was refused, or one of these files cannot be read
abbrev pub IsUnread : {S O : Type 0} → Files S O → S → List (List ℕ) → Fault → Type 0
IsUnread set files paths fault = IsFilesFault set.tells (set.held files) paths fault

-- memory was refused, or the file of a configuration cannot be read, where one is named
abbrev pub IsUnreadConfig : {S O : Type 0} → Files S O → S → Option (Bor (List ℕ)) → Fault → Type 0
IsUnreadConfig set files config fault = IsUnread set files (with_config (path_of config) []) fault

-- a file holds this text; none where it cannot be read
abbrev pub IsTextAt : {S O : Type 0} → Files S O → S → List ℕ → Option (Vec ℕ Global) → Type 0
IsTextAt set files path text = set.tells → set.held files path ≡ option_map (λ t. t.items) text

-- the file of a configuration holds this, where one is named
abbrev pub IsDocumentAt : {S O : Type 0} → Files S O → S → Option (Bor (List ℕ)) → Option FileText → Type 0
IsDocumentAt set files config found = IsNamedText set.tells (set.held files) (path_of config) (text_of found)

-- one path more was opened to be written
abbrev pub OpensOne : {S O : Type 0} → Files S O → S → S → List ℕ → Type 0
OpensOne set old new path = set.tells → set.opened new ≡ set.opened old ++ path ∷ []

-- a file is not in its place, and nothing is left of it
abbrev pub LeavesUnwritten : {S O : Type 0} → Files S O → S → S → List ℕ → Type 0
LeavesUnwritten set old new file =
    set.tells → IsUnwritten file (set.held old) (set.held new) (set.opened old) (set.opened new)

-- ---- texts that are read

-- memory was refused, or this is the first fault of a configuration
abbrev pub IsConfigRefusal : List ℕ → Fault → Type 0
IsConfigRefusal document fault = fault ≢ Memory → document_of document ≡ Err fault

-- memory was refused, or this is the fault of the first row of a table of commands that is malformed
abbrev pub IsVerdictRefusal : Config → List ℕ → Fault → Type 0
IsVerdictRefusal machine table fault = fault ≢ Memory → verdict machine (records_of table) ≡ Err fault

-- a run has the configuration that a document describes, where there is one, and fits it
abbrev pub IsRunUnder : Option (List ℕ) → RunRecord → Type 0
IsRunUnder document run = IsConfiguredBy document run.stats run.config

-- memory was refused, or this is wrong with the configuration, where there is one, or else with the table of a run's
-- statistics
abbrev pub IsNoRun : Option (List ℕ) → List ℕ → Fault → Type 0
IsNoRun document table fault = (fault ≡ Memory) ⊎ IsShowFault (with_config document (table ∷ [])) fault

-- two files hold the tables of a run
abbrev pub HoldTables : FileText → FileText → RunTables → Type 0
HoldTables stats commands found = AreTablesIn stats.bytes.items commands.bytes.items found.run.stats found.commands

-- each command is of the run
abbrev pub HasOwnCommands : RunTables → Type 0
HasOwnCommands found = (place : ℕ) → IsOfRunAt found.run.stats found.commands place

-- a fault names the first command that is not of the run
abbrev pub HasStrangers : RunTables → Fault → Type 0
HasStrangers found fault = NamesStranger found.run.stats found.commands fault

-- memory was refused, or this is wrong with the configuration, where there is one, or else with the tables of a run
abbrev pub AreNoTables : Option (List ℕ) → FileText → FileText → Fault → Type 0
AreNoTables document stats commands fault =
    (fault ≡ Memory) ⊎ IsPageFault (with_config document (stats.bytes.items ∷ commands.bytes.items ∷ [])) fault

-- ---- check

-- the verdict on a table of commands under a configuration, from their files
abbrev pub IsVerdictAt : {S O : Type 0} → Files S O → S → List ℕ → List ℕ → Verdict → Type 0
IsVerdictAt set files config commands found = set.tells → IsVerdict config commands (set.held files) found

-- the verdict was printed
abbrev pub Checks : {S O : Type 0} → Files S O → S → List ℕ → List ℕ → (List ℕ → Type 0) → Verdict → Type 0
Checks set files config commands printed found = set.tells → IsChecked config commands found (set.held files) printed

-- a configuration and a table of commands can be read, and the table has a verdict
abbrev pub CanCheck : {S O : Type 0} → Files S O → S → List ℕ → List ℕ → Type 0
CanCheck set files config commands = IsReady set.tells (set.held files) (config ∷ commands ∷ []) IsRightTable

-- why a table of commands gets no verdict
abbrev pub BarsCheck : {S O : Type 0} → Files S O → S → List ℕ → List ℕ → Fault → Type 0
BarsCheck set files config commands fault =
    IsInputFault set.tells (set.held files) (config ∷ commands ∷ []) IsTableFault fault

-- why no verdict is printed
abbrev pub RefusesCheck : {S O : Type 0} → Files S O → S → List ℕ → List ℕ → Fault → Type 0
RefusesCheck set files config commands fault =
    IsAnswerFault set.tells (set.held files) (config ∷ commands ∷ []) IsTableFault IsRightTable fault

-- ---- map

-- how many ranks there are under a configuration, and the place of an address, from its file
abbrev pub LiesAt : {S O : Type 0} → Files S O → S → List ℕ → ℕ → ℕ × Place → Type 0
LiesAt set files config address found = set.tells → IsPlace config address (set.held files) found.0 found.1

-- the place of an address was printed
abbrev pub Maps : {S O : Type 0} → Files S O → S → List ℕ → ℕ → (List ℕ → Type 0) → Type 0
Maps set files config address printed = set.tells → IsMapped config address (set.held files) printed

-- a configuration can be read, and is right
abbrev pub CanMap : {S O : Type 0} → Files S O → S → List ℕ → Type 0
CanMap set files config = IsReady set.tells (set.held files) (config ∷ []) IsRightMap

-- why an address gets no place
abbrev pub BarsMap : {S O : Type 0} → Files S O → S → List ℕ → Fault → Type 0
BarsMap set files config fault = IsInputFault set.tells (set.held files) (config ∷ []) IsMapFault fault

-- why no place is printed
abbrev pub RefusesMap : {S O : Type 0} → Files S O → S → List ℕ → Fault → Type 0
RefusesMap set files config fault = IsAnswerFault set.tells (set.held files) (config ∷ []) IsMapFault IsRightMap fault

-- ---- requests

-- these are the requests of a run, from the file of their table; none where there is none
abbrev pub ReadsRequests : {S O : Type 0} → Files S O → S → List ℕ → RunStats → Option (Vec RequestTimes Global)
    → Type 0
ReadsRequests set files path stats found = set.tells → AreRequestsAt (set.held files path) stats (rows_in found)

-- these are the requests of a run, from its folder; none where that has no table of them
abbrev pub FindsRequests : {S O : Type 0} → Files S O → S → List ℕ → RunStats → Option (Vec RequestTimes Global)
    → Type 0
FindsRequests set files dir stats found = ReadsRequests set files (requests_path dir) stats found

-- why the file of a table of requests gives none of a run
abbrev pub BarsRequests : {S O : Type 0} → Files S O → S → List ℕ → RunStats → Fault → Type 0
BarsRequests set files path stats fault = AreRequestsRefused set.tells (set.held files) path stats fault

-- why the table of requests in a folder gives none of a run
abbrev pub BarsRequestsIn : {S O : Type 0} → Files S O → S → List ℕ → RunStats → Fault → Type 0
BarsRequestsIn set files dir stats fault = BarsRequests set files (requests_path dir) stats fault

-- a folder has the requests of a run, or none
abbrev pub FindsSomeRequests : {S O : Type 0} → Files S O → S → List ℕ → RunStats → Type 0
FindsSomeRequests set files dir stats = set.tells → HoldsSomeRequests (set.held files (requests_path dir)) stats

-- a screen has got what there is to say of requests
abbrev pub GetsRequests : RunStats → Options → Option (Vec RequestTimes Global) → String Global → String Global → Type 0
GetsRequests stats options requests old new =
    AddsRequests stats options (rows_in requests) (string_bytes old) (string_bytes new)

-- ---- show

-- the statistics of a run, from the file of their table
abbrev pub IsRunAt : {S O : Type 0} → Files S O → S → List ℕ → RunRecord → Type 0
IsRunAt set files path run = set.tells → IsStatsOf path (set.held files) run.stats

-- a run fits the configuration that a file holds, where one is named
abbrev pub RunFits : {S O : Type 0} → Files S O → S → Option (Bor (List ℕ)) → RunRecord → Type 0
RunFits set files config run = set.tells → IsConfigured (path_of config) (set.held files) run.stats run.config

-- the table of a run's statistics can be read, and is right, and so is the configuration that is named, if one is
abbrev pub CanShow : {S O : Type 0} → Files S O → S → Option (Bor (List ℕ)) → List ℕ → RunRecord → Type 0
CanShow set files config path run =
    IsReady set.tells (set.held files) (with_config (path_of config) (path ∷ [])) (λ texts. HoldRun texts run.stats)

-- why it is refused
abbrev pub BarsShow : {S O : Type 0} → Files S O → S → Option (Bor (List ℕ)) → List ℕ → Fault → Type 0
BarsShow set files config path fault =
    IsInputFault set.tells (set.held files) (with_config (path_of config) (path ∷ [])) IsShowFault fault

-- both of a folder
abbrev pub CanShowIn : {S O : Type 0} → Files S O → S → RunFolder → RunRecord → Type 0
CanShowIn set files folder run = CanShow set files folder.config (stats_path folder.dir.now) run

abbrev pub BarsShowIn : {S O : Type 0} → Files S O → S → RunFolder → Fault → Type 0
BarsShowIn set files folder fault = BarsShow set files folder.config (stats_path folder.dir.now) fault

-- the screen of a run, with what there is to say of its requests
abbrev pub IsScreenOf : RunRecord → Options → Option (Vec RequestTimes Global) → String Global → Type 0
IsScreenOf run options requests text = IsRunScreen run.stats options run.config (rows_in requests) (string_bytes text)

-- the screen of the run in a folder, with what there is to say of its requests
abbrev pub IsScreenIn : {S O : Type 0} → Files S O → S → List ℕ → RunRecord → Options → String Global → Type 0
IsScreenIn set files dir run options text =
    set.tells → IsScreenAt (set.held files (requests_path dir)) run.stats options run.config (string_bytes text)

-- the screen of the run in a folder was printed
abbrev pub Shows : {S O : Type 0} → Files S O → S → RunFolder → Options → (List ℕ → Type 0) → Type 0
Shows set files folder options printed =
    set.tells → IsShown folder.dir.now (path_of folder.config) options (set.held files) printed

-- why no screen of a run is printed
abbrev pub RefusesShow : {S O : Type 0} → Files S O → S → RunFolder → Fault → Type 0
RefusesShow set files folder fault =
    IsAnswerFault set.tells (set.held files) (with_config (path_of folder.config) (stats_path folder.dir.now ∷ []))
    (IsNoShow set.tells (set.held files) folder.dir.now) (IsRightShow set.tells (set.held files) folder.dir.now) fault

-- ---- show --banks, and page

-- the tables of a run, from their files
abbrev pub AreTablesOf : {S O : Type 0} → Files S O → S → List ℕ → List ℕ → RunTables → Type 0
AreTablesOf set files stats commands found =
    set.tells → AreTablesAt stats commands (set.held files) found.run.stats found.commands

-- the tables of a run, from its folder
abbrev pub AreTablesInFolder : {S O : Type 0} → Files S O → S → RunFolder → RunTables → Type 0
AreTablesInFolder set files folder found =
    AreTablesOf set files (stats_path folder.dir.now) (commands_path folder.dir.now) found

-- the tables of a run can be read, and are right, and so is the configuration that is named, if one is
abbrev pub CanPage : {S O : Type 0} → Files S O → S → Option (Bor (List ℕ)) → List ℕ → List ℕ → RunTables → Type 0
CanPage set files config stats commands found =
    IsReady set.tells (set.held files) (with_config (path_of config) (stats ∷ commands ∷ []))
    (λ texts. HoldRunTables texts found.run.stats)

-- why they are refused
abbrev pub BarsPage : {S O : Type 0} → Files S O → S → Option (Bor (List ℕ)) → List ℕ → List ℕ → Fault → Type 0
BarsPage set files config stats commands fault =
    IsInputFault set.tells (set.held files) (with_config (path_of config) (stats ∷ commands ∷ [])) IsPageFault fault

-- both of a folder
abbrev pub CanPageIn : {S O : Type 0} → Files S O → S → RunFolder → RunTables → Type 0
CanPageIn set files folder found =
    CanPage set files folder.config (stats_path folder.dir.now) (commands_path folder.dir.now) found

abbrev pub BarsPageIn : {S O : Type 0} → Files S O → S → RunFolder → Fault → Type 0
BarsPageIn set files folder fault =
    BarsPage set files folder.config (stats_path folder.dir.now) (commands_path folder.dir.now) fault

-- the screen of a run and its banks, with what there is to say of its requests
abbrev pub IsBanksScreenOf : RunTables → Options → Option (Vec RequestTimes Global) → String Global → Type 0
IsBanksScreenOf found options requests text =
    IsRunBanksScreen found.run.stats found.commands options found.run.config (rows_in requests) (string_bytes text)

-- the screen of the run in a folder and its banks, with what there is to say of its requests
abbrev pub IsBanksScreenIn : {S O : Type 0} → Files S O → S → List ℕ → RunTables → Options → String Global → Type 0
IsBanksScreenIn set files dir found options text =
    set.tells
    → IsBanksScreenAt (set.held files (requests_path dir)) found.run.stats found.commands options found.run.config
    (string_bytes text)

-- why no page is made of the tables of the run in a folder: its requests are refused; or they are not, and a writer is
abbrev pub BarsPageOf : {S O : Type 0} → Files S O → S → List ℕ → RunTables → Fault → Type 0
BarsPageOf set files dir found fault =
    BarsRequestsIn set files dir found.run.stats fault
    ⊎ ((fault ≡ Write) × FindsSomeRequests set files dir found.run.stats)

-- a page is in its place, with this warning
abbrev pub PutsPage : {S O : Type 0} → Files S O → S → S → List ℕ → Option LargePage → Page → Type 0
PutsPage set old new file warning page =
    (warning ≡ page.warning) × (set.tells → IsWhole file page.text.items (set.held old) (set.held new))

-- the screen of the run in a folder and its banks was printed
abbrev pub ShowsBanks : {S O : Type 0} → Files S O → S → RunFolder → Options → (List ℕ → Type 0) → Type 0
ShowsBanks set files folder options printed =
    set.tells → IsShownWithBanks folder.dir.now (path_of folder.config) options (set.held files) printed

-- the page of the run in a folder is in its place, with this warning of its length
abbrev pub MakesPage : {S O : Type 0} → Files S O → S → S → RunFolder → List ℕ → Option LargePage → Type 0
MakesPage set old new folder file warning =
    set.tells → IsPageDone folder.dir.now file (path_of folder.config) warning (set.held old) (set.held new)

-- why nothing is made of the tables in a folder
abbrev pub RefusesPage : {S O : Type 0} → Files S O → S → RunFolder → Fault → Type 0
RefusesPage set files folder fault =
    IsAnswerFault set.tells (set.held files)
    (with_config (path_of folder.config) (stats_path folder.dir.now ∷ commands_path folder.dir.now ∷ []))
    (IsNoPage set.tells (set.held files) folder.dir.now) (IsRightPage set.tells (set.held files) folder.dir.now) fault

-- ---- compare

-- the table of statistics in a folder
abbrev pub IsTableIn : {S O : Type 0} → Files S O → S → List ℕ → StatsTable → Type 0
IsTableIn set files dir table = set.tells → set.held files (stats_path dir) ≡ Some table.bytes.items

-- the tables of statistics in folders
abbrev pub AreStatsTablesIn : {S O : Type 0} → Files S O → S → List (Bor (List ℕ)) → Vec StatsTable Global → Type 0
AreStatsTablesIn set files dirs tables =
    set.tells → map (λ d. set.held files (stats_path d.now)) dirs ≡ map (λ t. Some t.bytes.items) tables.items

-- the statistics that tables hold
abbrev pub GiveRuns : List StatsTable → Vec RunStats Global → Type 0
GiveRuns tables runs = map (λ t. records_of t.bytes.items) tables ≡ map stats_table runs.items

-- memory was refused, or this is wrong with the first table that is refused
abbrev pub GiveNoRuns : List StatsTable → Fault → Type 0
GiveNoRuns tables fault = (fault ≡ Memory) ⊎ IsCompareFault (map (λ t. t.bytes.items) tables) fault

-- the statistics of the runs in folders
abbrev pub AreRunsIn : {S O : Type 0} → Files S O → S → List (Bor (List ℕ)) → Vec RunStats Global → Type 0
AreRunsIn set files dirs runs = set.tells → AreStatsOf (texts_of dirs) (set.held files) runs.items

-- the tables of the runs in folders can be read, and are right
abbrev pub CanCompare : {S O : Type 0} → Files S O → S → List (Bor (List ℕ)) → Vec RunStats Global → Type 0
CanCompare set files dirs runs =
    IsReady set.tells (set.held files) (stats_paths dirs) (λ texts. HoldRuns texts runs.items)

-- why they are refused
abbrev pub BarsCompare : {S O : Type 0} → Files S O → S → List (Bor (List ℕ)) → Fault → Type 0
BarsCompare set files dirs fault = IsInputFault set.tells (set.held files) (stats_paths dirs) IsCompareFault fault

-- the 99th percentile of the read latencies of a run, from its folder, if this has a table of requests
abbrev pub IsTailInFolder : {S O : Type 0} → Files S O → S → List ℕ → RunStats → Option (Option ℕ) → Type 0
IsTailInFolder set files dir stats found = set.tells → IsTailIn (set.held files (requests_path dir)) stats found

-- the 99th percentile of each of the runs in folders, if each has a table of requests; else none
abbrev pub AreTailsIn : {S O : Type 0} → Files S O → S → List (Bor (List ℕ)) → List RunStats → Vec (Option ℕ) Global
    → Type 0
AreTailsIn set files dirs runs tails = set.tells → AreTails (texts_of dirs) (set.held files) runs tails.items

-- why there are none: memory was refused, or the requests in a folder are
abbrev pub BarsTails : {S O : Type 0} → Files S O → S → List (Bor (List ℕ)) → List RunStats → Fault → Type 0
BarsTails set files dirs runs fault =
    (fault ≡ Memory) ⊎ IsFolderRefused set.tells (set.held files) (texts_of dirs) runs fault

-- the comparison of the runs in folders was printed
abbrev pub Compares : {S O : Type 0} → Files S O → S → List (Bor (List ℕ)) → Layout → (List ℕ → Type 0) → Type 0
Compares set files dirs layout printed = set.tells → IsCompared (texts_of dirs) layout (set.held files) printed

-- why no comparison is printed
abbrev pub RefusesCompare : {S O : Type 0} → Files S O → S → List (Bor (List ℕ)) → Fault → Type 0
RefusesCompare set files dirs fault =
    IsAnswerFault set.tells (set.held files) (stats_paths dirs)
    (IsNoComparison set.tells (set.held files) (texts_of dirs))
    (IsRightCompare set.tells (set.held files) (texts_of dirs)) fault
