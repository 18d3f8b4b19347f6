-- What the words of a command line ask for. The first word is the name of the program.
--     is_taken words      the command line takes the words
--     command_of words      the command that they name, with a row for each of its arguments
--     kinds_of_fault words      why it may not take them
--     IsCallForHelp words, IsCallForVersion words      they call for help, or for the version
--     NamesCommand words ask      they have no fault, and name the command that is asked for
--     IsAskedBy words ask      they ask for this
--     GivesAll command      each argument that the command needs is there
--     HasBadWord command      a word of the command means nothing where it stands, or a `compare` has one run alone
--     IsAnswerTo words result      an answer to words that the command line takes
use Rattle.std.specs.Prelude.{◌≡◌, ◌≢◌, ◌⊎◌, ℕ, ◌<◌, ◌≤◌, ◌^◌, ⊤, Bool, true, false, List, [], ◌∷◌, length, map, option_map, codes, string_bytes, Option, Some, None, Result, Ok, Err, IsSome, IsErr}
use Rattle.std.specs.Str.Parse.{IsNumeral, digits_value, without_leading_plus}
use Rattle.clap.specs.Words.{Row, Text, all_of, fault_of, first_of, one_of, subcommand_of, takes, Kinds, IsAmong}
use Rattle.clap.specs.declared.error.kind.ErrorKind.{ErrorKind}
use Rattle.clap.specs.declared.error.kind.ErrorKind.TheVariants.{DisplayHelp, DisplayVersion, OutOfMemory}
use Rattle.sim_base.specs.declared.fault.Fault.{Fault}
use Rattle.sim_base.specs.declared.fault.Fault.TheVariants.{Memory, CommandLine}
use Rattle.command_line.specs.Clock.{clock_of}
use Rattle.command_line.specs.Tables.{tables_of}
use Rattle.statistics.specs.Outcomes.{usual_tables}
use Rattle.statistics.specs.declared.tables.Tables.{Tables}
use Rattle.command_line.specs.CommandLine.{program_app}
use Rattle.sim_base.specs.TraceText.{number_of}
use Rattle.command_line.specs.declared.words.Ask.{Ask}
use Rattle.command_line.specs.declared.words.Ask.TheVariants.{Run, Check, Map, Show, ShowBanks, Page, Compare, Help, Version}
use Rattle.command_line.specs.declared.words.Share.{Share}
use Rattle.command_line.specs.declared.words.Share.TheVariants.{Auto, Always}

-- the command line takes the words
unfoldable pub is_taken : List Text → Bool
is_taken words = takes program_app words

-- the command that the words name, and a row for each of its arguments
unfoldable pub command_of : List Text → Option (Text × List Row)
command_of words = subcommand_of program_app words

-- why the command line may not take the words; a call for help is among these
unfoldable pub kinds_of_fault : List Text → Kinds
kinds_of_fault words = fault_of program_app words

-- the words call for help, as by `--help`, before anything in them is wrong
abbrev pub IsCallForHelp : List Text → Type 0
IsCallForHelp words = kinds_of_fault words ≡ DisplayHelp ∷ []

-- the words call for the version, as by `--version`, before anything in them is wrong
abbrev pub IsCallForVersion : List Text → Type 0
IsCallForVersion words = kinds_of_fault words ≡ DisplayVersion ∷ []

-- a text is a number of 64 bits: decimal digits alone, with or without a leading plus
abbrev pub IsCountText : Option Text → Type 0
IsCountText None = ⊥
IsCountText (Some text) =
    IsNumeral 10 (without_leading_plus text) × (digits_value 10 (without_leading_plus text) < 2 ^ 64)

-- the text is a number of 64 bits, and it is this number
abbrev pub IsCount : Option Text → ℕ → Type 0
IsCount None n = ⊥
IsCount (Some text) n = IsCountText (Some text) × (n ≡ digits_value 10 (without_leading_plus text))

-- the text is a number of 64 bits, and it is this number; or there is no text, and this number stands for it
abbrev pub IsCountOr : ℕ → Option Text → ℕ → Type 0
IsCountOr absent None n = n ≡ absent
IsCountOr absent (Some text) n = IsCount (Some text) n

-- the number that a text is, read as in a trace
abbrev pub IsAddress : Option Text → ℕ → Type 0
IsAddress None n = ⊥
IsAddress (Some text) n = number_of text ≡ Ok n

-- when workers share a machine out, as the word of `--share` says; without it `Auto`
abbrev pub IsShare : Option Text → Share → Type 0
IsShare None share = share ≡ Auto
IsShare (Some word) Auto = word ≡ codes "auto"
IsShare (Some word) Always = word ≡ codes "always"

-- the tables that are asked for, as the word of `--tables` lists them; without it the usual ones
abbrev pub IsTables : Option Text → Tables → Type 0
IsTables None tables = tables ≡ usual_tables
IsTables (Some word) tables = tables_of word ≡ Some tables

-- the frequency of a clock in kHz, if there is a text, which must state it
abbrev pub IsClock : Option Text → Option ℕ → Type 0
IsClock None khz = khz ≡ None
IsClock (Some text) khz = (khz ≡ clock_of text) × IsSome khz

-- whether a flag is set, as its text says
pub record IsFlag (o : Option Text) (set : Bool) : Type 0 where
  pub none : o ≡ None → set ≡ false
  pub set_by : o ≡ Some (codes "true") → set ≡ true
  pub unset_by : o ≡ Some (codes "false") → set ≡ false

-- a run with these values
pub record IsRun (rows : List Row) (config : Text) (cycles workers : ℕ) (share : Share) (tables : Tables) (out : Text)
    (traces : List Text) : Type 0 where
  pub config_is : first_of (codes "config") rows ≡ Some config
  pub cycles_is : IsCount (one_of (codes "cycles") rows) cycles
  pub workers_is : IsCount (one_of (codes "workers") rows) workers
  pub share_is : IsShare (first_of (codes "share") rows) share
  pub tables_are : IsTables (first_of (codes "tables") rows) tables
  pub out_is : first_of (codes "out") rows ≡ Some out
  pub traces_is : all_of (codes "trace") rows ≡ Some traces

-- a check with these values
pub record IsCheck (rows : List Row) (config commands : Text) : Type 0 where
  pub config_is : first_of (codes "config") rows ≡ Some config
  pub commands_is : first_of (codes "commands") rows ≡ Some commands

-- a map with these values
pub record IsMap (rows : List Row) (config : Text) (address : ℕ) : Type 0 where
  pub config_is : first_of (codes "config") rows ≡ Some config
  pub address_is : IsAddress (first_of (codes "address") rows) address

-- a show with these values, with or without the banks
pub record IsShow (rows : List Row) (banks : Bool) (dir : Text) (all : Bool) (config : Option Text) (khz : Option ℕ)
    : Type 0 where
  pub dir_is : first_of (codes "dir") rows ≡ Some dir
  pub all_is : IsFlag (one_of (codes "all") rows) all
  pub banks_is : IsFlag (one_of (codes "banks") rows) banks
  pub config_is : first_of (codes "config") rows ≡ config
  pub clock_is : IsClock (first_of (codes "mhz") rows) khz

-- a page with these values: its timeline is of the first 2,000 cycles unless the words say otherwise
pub record IsPage (rows : List Row) (dir file : Text) (config : Option Text) (khz : Option ℕ) (from cycles : ℕ)
    : Type 0 where
  pub dir_is : first_of (codes "dir") rows ≡ Some dir
  pub file_is : first_of (codes "file") rows ≡ Some file
  pub config_is : first_of (codes "config") rows ≡ config
  pub clock_is : IsClock (first_of (codes "mhz") rows) khz
  pub from_is : IsCountOr 0 (one_of (codes "from") rows) from
  pub cycles_is : IsCountOr 2000 (one_of (codes "cycles") rows) cycles

-- the folders of runs, two or more
pub record AreRuns (texts : Option (List Text)) (dirs : List Text) : Type 0 where
  pub texts_are : texts ≡ Some dirs
  pub several : 1 < length dirs

-- a comparison with these values
pub record IsCompare (rows : List Row) (dirs : List Text) (csv : Bool) : Type 0 where
  pub dirs_are : AreRuns (all_of (codes "dir") rows) dirs
  pub csv_is : IsFlag (one_of (codes "csv") rows) csv

-- the command of this name, with these rows, is what is asked for
abbrev pub IsCommand : Text → List Row → Ask → Type 0
IsCommand name rows (Run run) =
    (name ≡ codes "run")
    × IsRun rows run.config.now run.cycles run.workers run.share run.tables run.out.now
    (map (λ t. t.now) run.traces.items)
IsCommand name rows (Check config commands) = (name ≡ codes "check") × IsCheck rows config.now commands.now
IsCommand name rows (Map config address) = (name ≡ codes "map") × IsMap rows config.now address
IsCommand name rows (Show show) =
    (name ≡ codes "show") × IsShow rows false show.dir.now show.all (option_map (λ c. c.now) show.config) show.khz
IsCommand name rows (ShowBanks show) =
    (name ≡ codes "show") × IsShow rows true show.dir.now show.all (option_map (λ c. c.now) show.config) show.khz
IsCommand name rows (Page page) =
    (name ≡ codes "page")
    × IsPage rows page.dir.now page.file.now (option_map (λ c. c.now) page.config) page.khz page.from page.cycles
IsCommand name rows (Compare dirs csv) = (name ≡ codes "compare") × IsCompare rows (map (λ t. t.now) dirs.items) csv
IsCommand name rows (Help text) = ⊥
IsCommand name rows (Version text) = ⊥

abbrev pub IsCommandOf : Option (Text × List Row) → Ask → Type 0
IsCommandOf None ask = ⊥
IsCommandOf (Some command) ask = IsCommand command.0 command.1 ask

-- a text that answers a call for help
abbrev pub IsHelp : Ask → Type 0
IsHelp (Help text) = ⊤
IsHelp _ = ⊥

-- the line that tells the name of the program and its version
abbrev pub version_line : Text
version_line = codes "dramsim 1.0.0\n"

-- the text that answers a call for the version
abbrev pub IsVersion : Ask → Type 0
IsVersion (Version text) = string_bytes text ≡ version_line
IsVersion _ = ⊥

-- the text that answers an error of this kind
abbrev pub IsShown : Ask → ErrorKind → Type 0
IsShown (Help text) kind = kind ≡ DisplayHelp
IsShown (Version text) kind = (kind ≡ DisplayVersion) × (string_bytes text ≡ version_line)
IsShown _ kind = ⊥

-- help, or out of memory for its text
abbrev pub IsHelpUnlessMemory : Result Ask Fault → Type 0
IsHelpUnlessMemory (Ok ask) = IsHelp ask
IsHelpUnlessMemory (Err fault) = fault ≡ Memory

-- the version, or out of memory for its text
abbrev pub IsVersionUnlessMemory : Result Ask Fault → Type 0
IsVersionUnlessMemory (Ok ask) = IsVersion ask
IsVersionUnlessMemory (Err fault) = fault ≡ Memory

-- an error that is neither a call for help or for the version nor out of memory
pub record IsNoHelp (kind : ErrorKind) : Type 0 where
  pub no_help : kind ≢ DisplayHelp
  pub no_version : kind ≢ DisplayVersion
  pub no_memory : kind ≢ OutOfMemory

-- the command line finds no fault in the words, and they name the command that is asked for, with its values
pub record NamesCommand (words : List Text) (ask : Ask) : Type 0 where
  pub faultless : kinds_of_fault words ≡ []
  pub command_is : IsCommandOf (command_of words) ask

-- the words have no fault and name the command that is asked for, with its values; or they call for help or for the
-- version, whose text is the line that tells it
abbrev pub IsAskedBy : List Text → Ask → Type 0
IsAskedBy words (Help text) = IsAmong DisplayHelp (kinds_of_fault words)
IsAskedBy words (Version text) = IsAmong DisplayVersion (kinds_of_fault words) × (string_bytes text ≡ version_line)
IsAskedBy words ask = NamesCommand words ask

-- a text, if there is one, is a number of 64 bits
abbrev pub IsNoneOrCount : Option Text → Type 0
IsNoneOrCount None = ⊤
IsNoneOrCount (Some text) = IsCountText (Some text)

-- each argument that a run needs is there
pub record GivesRun (rows : List Row) : Type 0 where
  pub config : IsSome (first_of (codes "config") rows)
  pub cycles : IsCountText (one_of (codes "cycles") rows)
  pub workers : IsCountText (one_of (codes "workers") rows)
  pub out : IsSome (first_of (codes "out") rows)
  pub traces : IsSome (all_of (codes "trace") rows)

-- each argument of a check is there
pub record GivesCheck (rows : List Row) : Type 0 where
  pub config : IsSome (first_of (codes "config") rows)
  pub commands : IsSome (first_of (codes "commands") rows)

-- each argument of a map is there
pub record GivesMap (rows : List Row) : Type 0 where
  pub config : IsSome (first_of (codes "config") rows)
  pub address : IsSome (first_of (codes "address") rows)

-- the argument that a show needs is there
pub record GivesShow (rows : List Row) : Type 0 where
  pub dir : IsSome (first_of (codes "dir") rows)

-- the arguments that a page needs are there, and those that it may have are numbers
pub record GivesPage (rows : List Row) : Type 0 where
  pub dir : IsSome (first_of (codes "dir") rows)
  pub file : IsSome (first_of (codes "file") rows)
  pub from : IsNoneOrCount (one_of (codes "from") rows)
  pub cycles : IsNoneOrCount (one_of (codes "cycles") rows)

-- the folders that a comparison needs are there
pub record GivesCompare (rows : List Row) : Type 0 where
  pub dirs : IsSome (all_of (codes "dir") rows)

-- the text of an address is no number of a trace
abbrev pub IsNoAddress : Option Text → Type 0
IsNoAddress None = ⊥
IsNoAddress (Some text) = IsErr (number_of text)

-- the word of `--share` is there, and says nothing
abbrev pub IsNoShare : Option Text → Type 0
IsNoShare None = ⊥
IsNoShare (Some word) = (word ≢ codes "auto") × (word ≢ codes "always")

-- the word of `--tables` is there, and lists no tables
abbrev pub IsNoTables : Option Text → Type 0
IsNoTables None = ⊥
IsNoTables (Some word) = tables_of word ≡ None

-- a word of a run means nothing: that of `--share` or that of `--tables`
abbrev pub IsBadRun : List Row → Type 0
IsBadRun rows = IsNoShare (first_of (codes "share") rows) ⊎ IsNoTables (first_of (codes "tables") rows)

-- the word of `--mhz` is there, and states no frequency
abbrev pub IsNoClock : Option Text → Type 0
IsNoClock None = ⊥
IsNoClock (Some word) = clock_of word ≡ None

-- there are no two folders
abbrev pub IsAlone : Option (List Text) → Type 0
IsAlone None = ⊤
IsAlone (Some dirs) = length dirs ≤ 1

-- the command is a `map` of something that is not a number, a `run` whose `--share` or `--tables` says nothing that it
-- knows, a `show` or a `page` whose `--mhz` states no frequency, or a `compare` of one run
abbrev pub HasBadWord : Option (Text × List Row) → Type 0
HasBadWord None = ⊥
HasBadWord (Some command) =
    ((command.0 ≡ codes "map") × IsNoAddress (first_of (codes "address") command.1))
    ⊎ ((command.0 ≡ codes "run") × IsBadRun command.1)
    ⊎ ((command.0 ≡ codes "show") × IsNoClock (first_of (codes "mhz") command.1))
    ⊎ ((command.0 ≡ codes "page") × IsNoClock (first_of (codes "mhz") command.1))
    ⊎ ((command.0 ≡ codes "compare") × IsAlone (all_of (codes "dir") command.1))

-- each argument that the command needs is there
abbrev pub GivesAll : Option (Text × List Row) → Type 0
GivesAll None = ⊥
GivesAll (Some command) =
    ((command.0 ≡ codes "run") × GivesRun command.1) ⊎ ((command.0 ≡ codes "check") × GivesCheck command.1)
    ⊎ ((command.0 ≡ codes "map") × GivesMap command.1) ⊎ ((command.0 ≡ codes "show") × GivesShow command.1)
    ⊎ ((command.0 ≡ codes "page") × GivesPage command.1) ⊎ ((command.0 ≡ codes "compare") × GivesCompare command.1)

-- why a command is refused that has each argument: out of memory, or a word that means nothing
abbrev pub IsCommandFault : Option (Text × List Row) → Fault → Type 0
IsCommandFault command Memory = ⊤
IsCommandFault command CommandLine = HasBadWord command
IsCommandFault command _ = ⊥

-- an answer to words that the command line takes: a command, or the refusal of one that has each argument
abbrev pub IsAnswerTo : List Text → Result Ask Fault → Type 0
IsAnswerTo words (Ok (Help text)) = ⊥
IsAnswerTo words (Ok (Version text)) = ⊥
IsAnswerTo words (Ok ask) = ⊤
IsAnswerTo words (Err fault) = IsCommandFault (command_of words) fault

-- memory was refused, or the words are none that the program knows
abbrev pub IsWordsFault : Fault → Type 0
IsWordsFault Memory = ⊤
IsWordsFault CommandLine = ⊤
IsWordsFault _ = ⊥
