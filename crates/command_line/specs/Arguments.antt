-- The arguments of a command, as they are found, in the words of contracts.
--     rows_in found      the rows of the arguments
--     word_at found id, one_at found id, all_at found id      the first text of an argument, its one text, and all of them
--     texts_in words      texts, one after the other
--     IsRefusal P fault, IsMemoryOrRefusal P fault      the words are refused for this, or memory is
--     GivesWords, GivesRuns found .. texts      the texts of an argument, and the folders of runs
--     HasNoShare, HasNoTables, HasNoAddress, HasNoClock found      a word means nothing
--     BarsRun, BarsCompare found fault      why a command is refused that has each argument
use Rattle.std.specs.Prelude.{◌≡◌, ◌⊎◌, ℕ, List, map, codes, Option, Some, Vec}
use Rattle.std.specs.Borrow.{Bor}
use Rattle.std.specs.declared.alloc.Global.{Global}
use Rattle.clap.specs.Words.{Row, Text, all_of, first_of, found_of, one_of, rows_of}
use Rattle.clap.specs.declared.parser.matches.ArgMatches.{ArgMatches}
use Rattle.sim_base.specs.declared.fault.Fault.{Fault}
use Rattle.sim_base.specs.declared.fault.Fault.TheVariants.{Memory, CommandLine}
use Rattle.command_line.specs.Ask.{IsBadRun, IsNoShare, IsNoTables, IsNoAddress, IsNoClock, IsAlone, AreRuns}

-- the rows of the arguments that were found
abbrev pub rows_in : ArgMatches → List Row
rows_in found = rows_of (found_of found)

-- the first text of an argument, if it is there
abbrev pub word_at : ArgMatches → Text → Option Text
word_at found id = first_of id (rows_in found)

-- the one text of an argument that is no list, if it is there
abbrev pub one_at : ArgMatches → Text → Option Text
one_at found id = one_of id (rows_in found)

-- all texts of an argument, if it is there
abbrev pub all_at : ArgMatches → Text → Option (List Text)
all_at found id = all_of id (rows_in found)

-- texts, one after the other
abbrev pub texts_in : List (Bor (List ℕ)) → List Text
texts_in words = map (λ w. w.now) words

-- the words are refused, for this
abbrev pub IsRefusal : Type 0 → Fault → Type 0
IsRefusal why fault = (fault ≡ CommandLine) × why

-- memory was refused, or the words are, for this
abbrev pub IsMemoryOrRefusal : Type 0 → Fault → Type 0
IsMemoryOrRefusal why fault = (fault ≡ Memory) ⊎ ((fault ≡ CommandLine) × why)

-- the texts of an argument
abbrev pub GivesWords : ArgMatches → Text → Vec (Bor (List ℕ)) Global → Type 0
GivesWords found id texts = all_at found id ≡ Some (texts_in texts.items)

-- the folders of two runs or more
abbrev pub GivesRuns : ArgMatches → Vec (Bor (List ℕ)) Global → Type 0
GivesRuns found dirs = AreRuns (all_at found (codes "dir")) (texts_in dirs.items)

-- the word of `--share` says nothing
abbrev pub HasNoShare : ArgMatches → Type 0
HasNoShare found = IsNoShare (word_at found (codes "share"))

-- the word of `--tables` lists no tables
abbrev pub HasNoTables : ArgMatches → Type 0
HasNoTables found = IsNoTables (word_at found (codes "tables"))

-- the text of an address is no number of a trace
abbrev pub HasNoAddress : ArgMatches → Type 0
HasNoAddress found = IsNoAddress (word_at found (codes "address"))

-- the word of `--mhz` states no frequency
abbrev pub HasNoClock : ArgMatches → Type 0
HasNoClock found = IsNoClock (word_at found (codes "mhz"))

-- why a run is refused that has each argument: memory was, or a word of it means nothing
abbrev pub BarsRun : ArgMatches → Fault → Type 0
BarsRun found fault = fault ≡ CommandLine → IsBadRun (rows_in found)

-- why a comparison is refused that has a folder: memory was, or there is no second one
abbrev pub BarsCompare : ArgMatches → Fault → Type 0
BarsCompare found fault = fault ≡ CommandLine → IsAlone (all_at found (codes "dir"))
