-- How the tables of a run come into a folder. Each is written under a name of its own, and gets its place there when
-- all are whole.
--     path_in folder name      the path of a name in a folder
--     tables_in run      the tables of an outcome that are asked for, in the order in which they get their places
--     others_in run      the names under which tables may stand that are not asked for
--     paths_unless asked folder name      the paths of a table that is not asked for
--     planned_in folder table      the paths of a table, while it is written and in its place, and its text
--     parts folder run      the paths under which the tables are written
--     SameOutside paths old new      no path has changed but these
--     AreApart planned      no two of these paths are the same
--     AreStaged planned held      these tables are whole, and not yet in their places
--     ArePlaced, ArePartlyPlaced planned old new      all of them got their places, or only the first of them
--     ArePut planned old new      they were written and got their places
--     IsLeftUnplaced refusal planned old new      what a refusal leaves of them
--     IsWritten folder run old new      the tables of an outcome are in their places, and no others are there
--     AreTorn planned old new      only the first of them got their places
--     AreKeptBack planned old new      no table is in its place
--     LeavesAll refusal old new before after      a refusal leaves everything as it was
--     IsUnplaced, IsLeftBy refusal folder run old new      what a refusal leaves
use Rattle.std.specs.Prelude.{◌≡◌, ◌≢◌, ◌⊎◌, ℕ, ◌<◌, Bool, List, [], ◌∷◌, ◌++◌, length, map, take, drop, codes, is_some, option_map, Option, Some, None, string_bytes, if◌then◌else◌}
use Rattle.std.specs.List.{AllByRecursion as Each}
use Rattle.statistics.specs.Outcomes.{if_asked}
use Rattle.statistics.specs.Values.{RunOutcome}
use Rattle.reports.specs.Commands.{commands_text}
use Rattle.reports.specs.Stats.{stats_text}
use Rattle.reports.specs.Final.{final_text}
use Rattle.reports.specs.Requests.{requests_text}
use Rattle.refusal.specs.Refusals.{IsKept}
use Rattle.whole_files.specs.Files.{Held, IsUntouched}
use Rattle.whole_files.specs.declared.moves.Move.{Move}
use Rattle.refusal.specs.declared.refusal.Refusal.{Refusal}
use Rattle.refusal.specs.declared.refusal.Refusal.TheVariants.{Kept, Torn}
use Rattle.whole_files.specs.WholeFile.{part_of}

-- the path of a name in a folder
abbrev pub path_in : List ℕ → List ℕ → List ℕ
path_in folder name = folder ++ (codes "/" ++ name)

-- the names of the tables
abbrev pub commands_name : List ℕ
commands_name = codes "commands.csv"

abbrev pub stats_name : List ℕ
stats_name = codes "stats.csv"

abbrev pub final_name : List ℕ
final_name = codes "final.csv"

abbrev pub requests_name : List ℕ
requests_name = codes "requests.csv"

-- a way from one name in a folder to another
pub record IsMoveIn (folder part name : List ℕ) (move : Move) : Type 0 where
  pub from_is : string_bytes move.from ≡ path_in folder part
  pub to_is : string_bytes move.to ≡ path_in folder name

-- a table: its name, and its text
pub record NamedText : Type 0 where
  pub name : List ℕ
  pub text : List ℕ

-- the table of a name, if it has a text
abbrev pub table_named : List ℕ → Option (List ℕ) → List NamedText
table_named name None = []
table_named name (Some text) = record { name = name; text = text } ∷ []

-- the texts of the tables of an outcome, of those that are asked for
abbrev pub commands_of : RunOutcome → Option (List ℕ)
commands_of run = option_map (commands_text run.ranks) run.commands

abbrev pub stats_of : RunOutcome → Option (List ℕ)
stats_of run = if_asked run.tables.stats (stats_text run.stats)

abbrev pub final_of : RunOutcome → Option (List ℕ)
final_of run = if_asked run.tables.last (final_text run.ranks run.last)

abbrev pub requests_of : RunOutcome → Option (List ℕ)
requests_of run = option_map requests_text run.requests

-- the tables that are asked for, in the order in which they get their places
abbrev pub tables_in : RunOutcome → List NamedText
tables_in run =
    table_named commands_name (commands_of run)
    ++ (table_named stats_name (stats_of run)
    ++ (table_named final_name (final_of run) ++ table_named requests_name (requests_of run)))

-- the names under which a table may stand, where it is not asked for: its own, and that under which it is written
abbrev pub names_unless : Bool → List ℕ → List (List ℕ)
names_unless asked name = if asked then [] else name ∷ part_of name ∷ []

-- its paths in a folder, where it is not asked for
abbrev pub paths_unless : Bool → List ℕ → List ℕ → List (List ℕ)
paths_unless asked folder name = map (path_in folder) (names_unless asked name)

-- the names under which tables may stand that are not asked for
abbrev pub others_in : RunOutcome → List (List ℕ)
others_in run =
    names_unless (is_some (commands_of run)) commands_name
    ++ (names_unless (is_some (stats_of run)) stats_name
    ++ (names_unless (is_some (final_of run)) final_name ++ names_unless (is_some (requests_of run)) requests_name))

-- a table that is to be written to one path, and then to get another, with this text
pub record PlannedText : Type 0 where
  pub from : List ℕ
  pub to : List ℕ
  pub text : List ℕ

-- the paths of a table in a folder, and its text
abbrev pub planned_in : List ℕ → NamedText → PlannedText
planned_in folder table =
    record { from = path_in folder (part_of table.name); to = path_in folder table.name; text = table.text }

-- the tables of an outcome, with their paths in a folder
abbrev pub plan_in : List ℕ → RunOutcome → List PlannedText
plan_in folder run = map (planned_in folder) (tables_in run)

-- the paths under which tables are written
abbrev pub from_paths : List PlannedText → List (List ℕ)
from_paths planned = map (λ p. p.from) planned

-- all their paths
abbrev pub paths_of : List PlannedText → List (List ℕ)
paths_of planned = from_paths planned ++ map (λ p. p.to) planned

-- the paths under which the tables are written, in the order in which they are opened
abbrev pub parts : List ℕ → RunOutcome → List (List ℕ)
parts folder run = from_paths (plan_in folder run)

-- no path has changed but these
abbrev pub SameOutside : List (List ℕ) → Held → Held → Type 0
SameOutside paths old new = (path : List ℕ) → Each (λ p. path ≢ p) paths → new path ≡ old path

-- two tables have no path in common
pub record IsApartFrom (p q : PlannedText) : Type 0 where
  pub froms : p.from ≢ q.from
  pub from_to : p.from ≢ q.to
  pub to_from : p.to ≢ q.from
  pub tos : p.to ≢ q.to

-- no two paths of these tables are the same
abbrev pub AreApart : List PlannedText → Type 0
AreApart [] = Unit {0}
AreApart (p ∷ planned) = (p.from ≢ p.to) × Each (IsApartFrom p) planned × AreApart planned

-- these tables are whole, and not yet in their places
abbrev pub AreStaged : List PlannedText → Held → Type 0
AreStaged planned held = Each (λ p. held p.from ≡ Some p.text) planned

-- nothing stands under the names under which they are written
abbrev pub AreGone : List PlannedText → Held → Type 0
AreGone planned held = Each (λ p. held p.from ≡ None) planned

-- nothing stands at these paths
abbrev pub AreRemoved : List (List ℕ) → Held → Type 0
AreRemoved paths held = Each (λ p. held p ≡ None) paths

-- a table that was written got its place
abbrev pub IsMoved : Held → Held → PlannedText → Type 0
IsMoved old new p = (new p.to ≡ old p.from) × (new p.from ≡ None)

-- it did not: its place holds what it held, and the table is as whole as it was
abbrev pub IsWaiting : Held → Held → PlannedText → Type 0
IsWaiting old new p = (new p.to ≡ old p.to) × (new p.from ≡ old p.from)

-- all tables got their places
pub record ArePlaced (planned : List PlannedText) (old new : Held) : Type 0 where
  pub moved : Each (IsMoved old new) planned
  pub others : SameOutside (paths_of planned) old new

-- the first of the tables got their places, at least one of them, and the others did not
pub record ArePartlyPlaced (planned : List PlannedText) (old new : Held) : Type 0 where
  pub count : ℕ
  pub some : 0 < count
  pub fewer : count < length planned
  pub moved : Each (IsMoved old new) (take count planned)
  pub left : Each (IsWaiting old new) (drop count planned)
  pub others : SameOutside (paths_of planned) old new

-- a table is in its place
abbrev pub IsIn : Held → PlannedText → Type 0
IsIn new p = (new p.to ≡ Some p.text) × (new p.from ≡ None)

-- it is not: its place holds what it held, and the new table stands whole beside it
abbrev pub IsBeside : Held → Held → PlannedText → Type 0
IsBeside old new p = (new p.to ≡ old p.to) × (new p.from ≡ Some p.text)

-- tables were written and got their places
pub record ArePut (planned : List PlannedText) (old new : Held) : Type 0 where
  pub in_place : Each (IsIn new) planned
  pub others : SameOutside (paths_of planned) old new

-- The first tables got their places, at least one of them, and the others did not, since a file could not be renamed:
-- each table is the earlier one or the whole new one, and where it is the earlier one, the whole new one stands beside
-- it.
pub record AreTorn (planned : List PlannedText) (old new : Held) : Type 0 where
  pub count : ℕ
  pub some : 0 < count
  pub fewer : count < length planned
  pub in_place : Each (IsIn new) (take count planned)
  pub beside : Each (IsBeside old new) (drop count planned)
  pub others : SameOutside (paths_of planned) old new

-- the places hold what they held, and no table is left under the names under which they are written
pub record AreKeptBack (planned : List PlannedText) (old new : Held) : Type 0 where
  pub gone : AreGone planned new
  pub others : SameOutside (from_paths planned) old new

-- what a refusal leaves of tables that could not all be given their places
abbrev pub IsLeftUnplaced : Refusal → List PlannedText → Held → Held → Type 0
IsLeftUnplaced (Kept fault) planned old new = AreKeptBack planned old new
IsLeftUnplaced (Torn fault) planned old new = AreTorn planned old new

-- the paths at which tables may stand that are not asked for
abbrev pub other_paths : List ℕ → RunOutcome → List (List ℕ)
other_paths folder run = map (path_in folder) (others_in run)

-- The tables of an outcome that are asked for are in their places, none of the other tables is there, whole or as it was
-- being written, no table is left under the name under which it is written, and nothing else has changed.
pub record IsWritten (folder : List ℕ) (run : RunOutcome) (old new : Held) : Type 0 where
  pub in_place : Each (IsIn new) (plan_in folder run)
  pub none_else : AreRemoved (other_paths folder run) new
  pub others : SameOutside (paths_of (plan_in folder run) ++ other_paths folder run) old new

-- what a refusal leaves of the tables of an outcome
abbrev pub IsUnplaced : Refusal → List ℕ → RunOutcome → Held → Held → Type 0
IsUnplaced refusal folder run old new = IsLeftUnplaced refusal (plan_in folder run) old new

-- a refusal leaves everything as it was
pub record LeavesAll (refusal : Refusal) (old new : Held) (before after : List (List ℕ)) : Type 0 where
  pub kept : IsKept refusal
  pub untouched : IsUntouched old new before after

-- what a refusal leaves: nothing was touched, or tables were written
abbrev pub IsLeftBy : Refusal → List ℕ → RunOutcome → Held → Held → List (List ℕ) → List (List ℕ) → Type 0
IsLeftBy refusal folder run old new before after =
    LeavesAll refusal old new before after ⊎ IsUnplaced refusal folder run old new
