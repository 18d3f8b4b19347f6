-- What the plan of a table stands for.
--     text_in contents      the text that is written from this
--     planned_of planned      its paths and its text
--     plans_of planned      the same of each of some tables
--     plan_for folder name contents      the plan of a table of this name, if there is something to write
use Rattle.std.specs.Prelude.{ℕ, List, map, Option, option_map, string_bytes}
use Rattle.reports.specs.Commands.{commands_text}
use Rattle.reports.specs.Stats.{stats_text}
use Rattle.reports.specs.Final.{final_text}
use Rattle.reports.specs.Requests.{requests_text}
use Rattle.whole_files.specs.Tables.{PlannedText, table_named, planned_in}
use Rattle.whole_files.specs.declared.tables.Contents.{Contents}
use Rattle.whole_files.specs.declared.tables.Contents.TheVariants.{Commands, Stats, Final, Requests}
use Rattle.whole_files.specs.declared.tables.PlannedTable.{PlannedTable}

-- the text of a table
abbrev pub text_in : Contents → List ℕ
text_in (Commands ranks commands) = commands_text ranks commands.now
text_in (Stats stats) = stats_text stats.now
text_in (Final ranks final_state) = final_text ranks final_state.now
text_in (Requests requests) = requests_text requests.now

-- its paths and its text
abbrev pub planned_of : PlannedTable → PlannedText
planned_of planned =
    record { from = string_bytes planned.way.from; to = string_bytes planned.way.to; text = text_in planned.contents }

-- the paths and the text of each of these tables
abbrev pub plans_of : List PlannedTable → List PlannedText
plans_of planned = map planned_of planned

-- the plan of a table of this name in a folder, if there is something to write
abbrev pub plan_for : List ℕ → List ℕ → Option Contents → List PlannedText
plan_for folder name contents = map (planned_in folder) (table_named name (option_map text_in contents))
