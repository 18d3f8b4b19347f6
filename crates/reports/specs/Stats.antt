-- The text of the table of statistics.
--     stats_header      the names of its columns
--     value_fields scope id value      a row: a count of a unit
--     core_values core, channel_values channel      the counts of a unit, each with its name, in order
--     stats_rows stats      its rows
--     stats_text stats      the whole table
use Rattle.std.specs.Prelude.{ℕ, List, [], ◌∷◌, ◌++◌, map, codes, decimal, Option, Some, None}
use Rattle.reports.specs.Rows.{optional, numbered, table_text}
use Rattle.statistics.specs.Channels.{channel_counters, channel_numbers}
use Rattle.statistics.specs.Cores.{core_counters, core_numbers}
use Rattle.statistics.specs.Counters.{named}
use Rattle.statistics.specs.Values.{RunStats}
use Rattle.statistics.specs.declared.channels.ChannelStats.{ChannelStats}
use Rattle.statistics.specs.declared.cores.CoreStats.{CoreStats}

-- the names of the columns
abbrev pub stats_header : List (List ℕ)
stats_header = codes "scope" ∷ codes "id" ∷ codes "name" ∷ codes "value" ∷ []

-- a row: a count of the unit of this scope with this number
abbrev pub value_fields : List ℕ → ℕ → List ℕ × Option ℕ → List (List ℕ)
value_fields scope id value = scope ∷ decimal id ∷ value.0 ∷ optional value.1 ∷ []

-- the counts of a core, each under its name
abbrev pub core_values : CoreStats → List (List ℕ × Option ℕ)
core_values core = named core_counters (core_numbers core)

-- the count of cycles in which a channel drained its writes, present only if it may drain them
abbrev pub draining_values : Option ℕ → List (List ℕ × Option ℕ)
draining_values None = []
draining_values (Some cycles) = (codes "draining", Some cycles) ∷ []

-- the counts that each channel has
abbrev pub usual_values : ChannelStats → List (List ℕ × Option ℕ)
usual_values channel = named channel_counters (channel_numbers channel)

-- the counts of a channel
abbrev pub channel_values : ChannelStats → List (List ℕ × Option ℕ)
channel_values channel = usual_values channel ++ draining_values channel.draining

-- the rows of a core with its number
abbrev pub core_rows : ℕ → CoreStats → List (List (List ℕ))
core_rows id core = map (value_fields (codes "core") id) (core_values core)

-- the rows of a channel with its number
abbrev pub channel_rows : ℕ → ChannelStats → List (List (List ℕ))
channel_rows id channel = map (value_fields (codes "channel") id) (channel_values channel)

-- the rows: how many cycles there were, and then the counts of each core and of each channel, by number
abbrev pub stats_rows : RunStats → List (List (List ℕ))
stats_rows stats =
    value_fields (codes "run") 0 (codes "cycles", Some stats.cycles)
    ∷ (numbered core_rows stats.cores ++ numbered channel_rows stats.channels)

-- the table of statistics
unfoldable pub stats_text : RunStats → List ℕ
stats_text stats = table_text stats_header (stats_rows stats)
