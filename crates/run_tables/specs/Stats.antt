-- What the records of a table of statistics mean.
--     CoreInRange core      each count of a core is in its range
--     StatsFit stats      statistics that a run can have
--     IsStatsTable records stats      the records are those that are written of these statistics
--     HoldsStats records      they are a table of some statistics
--     StatsComeBack stats      the table of these statistics is read as it was written
use Rattle.std.specs.Prelude.{◌≡◌, ℕ, ◌<◌, ◌^◌, List, ◌∷◌, length, All, IfSome}
use Rattle.reports.specs.Stats.{stats_header, stats_rows, stats_text}
use Rattle.rule_check.specs.Verdict.{records_of}
use Rattle.statistics.specs.Values.{RunStats}
use Rattle.statistics.specs.Cores.{CoreFits}
use Rattle.statistics.specs.Channels.{ChannelFits}
use Rattle.statistics.specs.declared.cores.CoreStats.{CoreStats}

-- each count of a core is in its range
pub record CoreInRange (core : CoreStats) : Type 0 where
  pub counts : CoreFits core
  pub finish : IfSome core.finish (λ cycle. cycle < 2 ^ 64)

-- statistics that a run can have: of one core and one channel or more, each count in its range
pub record StatsFit (stats : RunStats) : Type 0 where
  pub cycles : stats.cycles < 2 ^ 64
  pub cores : All CoreInRange stats.cores
  pub channels : All ChannelFits stats.channels
  pub some_core : 0 < length stats.cores
  pub some_channel : 0 < length stats.channels

-- the records of a table of statistics: the header, and then a record for each count
pub record IsStatsTable (records : List (List (List ℕ))) (stats : RunStats) : Type 0 where
  pub parts : records ≡ stats_header ∷ stats_rows stats
  pub fits : StatsFit stats

-- the records are those of a table of some statistics
abbrev pub HoldsStats : List (List (List ℕ)) → Type 0
HoldsStats records = (stats : RunStats) × IsStatsTable records stats

-- the table that is written of these statistics is read as these statistics
abbrev pub StatsComeBack : RunStats → Type 0
StatsComeBack stats = IsStatsTable (records_of (stats_text stats)) stats
