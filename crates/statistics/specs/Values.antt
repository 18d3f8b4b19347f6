-- What contracts see of the types of this crate that hold lists.
--     RunStats      of Stats
--     FinalCore, FinalChannel, FinalView      of CoreState, ChannelState and FinalState
--     RunOutcome      of Outcome
use Rattle.std.specs.Prelude.{ℕ, List, Option}
use Rattle.sim_base.specs.declared.command.IssuedCommand.{IssuedCommand}
use Rattle.sim_base.specs.declared.message.Message.{Message}
use Rattle.sim_base.specs.declared.message.Request.{Request}
use Rattle.request_table.specs.declared.times.RequestTimes.{RequestTimes}
use Rattle.statistics.specs.declared.channels.ChannelStats.{ChannelStats}
use Rattle.statistics.specs.declared.cores.CoreStats.{CoreStats}
use Rattle.statistics.specs.declared.final_state.Credits.{Credits}
use Rattle.statistics.specs.declared.final_state.OpenRow.{OpenRow}
use Rattle.statistics.specs.declared.tables.Tables.{Tables}

-- how many cycles a run had, and the statistics of each core and each channel, by number
pub record RunStats : Type 0 where
  pub cycles : ℕ
  pub cores : List CoreStats
  pub channels : List ChannelStats

-- what a core issued and retired, and the credits that it holds for each channel
pub record FinalCore : Type 0 where
  pub issued : ℕ
  pub retired : ℕ
  pub credits : List Credits

-- the refreshes that are due by rank, the rows that are open by rank, group and bank, and the queue by age
pub record FinalChannel : Type 0 where
  pub due : List ℕ
  pub open_rows : List OpenRow
  pub queue : List Request

-- the state of each core and each channel, by number, and the messages that are still to arrive, by arrival and then by
-- link
pub record FinalView : Type 0 where
  pub cores : List FinalCore
  pub channels : List FinalChannel
  pub in_flight : List Message

-- the tables that were asked for; the commands and the requests, each if their table was; the statistics and the state
-- at the end of a run; and how many ranks a channel has
pub record RunOutcome : Type 0 where
  pub tables : Tables
  pub commands : Option (List IssuedCommand)
  pub requests : Option (List RequestTimes)
  pub stats : RunStats
  pub last : FinalView
  pub ranks : ℕ
