-- What contracts see of a core.
use Rattle.std.specs.Prelude.{ℕ, List}
use Rattle.sim_base.specs.declared.config.Config.{Config}
use Rattle.sim_base.specs.declared.trace.Entry.{Entry}
use Rattle.statistics.specs.declared.cores.CoreStats.{CoreStats}
use Rattle.statistics.specs.declared.final_state.Credits.{Credits}
use Rattle.core_window.specs.declared.outstanding.OutstandingRead.{OutstandingRead}

-- a core: its configuration, its number and its trace, the cycle where it stands, its Reads without a reply, the
-- credits that it holds for each channel, and what it did
pub record CoreView : Type 0 where
  pub config : Config
  pub core : ℕ
  pub trace : List Entry
  pub now : ℕ
  pub outstanding : List OutstandingRead
  pub credits : List Credits
  pub stats : CoreStats
