-- Cycles in which a core does the same over and over.
--     steady_counts core_step why      what statistics count in one of these cycles
--     steady_view view core_step why n      a core after n of these cycles
--     IsSteady view n core_step why      a core does the same in n cycles in which no message comes
--     IsFlow width window issued retired outstanding r n      in each of n cycles `width` entries issue and r retire
use Rattle.std.specs.Prelude.{◌≡◌, ℕ, ◌+◌, ◌-◌, ◌*◌, ◌<◌, ◌≤◌, min, List, length, Option, None, ◌⊎◌}
use Rattle.sim_base.specs.declared.config.Config.{Config}
use Rattle.sim_base.specs.declared.history.CoreStep.{CoreStep}
use Rattle.sim_base.specs.declared.message.Message.{Message}
use Rattle.sim_base.specs.declared.trace.Entry.{Entry}
use Rattle.sim_base.specs.declared.trace.Stop.{Stop}
use Rattle.sim_base.specs.declared.trace.Stop.TheVariants as stop
use Rattle.cpu_trace.specs.declared.entries.MemoryEntry.{MemoryEntry}
use Rattle.sim_base.specs.Counts.{one_if}
use Rattle.statistics.specs.Cores.{core_joined, core_times, unanswered_cycle}
use Rattle.statistics.specs.declared.cores.CoreStats.{CoreStats}
use Rattle.core_window.specs.Causes.{first_undone}
use Rattle.core_window.specs.Inside.{StandsAt}
use Rattle.core_window.specs.OneCycle.{IsWork, is_read_among, is_write_among}
use Rattle.core_window.specs.Views.{CoreView}
use Rattle.core_window.specs.declared.outstanding.OutstandingRead.{OutstandingRead}

-- what statistics count in a cycle with this core_step and this cause to stop, in which neither a memory entry issues
-- nor the last entry of the trace retires
abbrev pub steady_counts : CoreStep → Stop → CoreStats
steady_counts core_step why = unanswered_cycle core_step why 0 0 None

-- a core after n cycles in which it does the same: it only counts
abbrev pub steady_view : CoreView → CoreStep → Stop → ℕ → CoreView
steady_view a core_step why n =
    record a { now = a.now + n; stats = core_joined a.stats (core_times n (steady_counts core_step why)) }

-- statistics with `n` further cycles in which a core stops for this cause
abbrev pub with_stop : CoreStats → Stop → ℕ → CoreStats
with_stop a stop.End n = record a { stop_end = a.stop_end + n }
with_stop a stop.Width n = record a { stop_width = a.stop_width + n }
with_stop a stop.Window n = record a { stop_window = a.stop_window + n }
with_stop a stop.Memory n = record a { stop_memory = a.stop_memory + n }
with_stop a stop.Credit n = record a { stop_credit = a.stop_credit + n }

-- statistics with the memory entry that issues, if one does
abbrev pub with_memory : CoreStats → Option MemoryEntry → CoreStats
with_memory a memory =
    record a { reads = a.reads + one_if (is_read_among memory); writes = a.writes + one_if (is_write_among memory) }

-- In each of n cycles a core does the same and stops for the same cause, while no message comes: no memory entry issues
-- in them, and the last entry of the trace does not retire in them.
pub record IsSteady (a : CoreView) (n : ℕ) (core_step : CoreStep) (why : Stop) : Type 0 where
  pub works : (k : ℕ) → k < n
      → (s : Config) (core : ℕ) (trace : List Entry) (steps : List CoreStep) (mail : List Message)
      → StandsAt s core trace steps mail (steady_view a core_step why k)
      → IsWork s core trace steps mail core_step why None
  pub unfinished : (n * core_step.retired ≡ 0) ⊎ (a.stats.retired + n * core_step.retired < length a.trace)

-- The window of a core that issues its width of Plain entries in each of n cycles lets it retire r entries in each:
-- those that are done by then, and no more than the width; and the window has room for the entries that issue. Before
-- them, `issued` entries were issued and `retired` retired.
pub record IsFlow (width window issued retired : ℕ) (outstanding : List OutstandingRead) (r n : ℕ) : Type 0 where
  pub retires : (k : ℕ) → k < n → r ≡ min width (first_undone (issued + k * width) outstanding - (retired + k * r))
  pub room : (k : ℕ) → k < n → issued + k * width + width ≤ retired + k * r + r + window
