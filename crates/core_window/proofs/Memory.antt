-- The memory entry that issues in a cycle is counted before the cycle.
use Rattle.std.proofs.Common.{◌≡◌, ℕ, ◌+◌, sym, ap₂, subst, arith}
use Rattle.std.specs.Prelude.{Option, None}
use Rattle.sim_base.specs.declared.history.CoreStep.{CoreStep}
use Rattle.sim_base.specs.declared.trace.Stop.{Stop}
use Rattle.cpu_trace.specs.declared.entries.MemoryEntry.{MemoryEntry}
use Rattle.statistics.specs.Cores.{core_joined, CoreFits}
use Rattle.sim_base.specs.Counts.{one_if}
use Rattle.statistics.specs.declared.cores.CoreStats.{CoreStats}
use Rattle.statistics.proofs.CoreCounts.{core_fits-before}
use Rattle.core_window.specs.OneCycle.{cycle_counts, is_read_among, is_write_among}
use Rattle.core_window.specs.Steady.{with_memory}

pub memory-counted : (a : CoreStats) (core_step : CoreStep) (why : Stop) (memory : Option MemoryEntry) (len now : ℕ)
    → core_joined (with_memory a memory) (cycle_counts core_step why None a.retired len now) ≡ core_joined a (cycle_counts core_step why memory a.retired len now)
memory-counted a core_step why memory len now =
    let reads : a.reads + one_if (is_read_among memory) + 0 ≡ a.reads + one_if (is_read_among memory) = omega arith in
    let writes : a.writes + one_if (is_write_among memory) + 0 ≡ a.writes + one_if (is_write_among memory) = omega arith in
    ap₂ (λ r w. record (core_joined a (cycle_counts core_step why memory a.retired len now)) { reads = r; writes = w }) reads writes

pub memory-fits : (a : CoreStats) (core_step : CoreStep) (why : Stop) (memory : Option MemoryEntry) (len now : ℕ)
    → CoreFits (core_joined a (cycle_counts core_step why memory a.retired len now)) → CoreFits (with_memory a memory)
memory-fits a core_step why memory len now h =
    core_fits-before (with_memory a memory) (cycle_counts core_step why None a.retired len now) (subst CoreFits (sym (memory-counted a core_step why memory len now)) h)
