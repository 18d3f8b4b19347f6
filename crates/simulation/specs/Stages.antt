-- What a watcher is told of a run.
--     retired_by machine now      how many entries of the traces have retired
--     IsExtentOf machine extent      how far a run can go: what is told each time
--     IsStageOf machine limit now stage      what is told when `now` cycles are over
use Rattle.std.specs.Prelude.{◌≡◌, ℕ, length, sum_by, IfSome}
use Rattle.units.specs.Runs.{stats_at}
use Rattle.units.specs.declared.machine.Machine.{Machine}
use Rattle.simulation.specs.declared.watch.RunExtent.{RunExtent}
use Rattle.simulation.specs.declared.watch.Stage.{Stage}

-- how many entries of the traces have retired in all cores before a cycle
abbrev pub retired_by : Machine → ℕ → ℕ
retired_by machine now = sum_by (λ core. core.retired) (stats_at machine now).cores

-- How far a run can go, as a watcher is told: whether the machine stops when all is done, and how many entries its
-- traces have.
pub record IsExtentOf (machine : Machine) (extent : RunExtent) : Type 0 where
  pub end_is : extent.ends_drained ≡ machine.config.ends_drained
  pub entries_are : extent.entries ≡ sum_by length machine.traces.items

-- How far a run up to a limit is when `now` cycles are over. How much has retired is not told where memory is refused.
pub record IsStageOf (machine : Machine) (limit now : ℕ) (stage : Stage) : Type 0 where
  pub now_is : stage.now ≡ now
  pub limit_is : stage.limit ≡ limit
  pub end_is : stage.ends_drained ≡ machine.config.ends_drained
  pub retired_are : IfSome stage.retired (λ n. n ≡ retired_by machine now)
  pub entries_are : stage.entries ≡ sum_by length machine.traces.items
