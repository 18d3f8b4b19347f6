-- `cycles_run`, one cycle more.
use Rattle.std.proofs.Common.{◌≡◌, ℕ, ◌+◌, false, List, refl, add-one}
use Rattle.sim_base.specs.declared.config.Config.{Config}
use Rattle.sim_base.specs.declared.trace.Entry.{Entry}
use Rattle.sim_base.specs.Machine.{cycles_run, ends_before}
use Rattle.sim_base.proofs.Cycles.{cycles-next}

pub cycles_run_more : (s : Config) (traces : List (List Entry)) (n : ℕ) → cycles_run s traces n ≡ n → ends_before s traces n ≡ false → cycles_run s traces (n + 1) ≡ n + 1
cycles_run_more s traces n e h = rw (add-one, cycles-next s traces n, e, h) refl
