-- What is advised where the host refuses.
--     host_text fault      the line of advice, if there is any
use Rattle.std.specs.Prelude.{ℕ, List, [], codes}
use Rattle.sim_base.specs.declared.fault.Fault.{Fault}
use Rattle.sim_base.specs.declared.fault.Fault.TheVariants as fault

-- the line of advice, if there is any
abbrev pub host_text : Fault → List ℕ
host_text fault.Memory =
    codes "the host refused memory: a run takes less with a lower limit of --cycles, with fewer --workers, or with shorter traces\n"
host_text fault.WorkerStart =
    codes "the host refused to start a thread: name fewer --workers; with --workers 1 none is started\n"
host_text _ = []
