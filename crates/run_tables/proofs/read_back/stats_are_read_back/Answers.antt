-- The laws, as they are proved.
use Rattle.sim_base.specs.Machine.{run}
use Rattle.statistics.specs.Runs.{stats_of}
use Rattle.run_tables.proofs.RunStats.{run-fits}
use Rattle.run_tables.proofs.StatsBack.{stats-read}
use Rattle.run_tables.proofs.read_back.stats_are_read_back.Goals as goal

pub returns-clause-written : goal.returns-clause-written
returns-clause-written c = stats-read

pub returns-clause-run : goal.returns-clause-run
returns-clause-run c s traces n few short = stats-read (stats_of s traces (run s traces n)) (run-fits s traces n few short)
