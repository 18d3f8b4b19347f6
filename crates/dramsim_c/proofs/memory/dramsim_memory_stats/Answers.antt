use Rattle.dramsim_c.proofs.Counts.{there, missing}
use Rattle.dramsim_c.proofs.memory.dramsim_memory_stats.Goals as goal

pub returns-in-Ok-clause-status : goal.returns-in-Ok-clause-status
returns-in-Ok-clause-status c m pasts is h = there _ _ c.in-Ok.stats ((c.in-Ok.ensures {u = tt}).stats m pasts is h)

pub returns-in-Err-clause-status : goal.returns-in-Err-clause-status
returns-in-Err-clause-status c m pasts is h = missing _ _ c.in-Err.fault c.fault_number.result c.fault_number.ensures ((c.in-Err.ensures {u = tt}).stats m pasts is h)
