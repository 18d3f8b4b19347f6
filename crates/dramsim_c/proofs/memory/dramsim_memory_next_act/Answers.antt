use Rattle.dramsim_c.proofs.memory.dramsim_memory_next_act.Goals as goal

pub returns-in-Some-clause-some : goal.returns-in-Some-clause-some
returns-in-Some-clause-some c m pasts is h _ = (c.in-Some.ensures {u = tt}).next m pasts is h
