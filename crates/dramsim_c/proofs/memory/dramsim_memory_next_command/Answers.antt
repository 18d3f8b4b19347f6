use Rattle.sessions.specs.Memories.{IsMemory}
use Rattle.dramsim_c.specs.CInterface.Memories.{HasPasts}
use Rattle.dramsim_c.proofs.Statuses.{by-value}
use Rattle.dramsim_c.proofs.memory.dramsim_memory_next_command.Goals as goal

pub returns-in-Some-clause-taken : goal.returns-in-Some-clause-taken
returns-in-Some-clause-taken c m pasts is h _ = (c.in-Some.ensures {u = tt}).taken m pasts is h

pub returns-in-None-clause-left : goal.returns-in-None-clause-left
returns-in-None-clause-left c pasts h _ =
    by-value (λ m. IsMemory m pasts) (HasPasts c.next_command.new.self pasts) c.args.memory.now.handle.value h
    (λ m is of. (c.in-None.ensures {u = tt}).taken m pasts is of)
