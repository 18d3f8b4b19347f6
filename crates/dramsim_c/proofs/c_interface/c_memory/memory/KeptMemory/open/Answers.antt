use Rattle.sessions.specs.Memories.{IsOpenMemory}
use Rattle.dramsim_c.proofs.CInterface.Keeping.{well-put}
use Rattle.dramsim_c.proofs.CInterface.CMemoryKeeping.{new-is-open}
use Rattle.dramsim_c.proofs.c_interface.c_memory.memory.KeptMemory.open.Goals as goal

pub returns-clause-well : goal.returns-clause-well
returns-clause-well c =
    let memory = c.in_ok-memory.memory.value in
    well-put IsOpenMemory c.put.new.self.is_open c.put.new.self.handle.value memory c.put.ensures.«open» c.put.ensures.memory
    (new-is-open c.args.text.now memory (c.in_ok-memory.ensures {u = tt}).opened)
