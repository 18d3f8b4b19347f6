use Rattle.std.proofs.Common.{◌≡◌, sym, subst}
use Rattle.sessions.specs.Memories.{IsMemory, IsOpenMemory}
use Rattle.sessions.specs.declared.memory_session.memory.MemorySession.{MemorySession}
use Rattle.dramsim_c.proofs.CInterface.Keeping.{well-open, put-back, lent-is}
use Rattle.dramsim_c.specs.CInterface.Memories.{IsCommandRow, with_command_given}
use Rattle.dramsim_c.proofs.c_interface.c_memory.memory.KeptMemory.next_command.Goals as goal

pub command_of-command-requires : goal.command_of-command-requires
command_of-command-requires c =
    let kept = c.args.self.now in
    record { «open» = subst IsOpenMemory (sym c.deref_mut.ensures.value) (well-open IsOpenMemory kept.is_open kept.handle.value c.in-Some.memory.value (c.in-Some.ensures {u = tt}).memory c.requires.well) }

pub returns-clause-next : goal.returns-clause-next
returns-clause-next c m pasts is h =
    let same : c.deref_mut.result.now ≡ m = lent-is c.args.self.now.handle.value c.in-Some.memory.value c.deref_mut.result.now m (c.in-Some.ensures {u = tt}).memory c.deref_mut.ensures.value is in
    subst (λ (x : MemorySession). IsCommandRow x.config pasts x.cycle c.command_of-command.result) same
    (c.command_of-command.ensures.next pasts (subst (λ (x : MemorySession). IsMemory x pasts) (sym same) h))

pub returns-clause-taken : goal.returns-clause-taken
returns-clause-taken c m pasts is h =
    let same : c.deref_mut.result.now ≡ m = lent-is c.args.self.now.handle.value c.in-Some.memory.value c.deref_mut.result.now m (c.in-Some.ensures {u = tt}).memory c.deref_mut.ensures.value is in
    put-back (λ x. IsMemory x (with_command_given pasts m.cycle c.command_of-command.result)) c.put.new.self.handle.value _ c.put.ensures.memory
    (subst (λ (x : MemorySession). IsMemory c.command_of-command.new.memory (with_command_given pasts x.cycle c.command_of-command.result)) same
    (c.command_of-command.ensures.taken pasts (subst (λ (x : MemorySession). IsMemory x pasts) (sym same) h)))
