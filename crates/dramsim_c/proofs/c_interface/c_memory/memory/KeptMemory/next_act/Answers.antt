use Rattle.std.proofs.Common.{◌≡◌, sym, subst}
use Rattle.sessions.specs.Memories.{IsMemory, IsOpenMemory, IsNextActOf}
use Rattle.sessions.specs.declared.memory_session.memory.MemorySession.{MemorySession}
use Rattle.dramsim_c.proofs.CInterface.Keeping.{well-open, put-back, lent-fit, lent-is}
use Rattle.dramsim_c.proofs.c_interface.c_memory.memory.KeptMemory.next_act.Goals as goal

pub next_act-cycle-requires : goal.next_act-cycle-requires
next_act-cycle-requires c =
    let kept = c.args.self.now in
    record { «open» = subst IsOpenMemory (sym c.deref_mut.ensures.value) (well-open IsOpenMemory kept.is_open kept.handle.value c.in-Some.memory.value (c.in-Some.ensures {u = tt}).memory c.requires.well) }

pub returns-clause-next : goal.returns-clause-next
returns-clause-next c m pasts is h =
    let same : c.deref_mut.result.now ≡ m = lent-is c.args.self.now.handle.value c.in-Some.memory.value c.deref_mut.result.now m (c.in-Some.ensures {u = tt}).memory c.deref_mut.ensures.value is in
    subst (λ (x : MemorySession). IsNextActOf x.config.channels pasts x.cycle c.next_act-cycle.result) same
    (c.next_act-cycle.ensures.next pasts (subst (λ (x : MemorySession). IsMemory x pasts) (sym same) h))

pub returns-clause-left : goal.returns-clause-left
returns-clause-left c pasts h =
    put-back (λ x. IsMemory x pasts) c.put.new.self.handle.value _ c.put.ensures.memory
    (c.next_act-cycle.ensures.left pasts (lent-fit (λ x. IsMemory x pasts) c.args.self.now.handle.value c.in-Some.memory.value c.deref_mut.result.now (c.in-Some.ensures {u = tt}).memory c.deref_mut.ensures.value h))
