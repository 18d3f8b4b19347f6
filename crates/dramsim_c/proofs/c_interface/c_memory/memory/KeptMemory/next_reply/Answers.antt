use Rattle.std.proofs.Common.{◌≡◌, sym, subst}
use Rattle.sessions.specs.Memories.{IsMemory, IsOpenMemory}
use Rattle.sessions.specs.declared.memory_session.memory.MemorySession.{MemorySession}
use Rattle.dramsim_c.proofs.CInterface.Keeping.{well-open, put-back, lent-is}
use Rattle.dramsim_c.specs.CInterface.Memories.{IsReplyRow, with_reply_given}
use Rattle.dramsim_c.proofs.c_interface.c_memory.memory.KeptMemory.next_reply.Goals as goal

pub reply_of-reply-requires : goal.reply_of-reply-requires
reply_of-reply-requires c =
    let kept = c.args.self.now in
    record { «open» = subst IsOpenMemory (sym c.deref_mut.ensures.value) (well-open IsOpenMemory kept.is_open kept.handle.value c.in-Some.memory.value (c.in-Some.ensures {u = tt}).memory c.requires.well) }

pub returns-clause-next : goal.returns-clause-next
returns-clause-next c m pasts is h =
    let same : c.deref_mut.result.now ≡ m = lent-is c.args.self.now.handle.value c.in-Some.memory.value c.deref_mut.result.now m (c.in-Some.ensures {u = tt}).memory c.deref_mut.ensures.value is in
    subst (λ (x : MemorySession). IsReplyRow x.config pasts x.cycle c.reply_of-reply.result) same
    (c.reply_of-reply.ensures.next pasts (subst (λ (x : MemorySession). IsMemory x pasts) (sym same) h))

pub returns-clause-taken : goal.returns-clause-taken
returns-clause-taken c m pasts is h =
    let same : c.deref_mut.result.now ≡ m = lent-is c.args.self.now.handle.value c.in-Some.memory.value c.deref_mut.result.now m (c.in-Some.ensures {u = tt}).memory c.deref_mut.ensures.value is in
    put-back (λ x. IsMemory x (with_reply_given pasts m.cycle c.reply_of-reply.result)) c.put.new.self.handle.value _ c.put.ensures.memory
    (subst (λ (x : MemorySession). IsMemory c.reply_of-reply.new.memory (with_reply_given pasts x.cycle c.reply_of-reply.result)) same
    (c.reply_of-reply.ensures.taken pasts (subst (λ (x : MemorySession). IsMemory x pasts) (sym same) h)))
