use Rattle.std.proofs.Common.{◌≡◌, ◌∙◌, Ok, Err, sym, subst}
use Rattle.sessions.specs.Sessions.{IsAnswer}
use Rattle.sessions.specs.Memories.{IsMemory, IsOpenMemory, memory_refusal, with_request_of}
use Rattle.sessions.specs.declared.memory_session.memory.MemorySession.{MemorySession}
use Rattle.dramsim_c.proofs.CInterface.Keeping.{well-open, well-put, passed, refused, put-back, lent-fit, lent-is}
use Rattle.dramsim_c.proofs.c_interface.c_memory.memory.KeptMemory.send.Goals as goal

pub send-result-requires : goal.send-result-requires
send-result-requires c =
    let kept = c.args.self.now in
    record { «open» = subst IsOpenMemory (sym c.deref_mut.ensures.value) (well-open IsOpenMemory kept.is_open kept.handle.value c.in-Some.memory.value (c.in-Some.ensures {u = tt}).memory c.requires.well) }

pub returns-in-Ok-clause-answer : goal.returns-in-Ok-clause-answer
returns-in-Ok-clause-answer c m pasts is h other =
    let request = c.args.request.now in
    let same : c.deref_mut.result.now ≡ m = lent-is c.args.self.now.handle.value c.in-Some.memory.value c.deref_mut.result.now m (c.in-Some.ensures {u = tt}).memory c.deref_mut.ensures.value is in
    passed (memory_refusal m pasts other request) tt
    (subst (λ (x : MemorySession). IsAnswer {A = Unit {0}} (memory_refusal x pasts other request) (Ok tt)) same
    ((c.in-Ok.ensures {u = tt}).answer pasts other (subst (λ (x : MemorySession). IsMemory x pasts) (sym same) h)))

pub returns-in-Ok-clause-sent : goal.returns-in-Ok-clause-sent
returns-in-Ok-clause-sent c m pasts is h =
    let request = c.args.request.now in
    let same : c.deref_mut.result.now ≡ m = lent-is c.args.self.now.handle.value c.in-Some.memory.value c.deref_mut.result.now m (c.in-Some.ensures {u = tt}).memory c.deref_mut.ensures.value is in
    put-back (λ x. IsMemory x (with_request_of m.config pasts request)) c.put.new.self.handle.value _ c.put.ensures.memory
    (subst (λ (x : MemorySession). IsMemory c.send-result.new.self (with_request_of x.config pasts request)) same
    ((c.in-Ok.ensures {u = tt}).sent pasts (subst (λ (x : MemorySession). IsMemory x pasts) (sym same) h)))

pub returns-in-Err-clause-answer : goal.returns-in-Err-clause-answer
returns-in-Err-clause-answer c m pasts is h other =
    let request = c.args.request.now in
    let same : c.deref_mut.result.now ≡ m = lent-is c.args.self.now.handle.value c.in-Some.memory.value c.deref_mut.result.now m (c.in-Some.ensures {u = tt}).memory c.deref_mut.ensures.value is in
    refused (memory_refusal m pasts other request) c.in-Err.fault
    (subst (λ (x : MemorySession). IsAnswer {A = Unit {0}} (memory_refusal x pasts other request) (Err c.in-Err.fault)) same
    ((c.in-Err.ensures {u = tt}).answer pasts other (subst (λ (x : MemorySession). IsMemory x pasts) (sym same) h)))

pub returns-in-Err-clause-left : goal.returns-in-Err-clause-left
returns-in-Err-clause-left c pasts h =
    put-back (λ x. IsMemory x pasts) c.put.new.self.handle.value _ c.put.ensures.memory
    ((c.in-Err.ensures {u = tt}).left pasts (lent-fit (λ x. IsMemory x pasts) c.args.self.now.handle.value c.in-Some.memory.value c.deref_mut.result.now (c.in-Some.ensures {u = tt}).memory c.deref_mut.ensures.value h))

pub returns-in-Ok-clause-now : goal.returns-in-Ok-clause-now
returns-in-Ok-clause-now c cycle h =
    put-back (λ (x : MemorySession). x.cycle ≡ cycle) c.put.new.self.handle.value _ c.put.ensures.memory
    ((c.in-Ok.ensures {u = tt}).now
    ∙ lent-fit (λ (x : MemorySession). x.cycle ≡ cycle) c.args.self.now.handle.value c.in-Some.memory.value c.deref_mut.result.now (c.in-Some.ensures {u = tt}).memory c.deref_mut.ensures.value h)

pub returns-in-Ok-clause-config : goal.returns-in-Ok-clause-config
returns-in-Ok-clause-config c s of =
    put-back (λ (x : MemorySession). x.config ≡ s) c.put.new.self.handle.value _ c.put.ensures.memory
    ((c.in-Ok.ensures {u = tt}).config
    ∙ lent-fit (λ (x : MemorySession). x.config ≡ s) c.args.self.now.handle.value c.in-Some.memory.value c.deref_mut.result.now (c.in-Some.ensures {u = tt}).memory c.deref_mut.ensures.value of)

pub returns-in-Ok-clause-well : goal.returns-in-Ok-clause-well
returns-in-Ok-clause-well c =
    well-put IsOpenMemory c.put.new.self.is_open c.put.new.self.handle.value c.send-result.new.self c.put.ensures.«open» c.put.ensures.memory (c.in-Ok.ensures {u = tt}).«open»

pub returns-in-Err-clause-now : goal.returns-in-Err-clause-now
returns-in-Err-clause-now c cycle h =
    put-back (λ (x : MemorySession). x.cycle ≡ cycle) c.put.new.self.handle.value _ c.put.ensures.memory
    ((c.in-Err.ensures {u = tt}).now
    ∙ lent-fit (λ (x : MemorySession). x.cycle ≡ cycle) c.args.self.now.handle.value c.in-Some.memory.value c.deref_mut.result.now (c.in-Some.ensures {u = tt}).memory c.deref_mut.ensures.value h)

pub returns-in-Err-clause-config : goal.returns-in-Err-clause-config
returns-in-Err-clause-config c s of =
    put-back (λ (x : MemorySession). x.config ≡ s) c.put.new.self.handle.value _ c.put.ensures.memory
    ((c.in-Err.ensures {u = tt}).config
    ∙ lent-fit (λ (x : MemorySession). x.config ≡ s) c.args.self.now.handle.value c.in-Some.memory.value c.deref_mut.result.now (c.in-Some.ensures {u = tt}).memory c.deref_mut.ensures.value of)

pub returns-in-Err-clause-well : goal.returns-in-Err-clause-well
returns-in-Err-clause-well c =
    well-put IsOpenMemory c.put.new.self.is_open c.put.new.self.handle.value c.send-result.new.self c.put.ensures.«open» c.put.ensures.memory (c.in-Err.ensures {u = tt}).«open»
