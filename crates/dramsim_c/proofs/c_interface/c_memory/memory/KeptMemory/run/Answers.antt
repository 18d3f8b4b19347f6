use Rattle.std.proofs.Common.{◌≡◌, ◌∙◌, Ok, Err, ap, sym, subst, rules}
use Rattle.sessions.specs.Memories.{IsMemory, IsOpenMemory}
use Rattle.sessions.specs.Sessions.{IsAnswer, end_refusal}
use Rattle.sessions.specs.declared.channel_session.fault.SessionFault.TheVariants.{Memory}
use Rattle.sessions.specs.declared.memory_session.memory.MemorySession.{MemorySession}
use Rattle.dramsim_c.specs.CInterface.Kept.{IsCallAnswer}
use Rattle.dramsim_c.specs.declared.c_interface.fault.CallFault.TheVariants as call
use Rattle.dramsim_c.proofs.CInterface.Keeping.{well-open, well-put, passed, refused, lent-well, put-back, lent-fit, lent-is}
use Rattle.dramsim_c.proofs.c_interface.c_memory.memory.KeptMemory.run.Goals as goal

pub run-requires : goal.run-requires
run-requires c =
    let kept = c.args.self.now in
    record { «open» = subst IsOpenMemory (sym c.deref_mut.ensures.value) (well-open IsOpenMemory kept.is_open kept.handle.value c.in-Some.memory.value (c.in-Some.ensures {u = tt}).memory c.requires.well) }

pub returns-in-Ok-clause-done : goal.returns-in-Ok-clause-done
returns-in-Ok-clause-done c pasts h =
    put-back (λ x. IsMemory x pasts) c.put.new.self.handle.value _ c.put.ensures.memory
    ((c.in-Ok.ensures {u = tt}).done pasts (lent-fit (λ x. IsMemory x pasts) c.args.self.now.handle.value c.in-Some.memory.value c.deref_mut.result.now (c.in-Some.ensures {u = tt}).memory c.deref_mut.ensures.value h))

pub returns-in-Ok-clause-well : goal.returns-in-Ok-clause-well
returns-in-Ok-clause-well c =
    well-put IsOpenMemory c.put.new.self.is_open c.put.new.self.handle.value c.run.new.self c.put.ensures.«open» c.put.ensures.memory (c.in-Ok.ensures {u = tt}).«open»

pub returns-in-Ok-clause-answer : goal.returns-in-Ok-clause-answer
returns-in-Ok-clause-answer c m is =
    let same : c.deref_mut.result.now ≡ m = lent-is c.args.self.now.handle.value c.in-Some.memory.value c.deref_mut.result.now m (c.in-Some.ensures {u = tt}).memory c.deref_mut.ensures.value is in
    passed (end_refusal m.cycle c.args.until) tt
    (subst (λ (x : MemorySession). IsAnswer {A = Unit {0}} (end_refusal x.cycle c.args.until) (Ok tt)) same (c.in-Ok.ensures {u = tt}).answer)

pub returns-in-Ok-clause-config : goal.returns-in-Ok-clause-config
returns-in-Ok-clause-config c s of other =
    put-back (λ (x : MemorySession). x.config ≡ s) c.put.new.self.handle.value _ c.put.ensures.memory
    ((c.in-Ok.ensures {u = tt}).config
    ∙ lent-fit (λ (x : MemorySession). x.config ≡ s) c.args.self.now.handle.value c.in-Some.memory.value c.deref_mut.result.now (c.in-Some.ensures {u = tt}).memory c.deref_mut.ensures.value of)

pub returns-in-Err-clause-answer : goal.returns-in-Err-clause-answer
returns-in-Err-clause-answer c m is =
    let same : c.deref_mut.result.now ≡ m = lent-is c.args.self.now.handle.value c.in-Some.memory.value c.deref_mut.result.now m (c.in-Some.ensures {u = tt}).memory c.deref_mut.ensures.value is in
    refused (end_refusal m.cycle c.args.until) c.in-Err.fault
    (subst (λ (x : MemorySession). IsAnswer {A = Unit {0}} (end_refusal x.cycle c.args.until) (Err c.in-Err.fault)) same (c.in-Err.ensures {u = tt}).answer)

pub returns-in-Err-clause-left : goal.returns-in-Err-clause-left
returns-in-Err-clause-left c pasts h other =
    let same : c.run.new.self ≡ c.deref_mut.result.now = (c.in-Err.ensures {u = tt}).same (λ e. other (ap call.Session e)) in
    put-back (λ x. IsMemory x pasts) c.put-in-Err.new.self.handle.value _ c.put-in-Err.ensures.memory
    (subst (λ x. IsMemory x pasts) (sym same)
    (lent-fit (λ x. IsMemory x pasts) c.args.self.now.handle.value c.in-Some.memory.value c.deref_mut.result.now (c.in-Some.ensures {u = tt}).memory c.deref_mut.ensures.value h))

pub returns-in-Err-clause-stays : goal.returns-in-Err-clause-stays
returns-in-Err-clause-stays c cycle h other =
    let same : c.run.new.self ≡ c.deref_mut.result.now = (c.in-Err.ensures {u = tt}).same (λ e. other (ap call.Session e)) in
    put-back (λ (x : MemorySession). x.cycle ≡ cycle) c.put-in-Err.new.self.handle.value _ c.put-in-Err.ensures.memory
    (subst (λ (x : MemorySession). x.cycle ≡ cycle) (sym same)
    (lent-fit (λ (x : MemorySession). x.cycle ≡ cycle) c.args.self.now.handle.value c.in-Some.memory.value c.deref_mut.result.now (c.in-Some.ensures {u = tt}).memory c.deref_mut.ensures.value h))

pub returns-in-Err-clause-config : goal.returns-in-Err-clause-config
returns-in-Err-clause-config c s of other =
    put-back (λ (x : MemorySession). x.config ≡ s) c.put-in-Err.new.self.handle.value _ c.put-in-Err.ensures.memory
    ((c.in-Err.ensures {u = tt}).config
    ∙ lent-fit (λ (x : MemorySession). x.config ≡ s) c.args.self.now.handle.value c.in-Some.memory.value c.deref_mut.result.now (c.in-Some.ensures {u = tt}).memory c.deref_mut.ensures.value of)

pub returns-in-Err-Memory-clause-answer : goal.returns-in-Err-Memory-clause-answer
returns-in-Err-Memory-clause-answer c m is =
    let fault = c.in-Err-Memory.field-0 in
    let same : c.deref_mut.result.now ≡ m = lent-is c.args.self.now.handle.value c.in-Some.memory.value c.deref_mut.result.now m (c.in-Some.ensures {u = tt}).memory c.deref_mut.ensures.value is in
    subst (λ e. IsCallAnswer {A = Unit {0}} (end_refusal m.cycle c.args.until) (Err (call.Session e))) c.in-Err-Memory.field-0-is
    (refused (end_refusal m.cycle c.args.until) fault (subst (λ (x : MemorySession). IsAnswer {A = Unit {0}} (end_refusal x.cycle c.args.until) (Err fault)) same (c.in-Err-Memory.ensures {u = tt}).answer))

pub returns-in-Err-Memory-clause-well : goal.returns-in-Err-Memory-clause-well
returns-in-Err-Memory-clause-well c = (c.in-Some.ensures {u = tt}).well

pub returns-in-Err-clause-well : goal.returns-in-Err-clause-well
returns-in-Err-clause-well c =
    let kept = c.args.self.now in
    let other : c.in-Err.fault ≡ Memory → ⊥ = search rules in
    well-put IsOpenMemory c.put-in-Err.new.self.is_open c.put-in-Err.new.self.handle.value c.run.new.self c.put-in-Err.ensures.«open» c.put-in-Err.ensures.memory
    (subst IsOpenMemory (sym ((c.in-Err.ensures {u = tt}).same other))
    (lent-well IsOpenMemory kept.is_open kept.handle.value c.in-Some.memory.value c.deref_mut.result.now (c.in-Some.ensures {u = tt}).memory c.deref_mut.ensures.value c.requires.well))

pub returns-in-Err-clause-lost : goal.returns-in-Err-clause-lost
returns-in-Err-clause-lost c e =
    let other : c.in-Err.fault ≡ Memory → ⊥ = search rules in
    let same : c.in-Err.fault ≡ Memory = cc in
    absurd (other same)
