use Rattle.std.proofs.Common.{◌≡◌, ◌∙◌, sym, subst, ap, Ok, Err, rules}
use Rattle.sessions.specs.Sessions.{IsSession, IsOpen, IsAnswer, end_refusal}
use Rattle.sessions.specs.declared.channel_session.fault.SessionFault.TheVariants.{Memory}
use Rattle.sessions.specs.declared.channel_session.session.Session.{Session}
use Rattle.dramsim_c.specs.CInterface.Kept.{IsCallAnswer}
use Rattle.dramsim_c.specs.declared.c_interface.fault.CallFault.TheVariants as call
use Rattle.dramsim_c.proofs.CInterface.Keeping.{well-open, passed, refused, well-put, put-back, lent-fit, lent-is, lent-well}
use Rattle.dramsim_c.proofs.c_interface.channel.KeptChannel.run.Goals as goal

pub run-requires : goal.run-requires
run-requires c =
    let kept = c.args.self.now in
    record { «open» = subst IsOpen (sym c.deref_mut.ensures.value) (well-open IsOpen kept.is_open kept.handle.value c.in-Some.session.value (c.in-Some.ensures {u = tt}).session c.requires.well) }

pub returns-in-Ok-clause-answer : goal.returns-in-Ok-clause-answer
returns-in-Ok-clause-answer c s p is h =
    let kept = c.args.self.now in
    let value = c.in-Some.session.value in
    let lent = c.deref_mut.result.now in
    let took = (c.in-Some.ensures {u = tt}).session in
    let same : lent ≡ s = lent-is kept.handle.value value lent s took c.deref_mut.ensures.value is in
    passed (end_refusal s.cycle c.args.until) tt (subst (λ (x : Session). IsAnswer {A = Unit {0}} (end_refusal x.cycle c.args.until) (Ok tt)) same (c.in-Ok.ensures {u = tt}).answer)

pub returns-in-Ok-clause-done : goal.returns-in-Ok-clause-done
returns-in-Ok-clause-done c p h =
    let kept = c.args.self.now in
    let value = c.in-Some.session.value in
    let lent = c.deref_mut.result.now in
    let took = (c.in-Some.ensures {u = tt}).session in
    put-back (λ (x : Session). IsSession x p) c.put.new.self.handle.value _ c.put.ensures.session
    ((c.in-Ok.ensures {u = tt}).done p (lent-fit (λ (x : Session). IsSession x p) kept.handle.value value lent took c.deref_mut.ensures.value h))

pub returns-in-Ok-clause-now : goal.returns-in-Ok-clause-now
returns-in-Ok-clause-now c = put-back (λ (x : Session). x.cycle ≡ c.args.until) c.put.new.self.handle.value _ c.put.ensures.session (c.in-Ok.ensures {u = tt}).now

pub returns-in-Ok-clause-well : goal.returns-in-Ok-clause-well
returns-in-Ok-clause-well c = well-put IsOpen c.put.new.self.is_open c.put.new.self.handle.value c.run.new.self c.put.ensures.«open» c.put.ensures.session (c.in-Ok.ensures {u = tt}).«open»

pub returns-in-Err-clause-answer : goal.returns-in-Err-clause-answer
returns-in-Err-clause-answer c s p is h =
    let kept = c.args.self.now in
    let value = c.in-Some.session.value in
    let lent = c.deref_mut.result.now in
    let took = (c.in-Some.ensures {u = tt}).session in
    let same : lent ≡ s = lent-is kept.handle.value value lent s took c.deref_mut.ensures.value is in
    refused (end_refusal s.cycle c.args.until) c.in-Err.fault (subst (λ (x : Session). IsAnswer {A = Unit {0}} (end_refusal x.cycle c.args.until) (Err c.in-Err.fault)) same (c.in-Err.ensures {u = tt}).answer)

pub returns-in-Err-clause-left : goal.returns-in-Err-clause-left
returns-in-Err-clause-left c p h other =
    let kept = c.args.self.now in
    let value = c.in-Some.session.value in
    let lent = c.deref_mut.result.now in
    let took = (c.in-Some.ensures {u = tt}).session in
    let left : c.run.new.self ≡ lent = (c.in-Err.ensures {u = tt}).same (λ e. other (ap call.Session e)) in
    put-back (λ (x : Session). IsSession x p) c.put-in-Err.new.self.handle.value _ c.put-in-Err.ensures.session
    (subst (λ x. IsSession x p) (sym left) (lent-fit (λ (x : Session). IsSession x p) kept.handle.value value lent took c.deref_mut.ensures.value h))

pub returns-in-Err-clause-stays : goal.returns-in-Err-clause-stays
returns-in-Err-clause-stays c cycle h other =
    let kept = c.args.self.now in
    let value = c.in-Some.session.value in
    let lent = c.deref_mut.result.now in
    let took = (c.in-Some.ensures {u = tt}).session in
    let left : c.run.new.self ≡ lent = (c.in-Err.ensures {u = tt}).same (λ e. other (ap call.Session e)) in
    put-back (λ (x : Session). x.cycle ≡ cycle) c.put-in-Err.new.self.handle.value _ c.put-in-Err.ensures.session
    (ap (λ (x : Session). x.cycle) left ∙ lent-fit (λ (x : Session). x.cycle ≡ cycle) kept.handle.value value lent took c.deref_mut.ensures.value h)

pub returns-in-Err-Memory-clause-answer : goal.returns-in-Err-Memory-clause-answer
returns-in-Err-Memory-clause-answer c s p is h =
    let fault = c.in-Err-Memory.field-0 in
    let same : c.deref_mut.result.now ≡ s = lent-is c.args.self.now.handle.value c.in-Some.session.value c.deref_mut.result.now s (c.in-Some.ensures {u = tt}).session c.deref_mut.ensures.value is in
    subst (λ e. IsCallAnswer {A = Unit {0}} (end_refusal s.cycle c.args.until) (Err (call.Session e))) c.in-Err-Memory.field-0-is
    (refused (end_refusal s.cycle c.args.until) fault (subst (λ (x : Session). IsAnswer {A = Unit {0}} (end_refusal x.cycle c.args.until) (Err fault)) same (c.in-Err-Memory.ensures {u = tt}).answer))

pub returns-in-Err-Memory-clause-well : goal.returns-in-Err-Memory-clause-well
returns-in-Err-Memory-clause-well c = (c.in-Some.ensures {u = tt}).well

pub returns-in-Err-clause-well : goal.returns-in-Err-clause-well
returns-in-Err-clause-well c =
    let kept = c.args.self.now in
    let other : c.in-Err.fault ≡ Memory → ⊥ = search rules in
    well-put IsOpen c.put-in-Err.new.self.is_open c.put-in-Err.new.self.handle.value c.run.new.self c.put-in-Err.ensures.«open» c.put-in-Err.ensures.session
    (subst IsOpen (sym ((c.in-Err.ensures {u = tt}).same other))
    (lent-well IsOpen kept.is_open kept.handle.value c.in-Some.session.value c.deref_mut.result.now (c.in-Some.ensures {u = tt}).session c.deref_mut.ensures.value c.requires.well))

pub returns-in-Err-clause-lost : goal.returns-in-Err-clause-lost
returns-in-Err-clause-lost c e =
    let other : c.in-Err.fault ≡ Memory → ⊥ = search rules in
    let same : c.in-Err.fault ≡ Memory = cc in
    absurd (other same)
