use Rattle.std.proofs.Common.{◌≡◌, ◌∙◌, sym, subst, Ok, Err}
use Rattle.sessions.specs.Sessions.{IsSession, IsOpen, IsAnswer, refusal, waiting_of, with_request}
use Rattle.sessions.specs.declared.channel_session.session.Session.{Session}
use Rattle.dramsim_c.proofs.CInterface.Keeping.{passed, refused, same-value, well-put, put-back, lent-fit, lent-is, lent-well}
use Rattle.dramsim_c.proofs.c_interface.channel.KeptChannel.send.Goals as goal

pub returns-in-Err-clause-answer : goal.returns-in-Err-clause-answer
returns-in-Err-clause-answer c s p is h =
    let request = c.args.request.now in
    let same : c.deref_mut.result.now ≡ s = c.deref_mut.ensures.value ∙ same-value c.args.self.now.handle.value c.in-Some.session.value s (c.in-Some.ensures {u = tt}).session is in
    refused (refusal s (waiting_of p s.cycle) request) c.in-Err.fault
    (subst (λ (x : Session). IsAnswer {A = Unit {0}} (refusal x (waiting_of p x.cycle) request) (Err c.in-Err.fault)) same
    ((c.in-Err.ensures {u = tt}).answer p (subst (λ (x : Session). IsSession x p) (sym same) h)))

pub returns-in-Ok-clause-answer : goal.returns-in-Ok-clause-answer
returns-in-Ok-clause-answer c s p is h =
    let kept = c.args.self.now in
    let value = c.in-Some.session.value in
    let lent = c.deref_mut.result.now in
    let took = (c.in-Some.ensures {u = tt}).session in
    let same : lent ≡ s = lent-is kept.handle.value value lent s took c.deref_mut.ensures.value is in
    passed (refusal s (waiting_of p s.cycle) c.args.request.now) tt
    (subst (λ (x : Session). IsAnswer {A = Unit {0}} (refusal x (waiting_of p x.cycle) c.args.request.now) (Ok tt)) same
    ((c.in-Ok.ensures {u = tt}).answer p (subst (λ (x : Session). IsSession x p) (sym same) h)))

pub returns-in-Ok-clause-sent : goal.returns-in-Ok-clause-sent
returns-in-Ok-clause-sent c p h =
    let kept = c.args.self.now in
    let value = c.in-Some.session.value in
    let lent = c.deref_mut.result.now in
    let took = (c.in-Some.ensures {u = tt}).session in
    put-back (λ (x : Session). IsSession x (with_request p c.args.request.now)) c.put.new.self.handle.value _ c.put.ensures.session
    ((c.in-Ok.ensures {u = tt}).sent p (lent-fit (λ (x : Session). IsSession x p) kept.handle.value value lent took c.deref_mut.ensures.value h))

pub returns-in-Ok-clause-now : goal.returns-in-Ok-clause-now
returns-in-Ok-clause-now c cycle h =
    let kept = c.args.self.now in
    let value = c.in-Some.session.value in
    let lent = c.deref_mut.result.now in
    let took = (c.in-Some.ensures {u = tt}).session in
    put-back (λ (x : Session). x.cycle ≡ cycle) c.put.new.self.handle.value _ c.put.ensures.session
    ((c.in-Ok.ensures {u = tt}).now ∙ lent-fit (λ (x : Session). x.cycle ≡ cycle) kept.handle.value value lent took c.deref_mut.ensures.value h)

pub returns-in-Ok-clause-well : goal.returns-in-Ok-clause-well
returns-in-Ok-clause-well c =
    let kept = c.args.self.now in
    let value = c.in-Some.session.value in
    let lent = c.deref_mut.result.now in
    let took = (c.in-Some.ensures {u = tt}).session in
    well-put IsOpen c.put.new.self.is_open c.put.new.self.handle.value c.send-result.new.self c.put.ensures.«open» c.put.ensures.session ((c.in-Ok.ensures {u = tt}).«open» (lent-well IsOpen kept.is_open kept.handle.value value lent took c.deref_mut.ensures.value c.requires.well))

pub returns-in-Err-clause-left : goal.returns-in-Err-clause-left
returns-in-Err-clause-left c p h =
    let kept = c.args.self.now in
    let value = c.in-Some.session.value in
    let lent = c.deref_mut.result.now in
    let took = (c.in-Some.ensures {u = tt}).session in
    put-back (λ (x : Session). IsSession x p) c.put.new.self.handle.value _ c.put.ensures.session
    ((c.in-Err.ensures {u = tt}).left p (lent-fit (λ (x : Session). IsSession x p) kept.handle.value value lent took c.deref_mut.ensures.value h))

pub returns-in-Err-clause-now : goal.returns-in-Err-clause-now
returns-in-Err-clause-now c cycle h =
    let kept = c.args.self.now in
    let value = c.in-Some.session.value in
    let lent = c.deref_mut.result.now in
    let took = (c.in-Some.ensures {u = tt}).session in
    put-back (λ (x : Session). x.cycle ≡ cycle) c.put.new.self.handle.value _ c.put.ensures.session
    ((c.in-Err.ensures {u = tt}).now ∙ lent-fit (λ (x : Session). x.cycle ≡ cycle) kept.handle.value value lent took c.deref_mut.ensures.value h)

pub returns-in-Err-clause-well : goal.returns-in-Err-clause-well
returns-in-Err-clause-well c =
    let kept = c.args.self.now in
    let value = c.in-Some.session.value in
    let lent = c.deref_mut.result.now in
    let took = (c.in-Some.ensures {u = tt}).session in
    well-put IsOpen c.put.new.self.is_open c.put.new.self.handle.value c.send-result.new.self c.put.ensures.«open» c.put.ensures.session ((c.in-Err.ensures {u = tt}).«open» (lent-well IsOpen kept.is_open kept.handle.value value lent took c.deref_mut.ensures.value c.requires.well))
