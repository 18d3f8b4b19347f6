use Rattle.std.proofs.Common.{◌≡◌, ◌∙◌, sym, subst}
use Rattle.sessions.specs.Sessions.{IsSession, IsOpen, with_command, next_command_of}
use Rattle.sessions.specs.declared.channel_session.session.Session.{Session}
use Rattle.dramsim_c.proofs.CInterface.Keeping.{well-put, put-back, lent-fit, lent-is, lent-well}
use Rattle.dramsim_c.proofs.c_interface.channel.KeptChannel.next_command.Goals as goal

pub returns-clause-next : goal.returns-clause-next
returns-clause-next c s p is h =
    let kept = c.args.self.now in
    let value = c.in-Some.session.value in
    let lent = c.deref_mut.result.now in
    let took = (c.in-Some.ensures {u = tt}).session in
    let same : lent ≡ s = lent-is kept.handle.value value lent s took c.deref_mut.ensures.value is in
    subst (λ (x : Session). c.next_command-command.result ≡ next_command_of p x.cycle) same (c.next_command-command.ensures.next p (subst (λ x. IsSession x p) (sym same) h))

pub returns-clause-taken : goal.returns-clause-taken
returns-clause-taken c p h =
    let kept = c.args.self.now in
    let value = c.in-Some.session.value in
    let lent = c.deref_mut.result.now in
    let took = (c.in-Some.ensures {u = tt}).session in
    put-back (λ (x : Session). IsSession x (with_command p c.next_command-command.result)) c.put.new.self.handle.value _ c.put.ensures.session
    (c.next_command-command.ensures.taken p (lent-fit (λ (x : Session). IsSession x p) kept.handle.value value lent took c.deref_mut.ensures.value h))

pub returns-clause-now : goal.returns-clause-now
returns-clause-now c cycle h =
    let kept = c.args.self.now in
    let value = c.in-Some.session.value in
    let lent = c.deref_mut.result.now in
    let took = (c.in-Some.ensures {u = tt}).session in
    put-back (λ (x : Session). x.cycle ≡ cycle) c.put.new.self.handle.value _ c.put.ensures.session
    (c.next_command-command.ensures.now ∙ lent-fit (λ (x : Session). x.cycle ≡ cycle) kept.handle.value value lent took c.deref_mut.ensures.value h)

pub returns-clause-well : goal.returns-clause-well
returns-clause-well c =
    let kept = c.args.self.now in
    let value = c.in-Some.session.value in
    let lent = c.deref_mut.result.now in
    let took = (c.in-Some.ensures {u = tt}).session in
    well-put IsOpen c.put.new.self.is_open c.put.new.self.handle.value c.next_command-command.new.self c.put.ensures.«open» c.put.ensures.session (c.next_command-command.ensures.«open» (lent-well IsOpen kept.is_open kept.handle.value value lent took c.deref_mut.ensures.value c.requires.well))
