use Rattle.std.proofs.Common.{◌≡◌, ◌∙◌, sym, subst}
use Rattle.sessions.specs.Sessions.{IsSession, IsOpen, with_reply, next_reply_of}
use Rattle.sessions.specs.declared.channel_session.session.Session.{Session}
use Rattle.std.specs.Prelude.{option_map}
use Rattle.dramsim_c.specs.CInterface.Rows.{reply_row}
use Rattle.dramsim_c.proofs.CInterface.Keeping.{well-put, put-back, lent-fit, lent-is, lent-well}
use Rattle.dramsim_c.proofs.c_interface.channel.KeptChannel.next_reply.Goals as goal

pub returns-clause-next : goal.returns-clause-next
returns-clause-next c s p is h =
    let kept = c.args.self.now in
    let value = c.in-Some.session.value in
    let lent = c.deref_mut.result.now in
    let took = (c.in-Some.ensures {u = tt}).session in
    let same : lent ≡ s = lent-is kept.handle.value value lent s took c.deref_mut.ensures.value is in
    subst (λ (x : Session). c.reply_of-reply.result ≡ option_map (reply_row p.config) (next_reply_of p x.cycle)) same (c.reply_of-reply.ensures.next p (subst (λ x. IsSession x p) (sym same) h))

pub returns-clause-taken : goal.returns-clause-taken
returns-clause-taken c s p is h =
    let kept = c.args.self.now in
    let value = c.in-Some.session.value in
    let lent = c.deref_mut.result.now in
    let took = (c.in-Some.ensures {u = tt}).session in
    let same : lent ≡ s = lent-is kept.handle.value value lent s took c.deref_mut.ensures.value is in
    put-back (λ (x : Session). IsSession x (with_reply p (next_reply_of p s.cycle))) c.put.new.self.handle.value _ c.put.ensures.session
    (subst (λ (x : Session). IsSession c.reply_of-reply.new.session (with_reply p (next_reply_of p x.cycle))) same (c.reply_of-reply.ensures.taken p (subst (λ x. IsSession x p) (sym same) h)))

pub returns-clause-now : goal.returns-clause-now
returns-clause-now c cycle h =
    let kept = c.args.self.now in
    let value = c.in-Some.session.value in
    let lent = c.deref_mut.result.now in
    let took = (c.in-Some.ensures {u = tt}).session in
    put-back (λ (x : Session). x.cycle ≡ cycle) c.put.new.self.handle.value _ c.put.ensures.session
    (c.reply_of-reply.ensures.now ∙ lent-fit (λ (x : Session). x.cycle ≡ cycle) kept.handle.value value lent took c.deref_mut.ensures.value h)

pub returns-clause-well : goal.returns-clause-well
returns-clause-well c =
    let kept = c.args.self.now in
    let value = c.in-Some.session.value in
    let lent = c.deref_mut.result.now in
    let took = (c.in-Some.ensures {u = tt}).session in
    well-put IsOpen c.put.new.self.is_open c.put.new.self.handle.value c.reply_of-reply.new.session c.put.ensures.«open» c.put.ensures.session (c.reply_of-reply.ensures.«open» (lent-well IsOpen kept.is_open kept.handle.value value lent took c.deref_mut.ensures.value c.requires.well))
