use Rattle.std.proofs.Common.{◌≡◌, ◌∙◌, sym, subst, ap, Some}
use Rattle.sessions.specs.Sessions.{IsSession, IsOpen}
use Rattle.sessions.specs.declared.channel_session.session.Session.{Session}
use Rattle.sessions.specs.Ahead.{IsNextAct}
use Rattle.dramsim_c.proofs.CInterface.Keeping.{well-open, well-put, lent-is, lent-well}
use Rattle.dramsim_c.proofs.c_interface.channel.KeptChannel.next_act.Goals as goal

pub next_act-cycle-requires : goal.next_act-cycle-requires
next_act-cycle-requires c =
    let kept = c.args.self.now in
    record { «open» = subst IsOpen (sym c.deref_mut.ensures.value) (well-open IsOpen kept.is_open kept.handle.value c.in-Some.session.value (c.in-Some.ensures {u = tt}).session c.requires.well) }

pub returns-clause-next : goal.returns-clause-next
returns-clause-next c s p is h =
    let kept = c.args.self.now in
    let value = c.in-Some.session.value in
    let lent = c.deref_mut.result.now in
    let took = (c.in-Some.ensures {u = tt}).session in
    let same : lent ≡ s = lent-is kept.handle.value value lent s took c.deref_mut.ensures.value is in
    subst (λ (x : Session). IsNextAct p x.cycle c.next_act-cycle.result) same (c.next_act-cycle.ensures.next p (subst (λ x. IsSession x p) (sym same) h))

pub returns-clause-kept : goal.returns-clause-kept
returns-clause-kept c =
    let kept = c.args.self.now in
    let value = c.in-Some.session.value in
    let lent = c.deref_mut.result.now in
    let took = (c.in-Some.ensures {u = tt}).session in
    c.put.ensures.session ∙ ap Some (c.next_act-cycle.ensures.same ∙ c.deref_mut.ensures.value) ∙ took

pub returns-clause-well : goal.returns-clause-well
returns-clause-well c =
    let kept = c.args.self.now in
    let value = c.in-Some.session.value in
    let lent = c.deref_mut.result.now in
    let took = (c.in-Some.ensures {u = tt}).session in
    well-put IsOpen c.put.new.self.is_open c.put.new.self.handle.value c.next_act-cycle.new.self c.put.ensures.«open» c.put.ensures.session (subst IsOpen (sym c.next_act-cycle.ensures.same) (lent-well IsOpen kept.is_open kept.handle.value value lent took c.deref_mut.ensures.value c.requires.well))
