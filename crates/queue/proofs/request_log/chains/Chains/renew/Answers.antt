-- Each request of the log joins the chains behind those before it.
use Rattle.std.proofs.Common.{take, sym, subst, ◌∙◌, arith}
use Rattle.std.proofs.lemmas.List.{take_all}
use Rattle.queue.specs.Chains.{classes_of, AreChained}
use Rattle.queue.proofs.Chained.{chained-none, classes-more, classes-taken}
use Rattle.queue.proofs.request_log.chains.Chains.renew.Goals as goal

pub loop-arrived-init : goal.loop-arrived-init
loop-arrived-init c =
    let h = c.requires.chained.chained in (
      chained-none _ _ c.clear.ensures.items (c.fill.ensures.items (λ y e. e)) (omega (arith, c.args.self.now.last.ok.0, h.lasts_count)),
      c.clear.ensures.capacity,
    )

pub join-requires-clause-chained : goal.join-requires-clause-chained
join-requires-clause-chained c = record { classes = classes_of (take c.loop-arrived.arrived-index c.args.log.now); chained = c.loop-arrived.invariant.0 }

pub join-requires-clause-short : goal.join-requires-clause-short
join-requires-clause-short c =
    omega (arith, c.requires.short, c.loop-arrived.invariant.0.count, classes-taken c.args.log.now c.loop-arrived.arrived-index, c.loop-arrived-test.true)

pub join-requires-clause-room : goal.join-requires-clause-room
join-requires-clause-room c =
    omega (arith, c.requires.room, c.loop-arrived.invariant.0.count, c.loop-arrived.invariant.1, classes-taken c.args.log.now c.loop-arrived.arrived-index, c.loop-arrived-test.true)

pub loop-arrived-preserved : goal.loop-arrived-preserved
loop-arrived-preserved c =
    let i = c.loop-arrived.arrived-index in
    let log = c.args.log.now in (
      subst (λ classes. AreChained classes c.join.new.self) (sym (classes-more log i c.class_of.result _ c.class_of.ensures.value c.loop-arrived-test.true))
          (c.join.ensures.chained (classes_of (take i log)) c.loop-arrived.invariant.0),
      c.join.ensures.room ∙ c.loop-arrived.invariant.1,
    )

pub returns-clause-chained : goal.returns-clause-chained
returns-clause-chained c =
    let log = c.args.log.now in
    subst (λ taken. AreChained (classes_of taken) c.loop-arrived.self) (take_all c.loop-arrived.arrived-index log (omega (arith, c.loop-arrived-test.false))) c.loop-arrived.invariant.0
