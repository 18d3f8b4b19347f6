use Rattle.std.proofs.Common.{IsPermutation, map, ap, subst, ◌∙◌}
use Rattle.crew.specs.Rule.{PutView, put_view}
use Rattle.crew.proofs.caller.gather.Goals as goal

pub receive-requires : goal.receive-requires
receive-requires g c = ap (λ (v : PutView _). v.returned) (c.missing.ensures.same ∙ c.loop.invariant)

pub loop-preserved : goal.loop-preserved
loop-preserved g c =
    let task = g.D.DoneOf.task in
    c.in_ok-receive.ensures {u = tt}
    ∙ ap (λ (v : PutView _). put_view v.put (map task c.receive.new.results.items)) (c.missing.ensures.same ∙ c.loop.invariant)

pub returns-then-missing-eq0 : goal.returns-then-missing-eq0
returns-then-missing-eq0 g c = record {
  seat = c.missing.ensures.same ∙ c.loop.invariant;
  whole = subst (λ (v : PutView _). IsPermutation v.put v.returned) c.loop.invariant (c.missing.ensures.whole c.if-missing-eq0.true);
}
