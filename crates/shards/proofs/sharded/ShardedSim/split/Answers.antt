use Rattle.std.proofs.Common.{◌≡◌, length, sym, subst, ◌∙◌, arith}
use Rattle.std.specs.Arc.{arc_value}
use Rattle.shards.specs.Shards.{AreShards, IsSharded}
use Rattle.units.specs.Views.{SimView}
use Rattle.units.specs.declared.machine.Machine.{Machine}
use Rattle.shards.proofs.Phases.{sharded-begins}
use Rattle.shards.proofs.sharded.ShardedSim.split.Goals as goal

pub invariant_of-result : goal.invariant_of-result
invariant_of-result c =
    let f = c.sim.inside in
    let m = arc_value f.machine in
    let h = c.sim.invariant in
    let bounds = c.in_ok-bounds.bounds.items in
    let shards = c.in_ok-shards.shards.items in
    let none = c.in_ok-inbound.ensures {u = tt} in
    let there : AreShards m bounds f.now shards =
    subst (λ bs. AreShards m bs f.now shards) c.deref-2.ensures.value
    (subst (λ (v : SimView). AreShards v.machine c.deref-2.result.now v.now shards) (sym c.sim.view_is) (c.in_ok-shards.ensures {u = tt})) in
    let many : length shards ≡ c.args.count = omega (arith, there.count, (c.in_ok-bounds.ensures {u = tt}).count) in
    subst (λ (x : Machine). IsSharded x bounds f.now f.phase f.now shards c.in_ok-inbound.inbound.items) (sym (c.in_ok-machine.ensures {u = tt}).cases)
    (sharded-begins m bounds f.now f.phase shards c.in_ok-inbound.inbound.items h.counted h.early there (none.count ∙ sym many)
    (λ index d less. none.square index d (omega (arith, less, many)) ∙ sym many)
    (λ index d less. none.empty index d (omega (arith, less, many))))
