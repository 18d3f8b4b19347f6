use Rattle.std.proofs.Common.{◌-◌, ◌≤◌, ap, subst, arith}
use Rattle.std.specs.Arc.{arc_value}
use Rattle.sim_base.specs.Locality.{TravelsFor}
use Rattle.shards.specs.Phases.{ShardedView}
use Rattle.units.specs.declared.machine.Machine.{Machine}
use Rattle.shards.proofs.Phases.{sharded-up_to}
use Rattle.shards.proofs.planning.plan.Goals as goal

pub stopped-requires : goal.stopped-requires
stopped-requires c =
    let f = c.sim.inside in
    let m = arc_value f.machine in
    let h = c.sim.invariant in
    let limit = c.args.limit in
    let now = ap (λ (v : ShardedView). v.now) c.sim.view_is in
    let past : f.now ≤ limit = omega (arith, now, c.requires.not_past) in
    record {
      split = h.split;
      early = c.requires.early;
      count = h.count;
      inbound_count = h.inbound_count;
      each = sharded-up_to m f.bounds.items f.now f.phase f.wake limit f.shards.items f.inbound.items h past c.if-wake-limit.true c.requires.early;
    }

pub jobs_for-requires : goal.jobs_for-requires
jobs_for-requires c =
    let f = c.sim.inside in
    let m = arc_value f.machine in
    let h = c.sim.invariant in
    let end = c.end_of_phase in
    let early : f.wake ≤ 1000000000000 = omega (arith, c.if-wake-limit.false, c.requires.early) in
    record {
      count = h.count;
      inbound_count = h.inbound_count;
      each = λ index d e less. record {
        before = sharded-up_to m f.bounds.items f.now f.phase f.wake f.wake f.shards.items f.inbound.items h h.since (omega arith) (omega (arith, early)) index d e less;
        next = end.ensures.some;
        early = omega (arith, end.ensures.within, c.requires.early);
        travels = subst (λ (x : Machine). TravelsFor x.config (end.result - f.wake)) c.deref.ensures end.ensures.travels;
      };
    }
