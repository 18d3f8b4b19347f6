use Rattle.std.specs.Arc.{arc_value}
use Rattle.shards.proofs.Splitting.{units-wait}
use Rattle.shards.proofs.split.shards_of.Goals as goal

pub shards_from-requires-clause-wait : goal.shards_from-requires-clause-wait
shards_from-requires-clause-wait c =
    let f = c.sim.inside in
    let m = arc_value f.machine in
    units-wait m f.now f.parts.items c.in_ok-units.units.items c.sim.invariant.stand (c.in_ok-units.ensures {u = tt})
