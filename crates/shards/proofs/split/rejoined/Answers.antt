use Rattle.std.specs.Arc.{arc_value}
use Rattle.shards.proofs.Splitting.{shards-early}
use Rattle.shards.proofs.split.rejoined.Goals as goal

pub invariant_of-result : goal.invariant_of-result
invariant_of-result c =
    let layout = c.args.layout in
    let all = c.in_ok-join_all.ensures {u = tt} in
    record {
      counted = c.requires.counted;
      early = shards-early (arc_value layout.machine) layout.bounds.items layout.at c.args.shards.items c.requires.shards;
      count = all.count;
      stand = all.stand;
      flight = all.links;
    }
