use Rattle.std.proofs.Common.{suc, ◌<◌, ◌≤◌, ◌∙◌, length, refl, ap, take_all, arith}
use Rattle.units.specs.Flight.{among}
use Rattle.shards.specs.Lists.{bound}
use Rattle.shards.proofs.Columns.{sorted-more}
use Rattle.shards.proofs.exchange.sort_by_shard.Goals as goal

pub loop-message-init : goal.loop-message-init
loop-message-init c = record { count = refl; each = c.requires.empty }

pub put_by_shard-requires-clause-count : goal.put_by_shard-requires-clause-count
put_by_shard-requires-clause-count c = ap suc c.loop-message.invariant.count ∙ c.requires.count

pub loop-message-preserved : goal.loop-message-preserved
loop-message-preserved c =
    let s = c.args.config.now in
    let bounds = c.args.bounds.now in
    let at = c.loop-message in
    let put = c.in_ok-put_by_shard.ensures {u = tt} in
    record {
      count = put.count ∙ at.invariant.count;
      each = λ index d l.
          let on : index < length at.lists = omega (arith, l, at.invariant.count) in
          sorted-more s (bound bounds index) (bound bounds (suc index)) c.args.sent.now at.message-index _ _ _ c.loop-message-test.true (put.each index d on) (at.invariant.each index d l);
    }

pub returns : goal.returns
returns c =
    let s = c.args.config.now in
    let bounds = c.args.bounds.now in
    let at = c.loop-message in
    let over : length c.args.sent.now ≤ at.message-index = omega (arith, c.loop-message-test.false) in
    record {
      count = at.invariant.count;
      each = λ index d l.
          at.invariant.each index d (omega (arith, l, at.invariant.count))
          ∙ ap (among s (bound bounds index) (bound bounds (suc index))) (take_all at.message-index c.args.sent.now over);
    }
