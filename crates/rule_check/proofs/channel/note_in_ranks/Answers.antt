-- One rank more.
use Rattle.std.proofs.Common.{◌<◌, length, arith}
use Rattle.rule_check.specs.declared.state.Rank.{Rank}
use Rattle.rule_check.specs.Kept.{rank_after}
use Rattle.rule_check.proofs.Loops.{one_changed, others_left}
use Rattle.rule_check.proofs.channel.note_in_ranks.Goals as goal

pub loop-k-preserved : goal.loop-k-preserved
loop-k-preserved c =
    let inside : c.loop-k.k < length c.loop-k.ranks = omega arith in
    record {
      noted =
          one_changed (λ k (x : Rank). rank_after c.args.t.now k c.args.cycle c.args.command x) c.loop-k.ranks c.args.ranks.now c.loop-k.k c.note_in_rank.new.state _ inside
          c.loop-k.invariant.noted c.loop-k.invariant.left c.note_in_rank.ensures;
      left = others_left c.loop-k.ranks c.args.ranks.now c.loop-k.k c.note_in_rank.new.state c.loop-k.invariant.left;
    }
