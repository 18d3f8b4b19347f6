-- One group more.
use Rattle.std.proofs.Common.{◌<◌, ◌/◌, ◌%◌, length, arith}
use Rattle.rule_check.specs.declared.state.Group.{Group}
use Rattle.rule_check.specs.Kept.{group_after}
use Rattle.rule_check.proofs.Loops.{one_changed, others_left}
use Rattle.rule_check.proofs.channel.note_in_groups.Goals as goal

pub loop-k-preserved : goal.loop-k-preserved
loop-k-preserved c =
    let inside : c.loop-k.k < length c.loop-k.groups = omega arith in
    record {
      noted =
          one_changed (λ k (x : Group). group_after (k / 4) (k % 4) c.args.cycle c.args.command x) c.loop-k.groups c.args.groups.now c.loop-k.k c.note_in_group.new.state _ inside
          c.loop-k.invariant.noted c.loop-k.invariant.left c.note_in_group.ensures;
      left = others_left c.loop-k.groups c.args.groups.now c.loop-k.k c.note_in_group.new.state c.loop-k.invariant.left;
    }
