-- The command is noted in each group so far, and in no other.
use Rattle.std.proofs.Common.{◌≡◌, ◌<◌, ◌≤◌, ◌/◌, ◌%◌, ℕ, get_or}
use Rattle.rule_check.specs.Kept.{group_after}
use Rattle.rule_check.specs.declared.state.Group.{Group}
use Rattle.rule_check.proofs.channel.note_in_groups.Given as goal

abbrev pub invariant-loop-k : goal.invariant-loop-k
invariant-loop-k l = record {
  noted : (k : ℕ) (d : Group) → k < l.k → get_or l.groups k d ≡ group_after (k / 4) (k % 4) l.cycle l.command (get_or l.fn.groups k d);
  left : (k : ℕ) (d : Group) → l.k ≤ k → get_or l.groups k d ≡ get_or l.fn.groups k d;
}
