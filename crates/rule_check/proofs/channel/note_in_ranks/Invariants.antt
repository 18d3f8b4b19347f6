-- The command is noted in each rank so far, and in no other.
use Rattle.std.proofs.Common.{◌≡◌, ◌<◌, ◌≤◌, ℕ, get_or}
use Rattle.rule_check.specs.Kept.{rank_after}
use Rattle.rule_check.specs.declared.state.Rank.{Rank}
use Rattle.rule_check.proofs.channel.note_in_ranks.Given as goal

abbrev pub invariant-loop-k : goal.invariant-loop-k
invariant-loop-k l = record {
  noted : (k : ℕ) (d : Rank) → k < l.k → get_or l.ranks k d ≡ rank_after l.t k l.cycle l.command (get_or l.fn.ranks k d);
  left : (k : ℕ) (d : Rank) → l.k ≤ k → get_or l.ranks k d ≡ get_or l.fn.ranks k d;
}
