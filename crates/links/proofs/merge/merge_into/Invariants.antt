use Rattle.std.proofs.Common.{◌+◌, ◌-◌, ◌≤◌, length}
use Rattle.std.specs.Prelude.{vec_len, vec_capacity}
use Rattle.links.proofs.Merging.{Merges}
use Rattle.links.proofs.merge.merge_into.Given as goal

abbrev pub invariant-loop-a : goal.invariant-loop-a
invariant-loop-a l = record {
  merges : Merges l.i l.j l.first l.second l.all.items;
  room : vec_len l.all + (length l.first - l.i + (length l.second - l.j)) ≤ vec_capacity l.all;
}

abbrev pub decreases-loop-a : goal.decreases-loop-a
decreases-loop-a l = (length l.first + length l.second) - (l.i + l.j)
