use Rattle.std.proofs.Common.{ℕ, ◌<◌, get_or}
use Rattle.links.specs.Buffers.{HasRoom, Grows}
use Rattle.links.proofs.flight.make_counted_room.Given as goal

abbrev pub invariant-loop-number : goal.invariant-loop-number
invariant-loop-number l = record {
  grows : Grows l.initial.buffers.items l.buffers.items;
  room : (n : ℕ) → n < l.number → HasRoom l.buffers.items n (get_or l.counts n 0);
}
