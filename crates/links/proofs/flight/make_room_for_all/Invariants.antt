use Rattle.std.proofs.Common.{length, take}
use Rattle.links.specs.Buffers.{HaveRoom, Grows}
use Rattle.links.proofs.flight.make_room_for_all.Given as goal

abbrev pub invariant-loop-message : goal.invariant-loop-message
invariant-loop-message l = record {
  grows : Grows l.initial.buffers.items l.buffers.items;
  room : HaveRoom l.channels l.buffers.items (length l.messages) (take l.message-index l.messages);
}
