use Rattle.std.proofs.Common.{length, take}
use Rattle.links.specs.Buffers.{HaveRoom}
use Rattle.links.proofs.flight.is_room_for.Given as goal

abbrev pub invariant-loop-message : goal.invariant-loop-message
invariant-loop-message l = HaveRoom l.channels l.buffers (length l.messages) (take l.message-index l.messages)
