use Rattle.std.proofs.Common.{length, subst}
use Rattle.links.specs.Buffers.{HasRoom}
use Rattle.links.proofs.Room.{room_more}
use Rattle.links.proofs.flight.is_room_for.Goals as goal

pub loop-message-preserved : goal.loop-message-preserved
loop-message-preserved c =
    room_more _ _ _ _ _ _ c.loop-message-test.true c.loop-message.invariant
    (subst (λ number. HasRoom c.args.buffers.now number (length c.args.messages.now)) c.number_of-number.ensures.number (c.has_room.ensures.0 c.if-not-has_room.false))
