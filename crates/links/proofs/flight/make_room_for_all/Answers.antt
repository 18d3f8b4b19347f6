use Rattle.std.proofs.Common.{length, subst}
use Rattle.links.specs.Buffers.{HasRoom}
use Rattle.links.proofs.Room.{Grows-trans, HaveRoom-grows, room_more}
use Rattle.links.proofs.flight.make_room_for_all.Goals as goal

pub returns-in_err-make_room_at-clause-grows : goal.returns-in_err-make_room_at-clause-grows
returns-in_err-make_room_at-clause-grows c = Grows-trans _ _ _ c.loop-message.invariant.grows c.make_room_at.ensures.grows

pub loop-message-preserved : goal.loop-message-preserved
loop-message-preserved c = record {
  grows = Grows-trans _ _ _ c.loop-message.invariant.grows c.make_room_at.ensures.grows;
  room = room_more _ _ _ _ _ _ c.loop-message-test.true
      (HaveRoom-grows _ _ _ _ _ c.make_room_at.ensures.grows c.loop-message.invariant.room)
      (subst (λ number. HasRoom c.make_room_at.new.buffers.items number (length c.args.messages.now)) c.number_of-number.ensures.number c.in_ok-make_room_at.ensures.room);
}
