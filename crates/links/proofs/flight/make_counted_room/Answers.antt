use Rattle.std.proofs.Common.{arith}
use Rattle.links.proofs.Room.{Grows-trans}
use Rattle.links.proofs.Counted.{rooms_more}
use Rattle.links.proofs.flight.make_counted_room.Goals as goal

pub returns-in_err-make_room_at-clause-grows : goal.returns-in_err-make_room_at-clause-grows
returns-in_err-make_room_at-clause-grows c = Grows-trans _ _ _ c.loop-number.invariant.grows c.make_room_at.ensures.grows

pub loop-number-preserved : goal.loop-number-preserved
loop-number-preserved c = record {
  grows = Grows-trans _ _ _ c.loop-number.invariant.grows c.make_room_at.ensures.grows;
  room = rooms_more _ _ _ _ c.make_room_at.ensures.grows c.loop-number.invariant.room c.in_ok-make_room_at.ensures.room;
}

pub returns-clause-room : goal.returns-clause-room
returns-clause-room c = λ number l. c.loop-number.invariant.room number (omega (arith, l, c.loop-number-test.false))
