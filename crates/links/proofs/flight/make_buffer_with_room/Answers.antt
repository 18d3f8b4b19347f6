use Rattle.links.proofs.Room.{grown}
use Rattle.links.proofs.flight.make_buffer_with_room.Goals as goal

pub returns-clause-grows : goal.returns-clause-grows
returns-clause-grows c =
    grown _ _ _ _ _ c.make_buffers.ensures.grows c.in_ok-make_buffers.ensures.count c.index_mut.ensures.value c.make_room.ensures.items c.make_room.ensures.capacity
