use Rattle.std.proofs.Common.{arith}
use Rattle.links.proofs.Room.{TakesUp, in_order_at, buffers_more, messages_more}
use Rattle.links.proofs.Counted.{buffer_there, room_there, room_left}
use Rattle.links.proofs.flight.put_all.Goals as goal

pub index_mut-requires : goal.index_mut-requires
index_mut-requires c =
    omega (arith, c.loop-message.buffers.ok, buffer_there _ _ _ _ _ _ c.loop-message.invariant.room c.loop-message-test.true c.number_of-number.ensures.number)

pub put_by_age-requires-clause-room : goal.put_by_age-requires-clause-room
put_by_age-requires-clause-room c = room_there _ _ _ _ _ _ _ c.loop-message.invariant.room c.loop-message-test.true c.number_of-number.ensures.number c.index_mut.ensures.value

pub put_by_age-requires-clause-in_order : goal.put_by_age-requires-clause-in_order
put_by_age-requires-clause-in_order c =
    in_order_at _ _ _ _ c.loop-message.invariant.buffers
    (buffer_there _ _ _ _ _ _ c.loop-message.invariant.room c.loop-message-test.true c.number_of-number.ensures.number) c.index_mut.ensures.value

pub loop-message-preserved : goal.loop-message-preserved
loop-message-preserved c =
    let number = c.number_of-number.ensures.number in
    let at = c.index_mut.ensures.value in
    let exists = buffer_there _ _ _ _ _ _ c.loop-message.invariant.room c.loop-message-test.true number in
    let up : TakesUp _ c.index_mut.result.now c.put_by_age.new.self = record { items = c.put_by_age.ensures.items; capacity = c.put_by_age.ensures.capacity } in
    record {
      buffers = buffers_more _ _ _ _ _ _ exists at up number c.loop-message.invariant.buffers;
      messages = messages_more _ _ _ _ _ _ _ _ _ exists at up number c.loop-message.invariant.buffers c.loop-message-test.true c.loop-message.invariant.messages;
      room = room_left _ _ _ _ _ _ _ _ c.loop-message-test.true exists at up number c.loop-message.invariant.room;
    }
