use Rattle.std.proofs.Common.{get_or, ap, subst, ◌∙◌}
use Rattle.links.specs.Buffers.{CanTakeUp}
use Rattle.links.proofs.Counted.{can_take_up, counted_room}
use Rattle.links.proofs.flight.make_room_for.Goals as goal

pub returns-then-messages-gt-FEW_MESSAGES-clause-room : goal.returns-then-messages-gt-FEW_MESSAGES-clause-room
returns-then-messages-gt-FEW_MESSAGES-clause-room c = counted_room c.args.channels _ c.args.messages.now _ (λ n. ap (λ counts. get_or counts n 0) c.deref.ensures.value ∙ c.in_ok-counts.ensures n) c.in_ok-make_counted_room.ensures.room

pub returns-in_ok-make_room_for_all-clause-room : goal.returns-in_ok-make_room_for_all-clause-room
returns-in_ok-make_room_for_all-clause-room c = can_take_up _ _ _ c.in_ok-make_room_for_all.ensures.room

pub returns-else-not-is_room_for-clause-room : goal.returns-else-not-is_room_for-clause-room
returns-else-not-is_room_for-clause-room c =
    subst (λ buffers. CanTakeUp c.args.channels buffers c.args.messages.now) c.deref-2.ensures.value (can_take_up _ _ _ (c.is_room_for.ensures c.if-not-is_room_for.false))
