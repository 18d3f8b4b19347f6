use Rattle.std.proofs.Common.{refl, ap, ◌∙◌}
use Rattle.std.specs.Prelude.{fold}
use Rattle.sim_base.specs.History.{by_age, insert_by_age}
use Rattle.links.specs.Buffers.{buffer_messages}
use Rattle.sim_base.proofs.Results.{on_err}
use Rattle.links.proofs.flight.take_up.Goals as goal

pub put_all-requires-clause-buffers : goal.put_all-requires-clause-buffers
put_all-requires-clause-buffers c = c.in_ok-make_room_for.ensures.grows.buffers c.args.channels 0 c.requires.buffers

pub put_all-requires-clause-room : goal.put_all-requires-clause-room
put_all-requires-clause-room c = c.in_ok-make_room_for.ensures.room

pub returns-in_err-put_in_order-clause-same : goal.returns-in_err-put_in_order-clause-same
returns-in_err-put_in_order-clause-same c = c.put_in_order.ensures.same

pub returns-in_err-put_in_order-clause-err : goal.returns-in_err-put_in_order-clause-err
returns-in_err-put_in_order-clause-err c = on_err _ _ refl

pub returns-in_err-make_room_for-clause-buffers : goal.returns-in_err-make_room_for-clause-buffers
returns-in_err-make_room_for-clause-buffers c = c.make_room_for.ensures.grows.buffers c.args.channels 0 c.requires.buffers

pub returns-in_err-make_room_for-clause-err : goal.returns-in_err-make_room_for-clause-err
returns-in_err-make_room_for-clause-err c = on_err _ _ c.make_room_for.ensures.grows.messages

pub returns-clause-ok : goal.returns-clause-ok
returns-clause-ok c =
    c.put_all.ensures.messages
    ∙ ap (λ ms. fold insert_by_age (by_age ms) c.put_in_order.new.messages) c.in_ok-make_room_for.ensures.grows.messages
    ∙ c.put_in_order.ensures.puts (buffer_messages c.args.buffers.now.items)

pub returns-clause-same : goal.returns-clause-same
returns-clause-same c = c.put_in_order.ensures.same
