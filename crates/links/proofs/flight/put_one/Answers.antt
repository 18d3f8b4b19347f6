use Rattle.std.proofs.Common.{◌≡◌, ◌↔◌, [], get_or, sym, ap, subst, ◌∙◌}
use Rattle.std.specs.Prelude.{filter, IsNone}
use Rattle.sim_base.specs.History.{insert_by_age, by_age}
use Rattle.links.specs.Buffers.{GoesBehind, contents, goes_to}
use Rattle.links.proofs.Held.{all_held}
use Rattle.links.proofs.Room.{TakesUp, items_at, in_order_at, buffers_more, message_more}
use Rattle.links.proofs.flight.put_one.Goals as goal

pub put_by_age-placed-requires-clause-in_order : goal.put_by_age-placed-requires-clause-in_order
put_by_age-placed-requires-clause-in_order c =
    in_order_at _ _ _ _ (c.make_room_at.ensures.grows.buffers _ 0 c.requires.buffers) c.in_ok-make_room_at.ensures.room.exists c.index_mut.ensures.value

pub returns-clause-buffers : goal.returns-clause-buffers
returns-clause-buffers c =
    let up : TakesUp _ c.index_mut.result.now c.put_by_age-placed.new.self = record { items = c.put_by_age-placed.ensures.items; capacity = c.put_by_age-placed.ensures.capacity } in
    buffers_more _ _ _ _ _ _ c.in_ok-make_room_at.ensures.room.exists c.index_mut.ensures.value up c.number_of-number.ensures.number (c.make_room_at.ensures.grows.buffers _ 0 c.requires.buffers)

pub returns-clause-ok : goal.returns-clause-ok
returns-clause-ok c =
    let up : TakesUp _ c.index_mut.result.now c.put_by_age-placed.new.self = record { items = c.put_by_age-placed.ensures.items; capacity = c.put_by_age-placed.ensures.capacity } in
    message_more _ _ _ _ _ _ c.in_ok-make_room_at.ensures.room.exists c.index_mut.ensures.value up c.number_of-number.ensures.number (c.make_room_at.ensures.grows.buffers _ 0 c.requires.buffers)
    ∙ ap (λ ms. insert_by_age (by_age ms) c.args.message.now) c.make_room_at.ensures.grows.messages

-- a buffer that may have got more room holds what it held
pub returns-clause-behind : goal.returns-clause-behind
returns-clause-behind c =
    let ch = c.args.channels in
    let n = c.number_of-number.result in
    let old = contents c.args.buffers.now.items in
    let grown = contents c.make_room_at.new.buffers.items in
    let same : get_or grown n [] ≡ get_or old n [] =
    sym (all_held ch n grown (c.make_room_at.ensures.grows.buffers ch 0 c.requires.buffers))
    ∙ ap (λ ms. filter (goes_to ch n) (by_age ms)) c.make_room_at.ensures.grows.messages
    ∙ all_held ch n old c.requires.buffers in
    let here : get_or grown n [] ≡ c.index_mut.result.now.items = items_at n c.index_mut.result.now _ c.in_ok-make_room_at.ensures.room.exists c.index_mut.ensures.value in
    let behind = c.put_by_age-placed.ensures.behind in
    let none = c.unless_behind.ensures.behind in
    subst (λ k. IsNone c.unless_behind.result ↔ GoesBehind c.args.message.now (get_or old k [])) c.number_of-number.ensures.number
    (subst (λ ms. IsNone c.unless_behind.result ↔ GoesBehind c.args.message.now ms) (sym here ∙ same) (λ is. behind.0 (none.0 is), λ h. none.1 (behind.1 h)))
