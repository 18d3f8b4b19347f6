use Rattle.std.proofs.Common.{◌<◌, length, length-set, set, drop, sym, ap, ◌∙◌, arith}
use Rattle.std.proofs.lemmas.List.{get_or-set_same}
use Rattle.links.specs.InFlight.{first_arrival}
use Rattle.links.proofs.Room.{items_at, taken_out}
use Rattle.links.proofs.flight.drop_in.Goals as goal

pub returns-clause-rest : goal.returns-clause-rest
returns-clause-rest c =
    let exists : c.args.number < length c.args.buffers.now.items = omega (arith, c.if-number-len.false, c.len.ensures) in
    taken_out _ _ _ _ (c.drop_first.ensures.rest ∙ ap (drop c.args.count) (sym (items_at _ _ _ exists c.index_mut.ensures.value)))

pub returns-clause-next : goal.returns-clause-next
returns-clause-next c =
    let buffers = c.args.buffers.now.items in
    let number = c.args.number in
    let left = c.drop_first.new.self in
    let exists : number < length buffers = omega (arith, c.if-number-len.false, c.len.ensures) in
    let still : number < length (set buffers number left) = omega (arith, exists, length-set buffers number left) in
    c.drop_first.ensures.next
    ∙ ap first_arrival (sym (items_at number left (set buffers number left) still (sym (get_or-set_same buffers number left left exists))))
