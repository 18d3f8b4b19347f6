use Rattle.std.proofs.Common.{◌≡◌, set, sym, ap, subst, ◌∙◌}
use Rattle.std.specs.Prelude.{◌≤◌, filter, All, IfSome}
use Rattle.sim_base.specs.declared.message.Message.{Message}
use Rattle.sim_base.specs.History.{by_age}
use Rattle.links.specs.InFlight.{first_arrival}
use Rattle.links.specs.Buffers.{contents, joined, goes_to, buffer_at, arrives_later, without_due_in, AreBuffers}
use Rattle.links.proofs.Ages.{filter-in_order, first_is_least, by_age-twice}
use Rattle.links.proofs.Both.{left_is, due_within, kept_is}
use Rattle.links.proofs.Held.{all_held, AreBuffers-filter}
use Rattle.links.proofs.flight.Links.drop_due.Goals as goal
use Rattle.links.proofs.flight.Links.drop_due.Goals.{After-drop_in}

pub drop_in-requires : goal.drop_in-requires
drop_in-requires c = due_within c.self.inside.channels c.args.number c.args.until c.args.count c.args.self.now _ c.self.invariant.1 (sym c.self.view_is) c.requires

left : (c : After-drop_in) → contents c.drop_in.new.buffers.items
    ≡ set (contents c.self.inside.buffers.items) c.args.number (filter (arrives_later c.args.until) (buffer_at (contents c.self.inside.buffers.items) c.args.number))
left c =
    c.drop_in.ensures.rest
    ∙ ap (set (contents c.self.inside.buffers.items) c.args.number)
    (left_is c.self.inside.channels c.args.number c.args.until c.args.count c.args.self.now _ c.self.invariant.1 (sym c.self.view_is) c.requires)

are : (c : After-drop_in) → AreBuffers c.self.inside.channels 0 (contents c.drop_in.new.buffers.items)
are c = subst (AreBuffers c.self.inside.channels 0) (sym (left c)) (AreBuffers-filter c.self.inside.channels c.args.number (arrives_later c.args.until) _ c.self.invariant.1)

pub invariant_of-self : goal.invariant_of-self
invariant_of-self c = (c.self.invariant.0, are c, c.self.invariant.2)

pub returns-clause-rest : goal.returns-clause-rest
returns-clause-rest c =
    ap (λ ms. record { channels = c.self.inside.channels; messages = ms })
    (ap (λ buffers. by_age (joined buffers)) (left c)
    ∙ kept_is c.self.inside.channels c.args.number c.args.until _ c.self.invariant.1)
    ∙ ap (λ flight. without_due_in flight c.args.number c.args.until) c.self.view_is

pub returns-clause-next : goal.returns-clause-next
returns-clause-next c = c.drop_in.ensures.next ∙ ap first_arrival (sym (all_held c.self.inside.channels c.args.number _ (are c)))

pub returns-clause-least : goal.returns-clause-least
returns-clause-least c =
    let all = by_age (joined (contents c.drop_in.new.buffers.items)) in
    let here = filter (goes_to c.self.inside.channels c.args.number) all in
    subst (λ r. IfSome r (λ cycle. All (λ (m : Message). cycle ≤ m.arrival) here))
    (sym (c.drop_in.ensures.next ∙ ap first_arrival (sym (all_held c.self.inside.channels c.args.number _ (are c)))))
    (first_is_least here (filter-in_order (goes_to c.self.inside.channels c.args.number) all (by_age-twice (joined (contents c.drop_in.new.buffers.items)))))
