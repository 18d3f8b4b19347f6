use Rattle.std.proofs.Common.{◌≡◌, None, ◌∙◌, ap}
use Rattle.std.specs.Prelude.{fold}
use Rattle.links.specs.Buffers.{contents, earlier_arrival}
use Rattle.links.proofs.Next.{fold-contents, earliest_bounds, earliest_is, least_of_all, attained, none_where_empty, empty_where_none}
use Rattle.links.proofs.flight.Links.next_arrival.Goals as goal
use Rattle.links.proofs.flight.Links.next_arrival.Goals.{After-earliest}

least : (c : After-earliest) → c.earliest.result ≡ fold earlier_arrival None (contents c.self.inside.buffers.items)
least c = c.earliest.ensures ∙ ap (λ buffers. fold (λ least buffer. earlier_arrival least buffer.items) None buffers) c.deref.ensures.value ∙ fold-contents None c.self.inside.buffers.items

pub returns-clause-none : goal.returns-clause-none
returns-clause-none c =
    rw (← c.self.view_is, least c)
    (empty_where_none _ _ (earliest_bounds _ _ c.self.invariant.1), none_where_empty _ _ (earliest_is (contents c.self.inside.buffers.items)))

pub returns-clause-least : goal.returns-clause-least
returns-clause-least c = rw (← c.self.view_is, least c) (least_of_all _ _ (earliest_bounds _ _ c.self.invariant.1))

pub returns-clause-attained : goal.returns-clause-attained
returns-clause-attained c = rw (← c.self.view_is, least c) (attained _ _ (earliest_is (contents c.self.inside.buffers.items)))
