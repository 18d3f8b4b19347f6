use Rattle.std.proofs.Common.{◌≡◌, sym, ap, subst, ◌∙◌}
use Rattle.sim_base.specs.History.{by_age}
use Rattle.links.specs.InFlight.{arrives_before}
use Rattle.links.specs.Buffers.{contents, due_in, buffer_at}
use Rattle.links.proofs.Ages.{filter-in_order}
use Rattle.links.proofs.Both.{due_is}
use Rattle.links.proofs.Held.{buffer_is}
use Rattle.links.proofs.flight.Links.due_in.Goals as goal

pub due_in-requires : goal.due_in-requires
due_in-requires c =
    subst (λ buffers. by_age (buffer_at (contents buffers) c.args.number) ≡ buffer_at (contents buffers) c.args.number) (sym c.deref.ensures.value) (buffer_is _ c.args.number 0 _ c.self.invariant.1).in_order

pub returns-clause-due : goal.returns-clause-due
returns-clause-due c =
    c.due_in.ensures
    ∙ ap (λ buffers. due_in c.args.until buffers c.args.number) c.deref.ensures.value
    ∙ sym (due_is c.self.inside.channels c.args.number c.args.until c.args.self.now _ c.self.invariant.1 (sym c.self.view_is))

pub returns-clause-by_age : goal.returns-clause-by_age
returns-clause-by_age c =
    let due = c.due_in.ensures ∙ ap (λ buffers. due_in c.args.until buffers c.args.number) c.deref.ensures.value in
    ap by_age due ∙ filter-in_order (arrives_before c.args.until) _ (buffer_is _ c.args.number 0 _ c.self.invariant.1).in_order ∙ sym due
