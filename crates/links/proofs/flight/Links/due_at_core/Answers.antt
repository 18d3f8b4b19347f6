use Rattle.std.proofs.Common.{◌+◌, sym, ap, ap₂, ◌∙◌}
use Rattle.std.specs.Prelude.{fold}
use Rattle.sim_base.specs.History.{insert_by_age}
use Rattle.links.specs.InFlight.{InFlight}
use Rattle.links.specs.Buffers.{due_in_buffer, number_of_replies}
use Rattle.links.proofs.Both.{due_core_is}
use Rattle.links.proofs.flight.Links.due_at_core.Goals as goal

pub returns-clause-all : goal.returns-clause-all
returns-clause-all c =
    let same = c.replies_number-number.ensures.number ∙ ap {A = InFlight} (λ f. number_of_replies f.channels c.args.core) c.self.view_is in
    due_core_is c.self.inside.channels c.args.core c.args.until c.args.self.now _ c.self.invariant.0 c.self.invariant.1 (sym c.self.view_is)
    ∙ sym (ap₂ (λ xs ys. fold insert_by_age xs ys)
    (c.due_in.ensures.due ∙ ap (λ n. due_in_buffer c.args.self.now n c.args.until) same)
    (c.due_in-2.ensures.due ∙ ap (λ n. due_in_buffer c.args.self.now (n + 1) c.args.until) same))
