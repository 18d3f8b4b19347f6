-- What stands in a buffer is what is in flight in it.
use Rattle.std.proofs.Common.{◌≡◌, ◌↔◌, [], get_or, sym, ap, subst, ◌∙◌}
use Rattle.std.specs.Prelude.{IfOk, IsNone}
use Rattle.links.specs.Buffers.{GoesBehind, buffer_of, contents, in_buffer}
use Rattle.links.specs.InFlight.{InFlight}
use Rattle.links.proofs.Held.{all_held}
use Rattle.links.proofs.flight.Links.put.Goals as goal

pub returns-clause-behind : goal.returns-clause-behind
returns-clause-behind c =
    let ch = c.self.inside.channels in
    let m = c.args.message.now in
    let buffers = contents c.self.inside.buffers.items in
    let same : get_or buffers (buffer_of ch m.link) [] ≡ in_buffer c.args.self.now (buffer_of c.args.self.now.channels m.link) =
    sym (all_held ch (buffer_of ch m.link) buffers c.self.invariant.1)
    ∙ ap (λ (f : InFlight). in_buffer f (buffer_of f.channels m.link)) c.self.view_is in
    subst (λ ms. IfOk c.put_one.result (λ told. IsNone told ↔ GoesBehind m ms)) same c.put_one.ensures.behind
