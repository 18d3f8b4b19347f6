use Rattle.std.proofs.Common.{◌<◌, ◌≤◌, sym, subst, arith}
use Rattle.links.specs.InFlight.{InFlight}
use Rattle.links.proofs.Both.{none_due_there}
use Rattle.links.proofs.flight.Links.due_at_channel.Goals as goal

pub returns-then-channel-from : goal.returns-then-channel-from
returns-then-channel-from c =
    let some : 0 < c.args.self.now.channels = subst {A = InFlight} (λ f. 0 < f.channels) c.self.view_is c.self.invariant.0 in
    let beyond : c.args.self.now.channels ≤ c.args.channel = subst {A = InFlight} (λ f. f.channels ≤ c.args.channel) c.self.view_is (omega (arith, c.if-channel-from.true, c.from.ensures)) in
    sym (none_due_there c.args.self.now c.args.channel c.args.until some beyond)
