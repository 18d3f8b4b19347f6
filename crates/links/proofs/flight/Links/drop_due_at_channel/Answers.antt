use Rattle.std.proofs.Common.{◌<◌, ◌≤◌, sym, subst, arith}
use Rattle.links.specs.InFlight.{InFlight}
use Rattle.links.proofs.Both.{all_left_there, none_first_there}
use Rattle.links.proofs.flight.Links.drop_due_at_channel.Goals as goal

pub returns-then-channel-from-clause-rest : goal.returns-then-channel-from-clause-rest
returns-then-channel-from-clause-rest c =
    let some : 0 < c.args.self.now.channels = subst {A = InFlight} (λ f. 0 < f.channels) c.self.view_is c.self.invariant.0 in
    let beyond : c.args.self.now.channels ≤ c.args.channel = subst {A = InFlight} (λ f. f.channels ≤ c.args.channel) c.self.view_is (omega (arith, c.if-channel-from.true, c.from.ensures)) in
    sym (all_left_there c.args.self.now c.args.channel c.args.until some beyond)

pub returns-then-channel-from-clause-next : goal.returns-then-channel-from-clause-next
returns-then-channel-from-clause-next c =
    let some : 0 < c.args.self.now.channels = subst {A = InFlight} (λ f. 0 < f.channels) c.self.view_is c.self.invariant.0 in
    let beyond : c.args.self.now.channels ≤ c.args.channel = subst {A = InFlight} (λ f. f.channels ≤ c.args.channel) c.self.view_is (omega (arith, c.if-channel-from.true, c.from.ensures)) in
    none_first_there c.args.self.now c.args.channel some beyond
