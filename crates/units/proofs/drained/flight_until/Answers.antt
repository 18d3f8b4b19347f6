use Rattle.std.proofs.Common.{◌+◌, ◌≤◌, arith}
use Rattle.units.proofs.Lasting.{flight-goes_on}
use Rattle.units.proofs.drained.flight_until.Goals as goal

pub returns-in-Some : goal.returns-in-Some
returns-in-Some c machine e =
    let s = machine.config in
    let traces = machine.traces.items in
    let l : c.saturating_add.result ≤ c.in-Some.arrival + 1 = omega (arith, c.saturating_add.ensures) in
    flight-goes_on machine c.args.now c.in-Some.arrival c.saturating_add.result c.args.links.now.messages c.in-Some.ensures.attained e l
