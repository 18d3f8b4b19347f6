-- The run did not end before the cycle where the simulator stands, and ends there, or is at the limit.
use Rattle.std.proofs.Common.{◌≡◌, ◌<◌, true, sym, ap, ◌∙◌}
use Rattle.units.specs.Runs.{ends_at}
use Rattle.units.proofs.Stopping.{stands-at_stop}
use Rattle.simulation.proofs.machine.run_with.Goals as goal

pub returns-clause-ok : goal.returns-clause-ok
returns-clause-ok g c =
    let sim = c.args.sim in
    let now = c.loop-stop.sim.now in
    let same = c.loop-stop.invariant in
    let ended : now < c.args.limit → ends_at sim.machine now ≡ true = λ l. ap (λ m. ends_at m now) (sym same.0) ∙ (c.in_default.ensures {u = tt}).ended l in
    record { machine_is = same.0; at_limit = stands-at_stop sim c.args.limit now same.1 same.2 same.3 ended }
