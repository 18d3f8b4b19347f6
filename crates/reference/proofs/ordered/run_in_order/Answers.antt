use Rattle.std.proofs.Common.{◌≡◌, ◌<◌, true, refl, sym, ap, ◌∙◌, arith}
use Rattle.std.proofs.lemmas.Result.{err_from_is_err_and}
use Rattle.units.specs.Runs.{ends_at}
use Rattle.reference.proofs.Coming.{come-none, come-on, why-on}
use Rattle.reference.proofs.Stopped.{only-memory}
use Rattle.reference.proofs.Stopping.{on-next}
use Rattle.units.proofs.Stopping.{stands-at_stop}
use Rattle.reference.proofs.ordered.run_in_order.Goals as goal

pub returns-in_err-sim-clause-stopped : goal.returns-in_err-sim-clause-stopped
returns-in_err-sim-clause-stopped g c =
    let come = c.loop-stop.invariant.4 in
    let next = c.in-Some.ensures {u = tt} in
    let q = err_from_is_err_and c.from_residual.result c.from_residual.ensures.1 in
    rw (q.1, q.2)
    (why-on g.O.Order.may_give c.args.shards c.args.sim c.loop-stop.sim c.in-Some.stop c.args.limit c.in_err-sim.field-0.0 next.within come (c.in_err-sim.ensures {u = tt}).stopped)

pub returns-in_err-sim-clause-whole : goal.returns-in_err-sim-clause-whole
returns-in_err-sim-clause-whole g c permutes =
    let q = err_from_is_err_and c.from_residual.result c.from_residual.ensures.1 in
    rw (q.1, q.2) (only-memory g.O.Order.may_give c.args.shards c.loop-stop.sim c.in-Some.stop c.in_err-sim.field-0.0 (c.in_err-sim.ensures {u = tt}).stopped permutes)

-- The run did not end before the cycle where the simulator stands, and ends there, or is at the limit.
pub returns-clause-ok : goal.returns-clause-ok
returns-clause-ok g c =
    let sim = c.args.sim in
    let now = c.loop-stop.sim.now in
    let same = c.loop-stop.invariant in
    let ended : now < c.args.limit → ends_at sim.machine now ≡ true = λ l. ap (λ m. ends_at m now) (sym same.0) ∙ (c.in_default.ensures {u = tt}).ended l in
    record { machine_is = same.0; at_limit = stands-at_stop sim c.args.limit now same.1 same.2 same.3 ended }

pub loop-stop-init : goal.loop-stop-init
loop-stop-init g c = (refl, omega arith, c.requires.not_past, λ t l k. absurd (omega (arith, l, k)), come-none g.O.Order.may_give c.args.shards c.args.sim c.args.limit)

pub loop-stop-preserved : goal.loop-stop-preserved
loop-stop-preserved g c =
    let m = g.O.Order.may_give in
    let at = c.loop-stop in
    let sim = c.args.sim in
    let limit = c.args.limit in
    let stop = c.in-Some.stop in
    let next = c.in-Some.ensures {u = tt} in
    let ran = c.in_ok-sim.ensures {u = tt} in
    let there = ran.ok.at_limit in (
      ran.ok.machine_is ∙ at.invariant.0,
      omega (arith, at.invariant.1, next.later, there),
      omega (arith, next.within, there),
      on-next sim.machine at.sim.machine sim.now at.sim.now stop c.in_ok-sim.sim.now at.invariant.0 there at.invariant.3 next.goes_on,
      come-on m c.args.shards sim at.sim c.in_ok-sim.sim stop limit next.within at.invariant.4 ran.fitted,
    )
