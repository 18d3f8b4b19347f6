-- The run did not end before the cycle where the simulator stands, and ends there: that is the number of its cycles.
use Rattle.std.proofs.Common.{◌≡◌, ◌<◌, true, sym, ap, ◌∙◌, arith}
use Rattle.sim_base.specs.Machine.{cycles_run}
use Rattle.statistics.specs.Outcomes.{outcome_of}
use Rattle.units.specs.Runs.{ends_at}
use Rattle.units.proofs.SpanLaws.Over.{cycles-are_counted}
use Rattle.simulation.proofs.machine.finish.Goals as goal

pub returns-clause-outcome : goal.returns-clause-outcome
returns-clause-outcome g c =
    let machine = c.args.run.sim.machine in
    let now = c.loop-stop.sim.now in
    let same = c.loop-stop.invariant in
    let ended : now < c.args.options.cycles → ends_at machine now ≡ true = λ l. ap (λ m. ends_at m now) (sym same.0) ∙ (c.in_default.ensures {u = tt}).ended l in
    let counted : cycles_run machine.config machine.traces.items c.args.options.cycles ≡ now =
    cycles-are_counted machine.config machine.traces.items c.args.options.cycles now same.1 (λ last e. same.2 last (omega arith) (omega (arith, e))) ended in
    c.in_ok-outcome.ensures {u = tt}
    ∙ ap (λ m. outcome_of c.args.options.tables m.config m.traces.items now) same.0
    ∙ ap (outcome_of c.args.options.tables machine.config machine.traces.items) (sym counted)
