-- The run is that of the configuration and the traces.
use Rattle.std.proofs.Common.{Ok, ap, ◌∙◌}
use Rattle.sim_base.specs.Machine.{cycles_run}
use Rattle.statistics.specs.Outcomes.{outcome_of}
use Rattle.simulation.proofs.TraceLists.{texts_from}
use Rattle.simulation.specs.Runs.{IsLegalRun}
use Rattle.simulation.proofs.Judged.{run-judged}
use Rattle.simulation.proofs.Outcomes.{holds-of}
use Rattle.reference.proofs.runs.simulate_plain.Goals as goal

pub run_plain-requires-clause-one_trace_a_core : goal.run_plain-requires-clause-one_trace_a_core
run_plain-requires-clause-one_trace_a_core g c = c.deref.ensures.len ∙ (c.in-Ok.ensures {u = tt}).count

pub returns-clause-run : goal.returns-clause-run
returns-clause-run g c =
    let given = c.in-Ok.ensures {u = tt} in
    record {
      machine = c.in-Ok.input.0;
      traces = c.in-Ok.input.1.items;
      configured = given.configured;
      read = given.input;
      outcome_is =
          (c.in-Ok-run_plain.ensures {u = tt}).outcome
          ∙ ap (λ ts. outcome_of c.args.options.tables c.in-Ok.input.0 ts (cycles_run c.in-Ok.input.0 ts c.args.options.cycles)) c.deref.ensures.value;
    }

pub returns-clause-legal : goal.returns-clause-legal
returns-clause-legal g c =
    let given = c.in-Ok.ensures {u = tt} in
    holds-of c.args.input.config.now (texts_from c.args.input.traces.now 0) c.args.options.cycles c.args.options.workers.count c.args.options.tables c.in-Ok.input.0 c.in-Ok.input.1.items IsLegalRun (Ok c.in-Ok-run_plain.outcome)
    given.configured given.input (run-judged c.in-Ok.input.0 (texts_from c.args.input.traces.now 0) c.in-Ok.input.1.items c.args.options.cycles given.traces given.cycles)
    ((c.in-Ok-run_plain.ensures {u = tt}).outcome
    ∙ ap (λ ts. outcome_of c.args.options.tables c.in-Ok.input.0 ts (cycles_run c.in-Ok.input.0 ts c.args.options.cycles)) c.deref.ensures.value)
