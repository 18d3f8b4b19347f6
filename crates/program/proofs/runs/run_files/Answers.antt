use Rattle.std.proofs.lemmas.Result.{IfOk-weaker, IfErr-weaker}
use Rattle.program.proofs.ReadInputs.{outcome_read, host_refused}
use Rattle.program.proofs.runs.run_files.Goals as goal

pub returns-clause-outcome : goal.returns-clause-outcome
returns-clause-outcome g c = outcome_read _ _ _ _ _ _ _ _ _ c.outcome_of.result c.in_ok-machine.ensures.read c.outcome_of.ensures.run c.outcome_of.ensures.legal

pub returns-clause-ready : goal.returns-clause-ready
returns-clause-ready g c = IfOk-weaker c.outcome_of.result _ _ (λ run is. c.in_ok-machine.ensures.ready) c.outcome_of.ensures.run

pub returns-clause-fault : goal.returns-clause-fault
returns-clause-fault g c = IfErr-weaker c.outcome_of.result _ _ (λ fault refused. host_refused _ _ _ _ _ fault c.in_ok-machine.ensures.ready refused) c.outcome_of.ensures.refused
