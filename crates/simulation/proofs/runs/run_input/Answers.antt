-- The run is that of the configuration and the traces, whatever they were read from.
use Rattle.std.proofs.Common.{Ok}
use Rattle.std.proofs.lemmas.Result.{IfOk-weaker}
use Rattle.statistics.specs.Outcomes.{outcome_of}
use Rattle.sim_base.specs.Machine.{cycles_run}
use Rattle.run_tables.proofs.TableLaws.Lawful.{owns_data_bus, is_refreshed, has_bounded_queues, holds_few_credits, keeps_credits_until}
use Rattle.run_tables.specs.TableLaws.Outcomes.{OwnsDataBus, IsRefreshed, HasBoundedQueues, HoldsFewCredits, KeepsCreditsUntil}
use Rattle.simulation.specs.Runs.{IsLegalRun}
use Rattle.simulation.proofs.Judged.{run-judged}
use Rattle.simulation.proofs.Outcomes.{run-of, holds-of, law-of}
use Rattle.simulation.proofs.runs.run_input.Goals as goal

pub returns-clause-run : goal.returns-clause-run
returns-clause-run g c =
    let s = c.args.machine.config.now in
    let traces = c.args.machine.traces.items in
    IfOk-weaker c.run_machine.result _ _ (λ run is config texts input.
    run-of config texts c.args.options.cycles c.args.options.workers.count c.args.options.tables s traces (Ok run) input.configured input.read is
    ) c.run_machine.ensures.outcome

pub returns-clause-legal : goal.returns-clause-legal
returns-clause-legal g c =
    let s = c.args.machine.config.now in
    let traces = c.args.machine.traces.items in
    IfOk-weaker c.run_machine.result _ _ (λ run is config texts input.
    holds-of config texts c.args.options.cycles c.args.options.workers.count c.args.options.tables s traces IsLegalRun (Ok run) input.configured input.read (run-judged s texts traces c.args.options.cycles input.traces_are c.requires.limit) is
    ) c.run_machine.ensures.outcome

pub returns-clause-data_bus : goal.returns-clause-data_bus
returns-clause-data_bus g c =
    let s = c.args.machine.config.now in
    let traces = c.args.machine.traces.items in
    IfOk-weaker c.run_machine.result _ _ (λ run is config texts input.
    holds-of config texts c.args.options.cycles c.args.options.workers.count c.args.options.tables s traces OwnsDataBus (Ok run) input.configured input.read (owns_data_bus s traces (cycles_run s traces c.args.options.cycles)) is
    ) c.run_machine.ensures.outcome

pub returns-clause-refreshed : goal.returns-clause-refreshed
returns-clause-refreshed g c =
    let s = c.args.machine.config.now in
    let traces = c.args.machine.traces.items in
    IfOk-weaker c.run_machine.result _ _ (λ run is config texts input.
    holds-of config texts c.args.options.cycles c.args.options.workers.count c.args.options.tables s traces IsRefreshed (Ok run) input.configured input.read (is_refreshed s traces (cycles_run s traces c.args.options.cycles)) is
    ) c.run_machine.ensures.outcome

pub returns-clause-bounded : goal.returns-clause-bounded
returns-clause-bounded g c =
    let s = c.args.machine.config.now in
    let traces = c.args.machine.traces.items in
    IfOk-weaker c.run_machine.result _ _ (λ run is config texts input.
    law-of config s HasBoundedQueues (Ok run) (outcome_of c.args.options.tables s traces (cycles_run s traces c.args.options.cycles)) input.configured (has_bounded_queues c.args.options.tables s traces (cycles_run s traces c.args.options.cycles)) is
    ) c.run_machine.ensures.outcome

pub returns-clause-held : goal.returns-clause-held
returns-clause-held g c =
    let s = c.args.machine.config.now in
    let traces = c.args.machine.traces.items in
    IfOk-weaker c.run_machine.result _ _ (λ run is config texts input.
    law-of config s HoldsFewCredits (Ok run) (outcome_of c.args.options.tables s traces (cycles_run s traces c.args.options.cycles)) input.configured (holds_few_credits c.args.options.tables s traces (cycles_run s traces c.args.options.cycles)) is
    ) c.run_machine.ensures.outcome

pub returns-clause-credits : goal.returns-clause-credits
returns-clause-credits g c =
    let s = c.args.machine.config.now in
    let traces = c.args.machine.traces.items in
    IfOk-weaker c.run_machine.result _ _ (λ run is config texts input.
    holds-of config texts c.args.options.cycles c.args.options.workers.count c.args.options.tables s traces KeepsCreditsUntil (Ok run) input.configured input.read (keeps_credits_until s traces (cycles_run s traces c.args.options.cycles)) is
    ) c.run_machine.ensures.outcome
