-- The run is that of the configuration and the traces that were read.
use Rattle.std.proofs.lemmas.Result.{IfOk-weaker}
use Rattle.simulation.proofs.TraceLists.{texts_from}
use Rattle.simulation.proofs.Inputs.{refused-input, refused-run}
use Rattle.simulation.proofs.runs.simulate.Goals as goal

pub returns-clause-run : goal.returns-clause-run
returns-clause-run g c =
    let given = c.in-Ok.ensures {u = tt} in
    IfOk-weaker c.run_input.result _ _ (λ run holds. holds c.args.input.config.now (texts_from c.args.input.traces.now 0) (record { configured = given.configured; traces_are = given.traces; read = given.input })) c.run_input.ensures.run

pub returns-clause-legal : goal.returns-clause-legal
returns-clause-legal g c =
    let given = c.in-Ok.ensures {u = tt} in
    IfOk-weaker c.run_input.result _ _ (λ run holds. holds c.args.input.config.now (texts_from c.args.input.traces.now 0) (record { configured = given.configured; traces_are = given.traces; read = given.input })) c.run_input.ensures.legal

pub returns-clause-data_bus : goal.returns-clause-data_bus
returns-clause-data_bus g c =
    let given = c.in-Ok.ensures {u = tt} in
    IfOk-weaker c.run_input.result _ _ (λ run holds. holds c.args.input.config.now (texts_from c.args.input.traces.now 0) (record { configured = given.configured; traces_are = given.traces; read = given.input })) c.run_input.ensures.data_bus

pub returns-clause-refreshed : goal.returns-clause-refreshed
returns-clause-refreshed g c =
    let given = c.in-Ok.ensures {u = tt} in
    IfOk-weaker c.run_input.result _ _ (λ run holds. holds c.args.input.config.now (texts_from c.args.input.traces.now 0) (record { configured = given.configured; traces_are = given.traces; read = given.input })) c.run_input.ensures.refreshed

pub returns-clause-bounded : goal.returns-clause-bounded
returns-clause-bounded g c =
    let given = c.in-Ok.ensures {u = tt} in
    IfOk-weaker c.run_input.result _ _ (λ run holds. holds c.args.input.config.now (texts_from c.args.input.traces.now 0) (record { configured = given.configured; traces_are = given.traces; read = given.input })) c.run_input.ensures.bounded

pub returns-clause-held : goal.returns-clause-held
returns-clause-held g c =
    let given = c.in-Ok.ensures {u = tt} in
    IfOk-weaker c.run_input.result _ _ (λ run holds. holds c.args.input.config.now (texts_from c.args.input.traces.now 0) (record { configured = given.configured; traces_are = given.traces; read = given.input })) c.run_input.ensures.held

pub returns-clause-credits : goal.returns-clause-credits
returns-clause-credits g c =
    let given = c.in-Ok.ensures {u = tt} in
    IfOk-weaker c.run_input.result _ _ (λ run holds. holds c.args.input.config.now (texts_from c.args.input.traces.now 0) (record { configured = given.configured; traces_are = given.traces; read = given.input })) c.run_input.ensures.credits

pub returns-in-Err-clause-refused : goal.returns-in-Err-clause-refused
returns-in-Err-clause-refused g c =
    refused-input c.args.input.config.now (texts_from c.args.input.traces.now 0) c.args.options.cycles c.args.options.workers.count c.in-Err.fault (c.in-Err.ensures {u = tt}).refused

pub returns-clause-refused : goal.returns-clause-refused
returns-clause-refused g c =
    let given = c.in-Ok.ensures {u = tt} in
    refused-run c.args.input.config.now (texts_from c.args.input.traces.now 0) c.args.options.cycles c.args.options.workers.count c.in-Ok.input.1.items _ given.input (c.run_input.ensures.refused)
