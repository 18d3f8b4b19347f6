-- The first test that is not passed is answered; else these are the configuration and the traces of the input.
use Rattle.std.proofs.Common.{◌≡◌, ◌≤◌, length, sym, ap, ◌∙◌, arith}
use Rattle.std.proofs.lemmas.List.{length-map}
use Rattle.sim_base.specs.Values.{values_of}
use Rattle.simulation.specs.Runs.{limits_of}
use Rattle.simulation.proofs.TraceLists.{texts_from}
use Rattle.simulation.proofs.Inputs.{input_config, input_limits, input_traces, limits_count, limits_workers, limits_cycles}
use Rattle.simulation.proofs.input.read_input.Goals as goal

pub returns-in-Err-clause-refused : goal.returns-in-Err-clause-refused
returns-in-Err-clause-refused g c = λ h.
    input_config c.args.input.config.now _ c.args.cycles c.args.workers c.in-Err.fault ((c.in-Err.ensures {u = tt}).refused h)

pub returns-in-Err-check_limits-clause-refused : goal.returns-in-Err-check_limits-clause-refused
returns-in-Err-check_limits-clause-refused g c = λ h.
    let texts = texts_from c.args.input.traces.now 0 in
    let n : length texts ≡ length c.args.input.traces.now = length-map c.args.input.traces.now _ in
    let cores = c.in-Ok.config.cores in
    input_limits c.args.input.config.now texts c.args.cycles c.args.workers (values_of c.in-Ok.config) c.in-Err-check_limits.fault (c.in-Ok.ensures {u = tt}).ok
    (ap (λ k. limits_of cores k c.args.cycles c.args.workers) n ∙ sym c.check_limits.ensures ∙ c.in-Err-check_limits.is)

pub read_traces-requires : goal.read_traces-requires
read_traces-requires g c =
    let e : length c.args.input.traces.now ≡ c.in-Ok.config.cores = limits_count c.in-Ok.config.cores (length c.args.input.traces.now) c.args.cycles c.args.workers (sym c.check_limits.ensures ∙ c.in_default.is) in
    let few : c.in-Ok.config.cores ≤ 256 = c.in-Ok.config.machine_in_range.cores_in.1 in
    (c.type_bounds.sync-R, omega arith)

pub returns-in-Err-read_traces-clause-refused : goal.returns-in-Err-read_traces-clause-refused
returns-in-Err-read_traces-clause-refused g c = λ h.
    let texts = texts_from c.args.input.traces.now 0 in
    let n : length texts ≡ length c.args.input.traces.now = length-map c.args.input.traces.now _ in
    let cores = c.in-Ok.config.cores in
    input_traces c.args.input.config.now texts c.args.cycles c.args.workers (values_of c.in-Ok.config) (c.in-Ok.ensures {u = tt}).ok
    (ap (λ k. limits_of cores k c.args.cycles c.args.workers) n ∙ sym c.check_limits.ensures ∙ c.in_default.is)
    ∙ (c.in-Err-read_traces.ensures {u = tt}).refused h

pub returns-clause-input : goal.returns-clause-input
returns-clause-input g c =
    let texts = texts_from c.args.input.traces.now 0 in
    let n : length texts ≡ length c.args.input.traces.now = length-map c.args.input.traces.now _ in
    let cores = c.in-Ok.config.cores in
    input_traces c.args.input.config.now texts c.args.cycles c.args.workers (values_of c.in-Ok.config) (c.in-Ok.ensures {u = tt}).ok
    (ap (λ k. limits_of cores k c.args.cycles c.args.workers) n ∙ sym c.check_limits.ensures ∙ c.in_default.is)
    ∙ (c.in-Ok-read_traces.ensures {u = tt}).ok

pub returns-clause-count : goal.returns-clause-count
returns-clause-count g c =
    (c.in-Ok-read_traces.ensures {u = tt}).count
    ∙ limits_count c.in-Ok.config.cores (length c.args.input.traces.now) c.args.cycles c.args.workers (sym c.check_limits.ensures ∙ c.in_default.is)

pub returns-clause-workers : goal.returns-clause-workers
returns-clause-workers g c = limits_workers c.in-Ok.config.cores (length c.args.input.traces.now) c.args.cycles c.args.workers (sym c.check_limits.ensures ∙ c.in_default.is)

pub returns-clause-cycles : goal.returns-clause-cycles
returns-clause-cycles g c = limits_cycles c.in-Ok.config.cores (length c.args.input.traces.now) c.args.cycles c.args.workers (sym c.check_limits.ensures ∙ c.in_default.is)
