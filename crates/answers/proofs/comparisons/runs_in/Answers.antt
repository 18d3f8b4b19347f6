use Rattle.std.proofs.lemmas.Result.{IfOk-weaker, IfErr-weaker, IfOk-from_err}
use Rattle.std.proofs.Common.{◌∙◌}
use Rattle.rule_check.specs.Verdict.{records_of}
use Rattle.answers.specs.Answers.{stats_path, stats_table}
use Rattle.answers.specs.Refused.{IsCompareFault}
use Rattle.answers.proofs.ManyFiles.{stats_at, many_texts, hold_runs, same_count}
use Rattle.answers.proofs.RefusedFacts.{found_or_memory}
use Rattle.answers.proofs.comparisons.runs_in.Goals as goal

pub returns-clause-runs : goal.returns-clause-runs
returns-clause-runs g c =
    IfOk-weaker c.runs_of.result _ _ (λ runs read. λ tells.
    stats_at _ (λ d. d.now) (λ t. t.bytes.items) c.args.dirs.now c.in_ok-tables.tables.items runs.items (c.in_ok-tables.ensures.texts tells) (rw c.deref.ensures.value at read))
    c.runs_of.ensures.read

pub returns-clause-ready : goal.returns-clause-ready
returns-clause-ready g c =
    IfOk-weaker c.runs_of.result _ _ (λ runs read. record {
      texts = _;
      read = many_texts _ _ (λ d. stats_path d.now) (λ t. t.bytes.items) c.args.dirs.now c.in_ok-tables.tables.items c.in_ok-tables.ensures.count c.in_ok-tables.ensures.texts;
      right = hold_runs (λ t. t.bytes.items) c.in_ok-tables.tables.items runs.items (rw c.deref.ensures.value at read);
    }) c.runs_of.ensures.read

pub returns-clause-fault : goal.returns-clause-fault
returns-clause-fault g c =
    IfErr-weaker c.runs_of.result _ _ (λ fault refused. found_or_memory _ _ _ _ IsCompareFault fault
    (many_texts _ _ (λ d. stats_path d.now) (λ t. t.bytes.items) c.args.dirs.now c.in_ok-tables.tables.items c.in_ok-tables.ensures.count c.in_ok-tables.ensures.texts)
    (rw c.deref.ensures.value at refused)) c.runs_of.ensures.fault

pub returns-clause-count : goal.returns-clause-count
returns-clause-count g c =
    IfOk-weaker c.runs_of.result _ _ (λ runs read.
    same_count (λ t. records_of t.bytes.items) stats_table c.in_ok-tables.tables.items runs.items (rw c.deref.ensures.value at read) ∙ c.in_ok-tables.ensures.count)
    c.runs_of.ensures.read

pub returns-in_err-tables-clause-runs : goal.returns-in_err-tables-clause-runs
returns-in_err-tables-clause-runs g c = IfOk-from_err c.from_residual.result _ c.from_residual.ensures.0

pub returns-in_err-tables-clause-count : goal.returns-in_err-tables-clause-count
returns-in_err-tables-clause-count g c = IfOk-from_err c.from_residual.result _ c.from_residual.ensures.0

pub returns-in_err-tables-clause-ready : goal.returns-in_err-tables-clause-ready
returns-in_err-tables-clause-ready g c = IfOk-from_err c.from_residual.result _ c.from_residual.ensures.0

pub returns-in_err-tables-clause-same : goal.returns-in_err-tables-clause-same
returns-in_err-tables-clause-same g c = c.in_err-tables.ensures.same

pub returns-in_err-tables-clause-unopened : goal.returns-in_err-tables-clause-unopened
returns-in_err-tables-clause-unopened g c = c.in_err-tables.ensures.unopened

pub returns-clause-same : goal.returns-clause-same
returns-clause-same g c = c.in_ok-tables.ensures.same

pub returns-clause-unopened : goal.returns-clause-unopened
returns-clause-unopened g c = c.in_ok-tables.ensures.unopened
