use Rattle.std.proofs.Common.{◌≡◌, ◌∙◌, ◌++◌, [], ◌∷◌, sym, ap, inl, inr}
use Rattle.answers.specs.Answers.{stats_table}
use Rattle.rule_check.specs.Verdict.{records_of}
use Rattle.answers.proofs.ManyFiles.{map_pushed, map_all, table_refused}
use Rattle.std.proofs.lemmas.Result.{IfOk-from_err}
use Rattle.config_reader.proofs.Refusing.{same_fault}
use Rattle.answers.proofs.RefusedFacts.{or_memory, is_pushed}
use Rattle.answers.proofs.comparisons.runs_of.Goals as goal

pub returns-in_err-stats-clause-read : goal.returns-in_err-stats-clause-read
returns-in_err-stats-clause-read c = IfOk-from_err c.from_residual.result _ c.from_residual.ensures.0

pub returns-in_err-stats-clause-fault : goal.returns-in_err-stats-clause-fault
returns-in_err-stats-clause-fault c =
    rw (same_fault c.from_residual.result _ c.from_residual.ensures)
    (inr (table_refused (λ t. t.bytes.items) c.args.tables.now c.loop-table.runs.items c.loop-table.table-index c.table-item.result c.deref.result.now _ c.loop-table-test.true
    c.loop-table.invariant (c.deref.ensures.value ∙ ap (λ t. t.bytes.items) c.table-item.is) c.in_err-stats.ensures.refused))

pub returns-in_err-or-clause-read : goal.returns-in_err-or-clause-read
returns-in_err-or-clause-read c =
    IfOk-from_err c.from_residual-in_err-or.result _ c.from_residual-in_err-or.ensures.0

pub returns-clause-fault : goal.returns-clause-fault
returns-clause-fault c = tt

pub loop-table-preserved : goal.loop-table-preserved
loop-table-preserved c =
    let pushed : c.push.new.self.items ≡ c.loop-table.runs.items ++ c.in_ok-stats.stats ∷ [] = is_pushed c.push.result _ _ _ _ c.in_ok-or.ensures c.push.ensures.items in
    map_pushed (λ t. records_of t.bytes.items) stats_table c.args.tables.now c.loop-table.runs.items c.push.new.self.items c.loop-table.table-index _ _ c.loop-table-test.true c.loop-table.invariant
    (ap (λ t. records_of t.bytes.items) (sym c.table-item.is) ∙ ap records_of (sym c.deref.ensures.value) ∙ c.in_ok-stats.ensures.read) pushed

pub returns-clause-read : goal.returns-clause-read
returns-clause-read c =
    map_all (λ t. records_of t.bytes.items) c.args.tables.now c.loop-table.table-index c.loop-table-test.false ∙ c.loop-table.invariant

pub returns-in_err-or-clause-fault : goal.returns-in_err-or-clause-fault
returns-in_err-or-clause-fault c =
    rw (same_fault c.from_residual-in_err-or.result _ c.from_residual-in_err-or.ensures) (inl (or_memory c.push.result _ c.in_err-or.ensures))
