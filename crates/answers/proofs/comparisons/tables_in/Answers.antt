use Rattle.config_reader.proofs.Refusing.{same_fault}
use Rattle.answers.proofs.RefusedFacts.{is_pushed, or_memory}
use Rattle.std.proofs.lemmas.Result.{IfOk-from_err}
use Rattle.std.proofs.Common.{length, Some, ◌≡◌, ◌∙◌, ◌++◌, [], ◌∷◌, sym, length-append, arith, inl}
use Rattle.answers.specs.Answers.{stats_path}
use Rattle.answers.proofs.ManyFiles.{not_read_at, map_pushed, map_all}
use Rattle.answers.proofs.comparisons.tables_in.Goals as goal

pub returns-in_err-table-clause-fault : goal.returns-in_err-table-clause-fault
returns-in_err-table-clause-fault g c =
    rw (same_fault c.from_residual.result _ c.from_residual.ensures)
    (not_read_at _ _ _ (λ d. stats_path d.now) c.args.dirs.now _ _ _ c.loop-dir-test.true c.loop-dir.invariant.same c.in_err-table.ensures.fault)

pub returns-in_err-table-clause-texts : goal.returns-in_err-table-clause-texts
returns-in_err-table-clause-texts g c = IfOk-from_err c.from_residual.result _ c.from_residual.ensures.0

pub returns-in_err-table-clause-count : goal.returns-in_err-table-clause-count
returns-in_err-table-clause-count g c = IfOk-from_err c.from_residual.result _ c.from_residual.ensures.0

pub returns-in_err-table-clause-same : goal.returns-in_err-table-clause-same
returns-in_err-table-clause-same g c = λ t path. c.in_err-table.ensures.same t path ∙ c.loop-dir.invariant.same t path

pub returns-in_err-table-clause-unopened : goal.returns-in_err-table-clause-unopened
returns-in_err-table-clause-unopened g c = λ t. c.in_err-table.ensures.unopened t ∙ c.loop-dir.invariant.unopened t

pub returns-in_err-or-clause-texts : goal.returns-in_err-or-clause-texts
returns-in_err-or-clause-texts g c =
    IfOk-from_err c.from_residual-in_err-or.result _ c.from_residual-in_err-or.ensures.0

pub returns-in_err-or-clause-count : goal.returns-in_err-or-clause-count
returns-in_err-or-clause-count g c =
    IfOk-from_err c.from_residual-in_err-or.result _ c.from_residual-in_err-or.ensures.0

pub returns-in_err-or-clause-same : goal.returns-in_err-or-clause-same
returns-in_err-or-clause-same g c = λ t path. c.in_ok-table.ensures.same t path ∙ c.loop-dir.invariant.same t path

pub returns-in_err-or-clause-unopened : goal.returns-in_err-or-clause-unopened
returns-in_err-or-clause-unopened g c = λ t. c.in_ok-table.ensures.unopened t ∙ c.loop-dir.invariant.unopened t

pub returns-clause-fault : goal.returns-clause-fault
returns-clause-fault g c = tt

pub returns-clause-same : goal.returns-clause-same
returns-clause-same g c = c.loop-dir.invariant.same

pub returns-clause-unopened : goal.returns-clause-unopened
returns-clause-unopened g c = c.loop-dir.invariant.unopened

pub loop-dir-preserved : goal.loop-dir-preserved
loop-dir-preserved g c =
    let pushed : c.push.new.self.items ≡ c.loop-dir.tables.items ++ c.in_ok-table.table ∷ [] = is_pushed c.push.result _ _ _ _ c.in_ok-or.ensures c.push.ensures.items in
    record {
      texts = λ t. map_pushed (λ d. g.F.FileSet.held c.args.files.now (stats_path d.now)) (λ t. Some t.bytes.items) c.args.dirs.now c.loop-dir.tables.items c.push.new.self.items c.loop-dir.dir-index _ _ c.loop-dir-test.true (c.loop-dir.invariant.texts t)
          (sym (c.loop-dir.invariant.same t _) ∙ c.in_ok-table.ensures.text t) pushed;
      count = let size = c.loop-dir.invariant.count in simp (pushed, length-append) (omega (arith, size));
      same = λ t path. c.in_ok-table.ensures.same t path ∙ c.loop-dir.invariant.same t path;
      unopened = λ t. c.in_ok-table.ensures.unopened t ∙ c.loop-dir.invariant.unopened t;
    }

pub returns-clause-texts : goal.returns-clause-texts
returns-clause-texts g c =
    λ t. map_all (λ d. g.F.FileSet.held c.args.files.now (stats_path d.now)) c.args.dirs.now c.loop-dir.dir-index c.loop-dir-test.false ∙ c.loop-dir.invariant.texts t

pub returns-in_err-or-clause-fault : goal.returns-in_err-or-clause-fault
returns-in_err-or-clause-fault g c =
    rw (same_fault c.from_residual-in_err-or.result _ c.from_residual-in_err-or.ensures) (inl (or_memory c.push.result _ c.in_err-or.ensures))

pub returns-clause-count : goal.returns-clause-count
returns-clause-count g c =
    let all : c.loop-dir.dir-index ≡ length c.args.dirs.now = omega (arith, c.loop-dir-test.false) in
    c.loop-dir.invariant.count ∙ all
