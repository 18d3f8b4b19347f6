use Rattle.std.proofs.Common.{◌≡◌, ◌++◌, map, refl, subst}
use Rattle.whole_files.specs.Tables.{from_paths, AreStaged}
use Rattle.whole_files.specs.Planned.{planned_of}
use Rattle.whole_files.proofs.Places.{none-staged, none-opened, staged-more, opened-more, outside-staged, all_taken}
use Rattle.whole_files.proofs.tables.stage.Goals as goal

pub loop-table-init : goal.loop-table-init
loop-table-init g c = record {
  whole = λ tells. none-staged c.args.planned.now (g.F.FileSet.held c.args.files.now);
  noted = λ tells. none-opened c.args.planned.now (g.F.FileSet.opened c.args.files.now);
  others = λ tells path w. refl;
}

pub loop-table-preserved : goal.loop-table-preserved
loop-table-preserved g c =
    let i = c.loop-table.table-index in
    let p = c.table-item.result in
    let l = c.loop-table-test.true in
    let told = c.in_ok-stage_one.ensures {u = tt} in
    record {
      whole = λ tells. staged-more c.args.planned.now i p _ _ l c.table-item.is c.requires.apart (c.stage_one.ensures.others tells) (told.whole tells) (c.loop-table.invariant.whole tells);
      noted = λ tells. opened-more c.args.planned.now i p _ _ _ l c.table-item.is (told.noted tells) (c.loop-table.invariant.noted tells);
      others = λ tells. outside-staged c.args.planned.now i p _ _ _ l c.table-item.is (c.stage_one.ensures.others tells) (c.loop-table.invariant.others tells);
    }

pub returns-in_err-stage_one-clause-others : goal.returns-in_err-stage_one-clause-others
returns-in_err-stage_one-clause-others g c = λ tells.
    outside-staged c.args.planned.now c.loop-table.table-index c.table-item.result _ _ _ c.loop-table-test.true c.table-item.is (c.stage_one.ensures.others tells) (c.loop-table.invariant.others tells)

pub returns-clause-whole : goal.returns-clause-whole
returns-clause-whole g c = λ tells.
    subst (λ ps. AreStaged (map planned_of ps) (g.F.FileSet.held c.loop-table.files)) (all_taken c.args.planned.now c.loop-table.table-index c.loop-table-test.false) (c.loop-table.invariant.whole tells)

pub returns-clause-noted : goal.returns-clause-noted
returns-clause-noted g c = λ tells.
    subst (λ ps. g.F.FileSet.opened c.loop-table.files ≡ g.F.FileSet.opened c.args.files.now ++ from_paths (map planned_of ps)) (all_taken c.args.planned.now c.loop-table.table-index c.loop-table-test.false) (c.loop-table.invariant.noted tells)
