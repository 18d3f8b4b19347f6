use Rattle.std.proofs.Common.{map, refl, subst, ◌∙◌, arith}
use Rattle.std.specs.List.{AllByRecursion as Each}
use Rattle.whole_files.specs.Tables.{IsMoved}
use Rattle.whole_files.specs.Planned.{planned_of}
use Rattle.whole_files.proofs.Places.{none-moved, waits-first, moved-more, waits-less, outside-placed, partly, all_taken}
use Rattle.whole_files.proofs.tables.place.Goals as goal

pub loop-table-init : goal.loop-table-init
loop-table-init g c = record {
  moved = λ tells. none-moved c.args.planned.now (g.F.FileSet.held c.args.files.now);
  waits = λ tells. waits-first c.args.planned.now (g.F.FileSet.held c.args.files.now);
  others = λ tells path w. refl;
  unmoved = λ e tells path. refl;
  begun = λ e. absurd (cc);
  unopened = λ tells. refl;
}

pub loop-table-preserved : goal.loop-table-preserved
loop-table-preserved g c =
    let i = c.loop-table.table-index in
    let p = c.table-item.result in
    let l = c.loop-table-test.true in
    let inv = c.loop-table.invariant in
    record {
      moved = λ tells. moved-more c.args.planned.now i p _ _ _ l c.table-item.is c.requires.apart (c.in_default.ensures.renamed tells) (inv.waits tells) (inv.moved tells);
      waits = λ tells. waits-less c.args.planned.now i p _ _ _ l c.table-item.is c.requires.apart (c.in_default.ensures.renamed tells) (inv.waits tells);
      others = λ tells. outside-placed c.args.planned.now i p _ _ _ l c.table-item.is (c.in_default.ensures.renamed tells) (inv.others tells);
      unmoved = λ e. absurd (cc);
      begun = λ e. omega arith;
      unopened = λ tells. c.place_one.ensures.unopened tells ∙ inv.unopened tells;
    }

pub returns-in-Err-clause-kept : goal.returns-in-Err-clause-kept
returns-in-Err-clause-kept g c = λ kept tells path. c.in-Err.ensures.refused tells path ∙ c.loop-table.invariant.unmoved (c.refusal_of.ensures.kept kept) tells path

pub returns-in-Err-clause-torn : goal.returns-in-Err-clause-torn
returns-in-Err-clause-torn g c = λ torn tells.
    partly c.args.planned.now c.loop-table.table-index _ _ _ (c.loop-table.invariant.begun (c.refusal_of.ensures.torn torn)) c.loop-table-test.true (c.in-Err.ensures.refused tells)
    (c.loop-table.invariant.moved tells) (c.loop-table.invariant.waits tells) (c.loop-table.invariant.others tells)

pub returns-clause-placed : goal.returns-clause-placed
returns-clause-placed g c = λ tells. record {
  moved = subst (λ ps. Each (IsMoved (g.F.FileSet.held c.args.files.now) (g.F.FileSet.held c.loop-table.files)) (map planned_of ps)) (all_taken c.args.planned.now c.loop-table.table-index c.loop-table-test.false) (c.loop-table.invariant.moved tells);
  others = c.loop-table.invariant.others tells;
}
