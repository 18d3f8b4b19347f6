use Rattle.std.proofs.Common.{◌≡◌, ◌+◌, ◌-◌, map, drop, None, refl, sym, ap, subst, ◌∙◌, arith}
use Rattle.whole_files.specs.Files.{SameBut}
use Rattle.whole_files.specs.Tables.{AreGone}
use Rattle.whole_files.specs.Planned.{planned_of}
use Rattle.whole_files.proofs.Places.{none-gone, gone-more, outside-staged, drop_zero}
use Rattle.whole_files.proofs.tables.discard.Goals as goal

pub loop-left-init : goal.loop-left-init
loop-left-init g c = record {
  within = omega arith;
  gone = λ tells. none-gone c.args.planned.now _ _ (omega arith);
  others = λ tells path w. refl;
}

pub loop-left-preserved : goal.loop-left-preserved
loop-left-preserved g c =
    let i = c.loop-left.left - 1 in
    let p = c.index-planned-left.result in
    let before : i + 1 ≡ c.loop-left.left = omega (arith, c.loop-left-test.true) in
    let l = c.loop-left.invariant.within in
    let a = g.F.FileSet.held c.loop-left.files in
    let b = g.F.FileSet.held c.discard_one.new.files in
    let is = sym c.index-planned-left.is in
    record {
      within = omega arith;
      gone = λ tells. gone-more c.args.planned.now i p _ _ (omega arith) c.index-planned-left.is (subst (λ q. SameBut (planned_of q).from a b) is (c.discard_one.ensures.others tells)) (subst (λ q. b (planned_of q).from ≡ None) is (c.discard_one.ensures.gone tells))
          (subst (λ n. AreGone (map planned_of (drop n c.args.planned.now)) (g.F.FileSet.held c.loop-left.files)) (sym before) (c.loop-left.invariant.gone tells));
      others = λ tells. outside-staged c.args.planned.now i p _ _ _ (omega arith) c.index-planned-left.is (subst (λ q. SameBut (planned_of q).from a b) is (c.discard_one.ensures.others tells)) (c.loop-left.invariant.others tells);
    }

pub returns-clause-gone : goal.returns-clause-gone
returns-clause-gone g c = λ tells.
    let none : c.loop-left.left ≡ 0 = omega (arith, c.loop-left-test.false) in
    subst (λ ps. AreGone (map planned_of ps) (g.F.FileSet.held c.loop-left.files)) (ap (λ n. drop n c.args.planned.now) none ∙ drop_zero c.args.planned.now) (c.loop-left.invariant.gone tells)
