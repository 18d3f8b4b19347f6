use Rattle.std.proofs.Common.{◌≡◌, map, None, string_bytes, refl, subst, ◌∙◌}
use Rattle.whole_files.specs.Files.{SameBut}
use Rattle.whole_files.specs.Tables.{AreRemoved}
use Rattle.whole_files.proofs.Places.{none-removed, removed-more, outside-removed, all_taken}
use Rattle.whole_files.proofs.tables.remove_all.Goals as goal

pub loop-path-init : goal.loop-path-init
loop-path-init g c = record {
  removed = λ tells. none-removed string_bytes c.args.paths.now (g.F.FileSet.held c.args.files.now);
  others = λ tells path w. refl;
  unopened = λ tells. refl;
}

pub loop-path-preserved : goal.loop-path-preserved
loop-path-preserved g c =
    let i = c.loop-path.path-index in
    let x = c.path-item.result in
    let l = c.loop-path-test.true in
    let a = g.F.FileSet.held c.loop-path.files in
    let b = g.F.FileSet.held c.remove.new.self in
    record {
      removed = λ tells. removed-more string_bytes c.args.paths.now i x a b l c.path-item.is (subst (λ p. SameBut p a b) c.as_str.ensures.value (c.remove.ensures.others tells))
          (subst (λ p. b p ≡ None) c.as_str.ensures.value (c.remove.ensures.removed tells)) (c.loop-path.invariant.removed tells);
      others = λ tells. outside-removed string_bytes c.args.paths.now i x _ a b l c.path-item.is (subst (λ p. SameBut p a b) c.as_str.ensures.value (c.remove.ensures.others tells)) (c.loop-path.invariant.others tells);
      unopened = λ tells. c.remove.ensures.unopened tells ∙ c.loop-path.invariant.unopened tells;
    }

pub returns-clause-removed : goal.returns-clause-removed
returns-clause-removed g c = λ tells.
    subst (λ ps. AreRemoved (map string_bytes ps) (g.F.FileSet.held c.loop-path.files)) (all_taken c.args.paths.now c.loop-path.path-index c.loop-path-test.false) (c.loop-path.invariant.removed tells)
