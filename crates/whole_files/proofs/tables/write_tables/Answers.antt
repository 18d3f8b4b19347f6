use Rattle.std.proofs.Common.{◌++◌, map, string_bytes, sym, ap, subst, ◌∙◌}
use Rattle.whole_files.specs.Tables.{from_paths, AreApart, ArePut, AreRemoved, SameOutside}
use Rattle.whole_files.specs.Planned.{planned_of}
use Rattle.whole_files.proofs.Places.{plan-apart, written}
use Rattle.whole_files.proofs.tables.write_tables.Goals as goal

pub write_planned-requires : goal.write_planned-requires
write_planned-requires g c =
    let same = ap (map planned_of) c.deref.ensures.value ∙ c.in_ok-planned.ensures.planned in
    (c.type_bounds.sync-R, subst AreApart (sym same) (plan-apart c.args.folder.now c.args.run.now))

pub returns-clause-written : goal.returns-clause-written
returns-clause-written g c = λ tells.
    let same = ap (map planned_of) c.deref.ensures.value ∙ c.in_ok-planned.ensures.planned in
    let others = ap (map string_bytes) c.deref-3.ensures.value ∙ c.in_ok-others.ensures.paths in
    written c.args.folder.now c.args.run.now _ _ _
    (subst (λ ps. ArePut ps (g.F.FileSet.held c.args.files.now) (g.F.FileSet.held c.write_planned.new.files)) same (c.in_ok-write_planned.ensures.placed tells))
    (subst (λ ps. AreRemoved ps (g.F.FileSet.held c.remove_all.new.files)) others (c.remove_all.ensures.removed tells))
    (subst (λ ps. SameOutside ps (g.F.FileSet.held c.write_planned.new.files) (g.F.FileSet.held c.remove_all.new.files)) others (c.remove_all.ensures.others tells))

pub returns-clause-noted : goal.returns-clause-noted
returns-clause-noted g c = λ tells.
    let same = ap (map planned_of) c.deref.ensures.value ∙ c.in_ok-planned.ensures.planned in
    c.remove_all.ensures.unopened tells ∙ c.in_ok-write_planned.ensures.noted tells ∙ ap (λ ps. g.F.FileSet.opened c.args.files.now ++ from_paths ps) same
