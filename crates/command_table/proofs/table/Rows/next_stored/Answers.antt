use Rattle.std.proofs.Common.{refl, sym, subst, ◌∙◌}
use Rattle.command_table.specs.Lefts.{IsNext}
use Rattle.command_table.proofs.Merging.{table-next, no-row, some-row}
use Rattle.command_table.proofs.table.Rows.next_stored.Goals as goal

pub returns-in_err-place-clause-none : goal.returns-in_err-place-clause-none
returns-in_err-place-clause-none c _ = sym c.self.view_is ∙ no-row _ (sym c.deref.ensures.value ∙ c.in_err-place.ensures.none refl)

pub returns-clause-some : goal.returns-clause-some
returns-clause-some c =
    let lists = c.self.inside.lefts.items in
    let next : IsNext lists c.in_ok-place.place = subst (λ z. IsNext z c.in_ok-place.place) c.deref.ensures.value c.in_ok-place.ensures.some in
    sym c.self.view_is
    ∙ table-next _ lists c.drop_first.new.lefts.items c.in_ok-place.place c.index.result.now c.self.invariant next c.index.ensures c.first-first.ensures c.drop_first.ensures.table

pub returns-clause-over : goal.returns-clause-over
returns-clause-over c h =
    let lists = c.self.inside.lefts.items in
    let next : IsNext lists c.in_ok-place.place = subst (λ z. IsNext z c.in_ok-place.place) c.deref.ensures.value c.in_ok-place.ensures.some in
    absurd (some-row lists c.in_ok-place.place c.self.invariant next (c.self.view_is ∙ h))
