use Rattle.std.proofs.Common.{◌≡◌, [], ◌∷◌, List, set, sym, subst, ap₂, ◌∙◌}
use Rattle.std.specs.Prelude.{All}
use Rattle.request_table.specs.declared.served_requests.ServedRequest.{ServedRequest}
use Rattle.request_table.specs.Tables.{AreServedBetween, times_by_cycle}
use Rattle.request_table.specs.Lefts.{IsNext}
use Rattle.request_table.proofs.Reading.{times-next, no-row, all-served-rest}
use Rattle.request_table.proofs.table.Rows.next.Goals as goal

pub returns-in_err-place-clause-none : goal.returns-in_err-place-clause-none
returns-in_err-place-clause-none c _ =
    sym c.self.view_is
    ∙ no-row c.self.inside.config.now c.self.inside.cycles c.self.inside.lefts.items
    (subst (λ lists. All (λ (rows : List ServedRequest). rows ≡ []) lists) c.deref.ensures.value c.in_err-place.ensures)

pub invariant_of-self-2 : goal.invariant_of-self-2
invariant_of-self-2 c =
    let lists = c.self.inside.lefts.items in
    let place = c.in_ok-place.place in
    let next : IsNext lists place = subst (λ z. IsNext z place) c.deref.ensures.value c.in_ok-place.ensures in
    subst (λ rest. All (AreServedBetween 0 c.self.inside.cycles) (set lists place rest)) (sym c.in_ok-request.ensures.rest)
    (all-served-rest c.self.inside.cycles lists place c.index_mut.result.now c.self.invariant next.next.within c.index_mut.ensures.value)

pub returns-clause-some : goal.returns-clause-some
returns-clause-some c =
    let s = c.self.inside.config.now in
    let lists = c.self.inside.lefts.items in
    let place = c.in_ok-place.place in
    let next : IsNext lists place = subst (λ z. IsNext z place) c.deref.ensures.value c.in_ok-place.ensures in
    sym c.self.view_is
    ∙ times-next s c.self.inside.cycles lists place c.index_mut.result.now c.in_ok-request.request c.self.invariant next c.index_mut.ensures.value c.in_ok-request.ensures.first
    ∙ ap₂ (λ row rest. row ∷ times_by_cycle s c.self.inside.cycles (set lists place rest)) (sym c.times.ensures) (sym c.in_ok-request.ensures.rest)

pub returns-clause-over : goal.returns-clause-over
returns-clause-over c h = let e = sym h ∙ returns-clause-some c in absurd (cc)
