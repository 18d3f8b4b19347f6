use Rattle.std.proofs.Common.{◌++◌, map, sym, ap, ap₂, subst, ◌∙◌, leb, ltb}
use Rattle.std.specs.Prelude.{All}
use Rattle.request_table.specs.declared.served_requests.ServedRequest.{ServedRequest}
use Rattle.request_table.specs.Tables.{AreServedBetween, rows_up_to, rows_after, times_by_cycle}
use Rattle.request_table.proofs.Cutting.{times-parts, all-served-filter}
use Rattle.request_table.proofs.table.Rows.take_piece.Goals as goal

pub of-requires : goal.of-requires
of-requires c =
    let cycles = c.self.inside.cycles in
    let lists = c.self.inside.lefts.items in
    let cycle = c.in-Some.cycle in
    let are = c.in_ok-before.ensures {u = tt} ∙ ap (map (rows_up_to cycle)) c.deref-2.ensures.value in
    subst (λ lefts. All (AreServedBetween 0 cycles) lefts) (sym are) (all-served-filter (λ (row : ServedRequest). leb row.served cycle) cycles lists c.self.invariant)

pub invariant_of-self : goal.invariant_of-self
invariant_of-self c =
    let cycles = c.self.inside.cycles in
    let lists = c.self.inside.lefts.items in
    let cycle = c.in-Some.cycle in
    let are = c.in_ok-self-inside.ensures {u = tt} ∙ ap (map (rows_after cycle)) c.deref-3.ensures.value in
    subst (λ lefts. All (AreServedBetween 0 cycles) lefts) (sym are) (all-served-filter (λ (row : ServedRequest). ltb cycle row.served) cycles lists c.self.invariant)

pub returns : goal.returns
returns c =
    let s = c.self.inside.config.now in
    let cycles = c.self.inside.cycles in
    let lists = c.self.inside.lefts.items in
    let cycle = c.in-Some.cycle in
    let before = c.of.ensures ∙ ap (times_by_cycle s cycles) (c.in_ok-before.ensures {u = tt} ∙ ap (map (rows_up_to cycle)) c.deref-2.ensures.value) in
    let behind = c.in_ok-self-inside.ensures {u = tt} ∙ ap (map (rows_after cycle)) c.deref-3.ensures.value in
    sym c.self.view_is ∙ times-parts s cycle cycles lists ∙ ap₂ (λ xs lefts. xs ++ times_by_cycle s cycles lefts) (sym before) (sym behind)
