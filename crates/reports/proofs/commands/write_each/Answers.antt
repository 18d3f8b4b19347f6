use Rattle.std.proofs.Common.{◌≡◌, [], ◌∷◌, ◌++◌, length, sym, ap, ◌∙◌, refl, append_assoc, arith}
use Rattle.std.proofs.lemmas.List.{append-nil}
use Rattle.command_table.specs.Lists.{stored_row}
use Rattle.reports.specs.Commands.{command_fields}
use Rattle.reports.proofs.RowLemmas.{added-more, nothing_added}
use Rattle.reports.proofs.TableLemmas.{mapped_none, lines-more}
use Rattle.reports.proofs.commands.write_each.Goals as goal

pub loop-row-init : goal.loop-row-init
loop-row-init g c = ([], refl, nothing_added _ _ (mapped_none (command_fields c.args.ranks)))

pub loop-row-smaller : goal.loop-row-smaller
loop-row-smaller g c = let e = ap length ((c.in-Some.ensures {u = tt}).some) in omega (arith, e)

pub loop-row-preserved : goal.loop-row-preserved
loop-row-preserved g c =
    let was = c.loop-row.invariant in
    let row = stored_row c.in-Some.row in
    let joined = added-more _ _ _ _ _ was.2 c.write_stored.ensures in (
      was.0 ++ row ∷ [],
      append_assoc was.0 (row ∷ []) _ ∙ ap (λ z. was.0 ++ z) (sym (c.in-Some.ensures {u = tt}).some) ∙ was.1,
      rw (← lines-more (command_fields c.args.ranks)) at joined,
    )

pub returns : goal.returns
returns g c =
    let was = c.loop-row.invariant in
    let none = c.next_stored.ensures.none c.in_default.is in
    let all : was.0 ≡ c.args.rows = sym (append-nil was.0) ∙ ap (λ z. was.0 ++ z) (sym none) ∙ was.1 in
    rw all at was.2
