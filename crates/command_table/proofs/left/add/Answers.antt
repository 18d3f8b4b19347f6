use Rattle.std.proofs.Common.{[], ◌∷◌, ◌++◌, sym, ap, subst, ◌∙◌}
use Rattle.std.specs.Prelude.{All}
use Rattle.std.proofs.lemmas.List.{append-nil}
use Rattle.std.proofs.lemmas.List.Concat.{flat_map-append}
use Rattle.std.proofs.lemmas.List.Elements.{All-push}
use Rattle.command_table.specs.Tables.{IsRising, all_rows}
use Rattle.command_table.proofs.left.add.Goals as goal

pub returns-in_ok-push-in-Some-clause-rows : goal.returns-in_ok-push-in-Some-clause-rows
returns-in_ok-push-in-Some-clause-rows c =
    let lefts = c.args.lefts.now.items in
    let left = c.in-Some.left in
    rw c.in-Some.is (ap all_rows (c.in_ok-push-in-Some.ensures {u = tt}).items ∙ flat_map-append (λ rows. rows) lefts (left ∷ []) ∙ ap (λ rows. all_rows lefts ++ rows) (append-nil left))

pub returns-in_ok-push-in-Some-clause-rising : goal.returns-in_ok-push-in-Some-clause-rising
returns-in_ok-push-in-Some-clause-rising c rises all =
    subst (All IsRising) (sym (c.in_ok-push-in-Some.ensures {u = tt}).items) (All-push IsRising _ _ all (rw c.in-Some.is at rises))
