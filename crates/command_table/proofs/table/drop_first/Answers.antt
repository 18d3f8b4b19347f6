use Rattle.std.proofs.Common.{◌≡◌, [], get_or, set, drop, sym, subst, ap, ◌∙◌, arith}
use Rattle.std.proofs.lemmas.List.{drop_all, get_or_default}
use Rattle.command_table.specs.Tables.{IsRising, table_of, by_cycle}
use Rattle.command_table.proofs.Taking.{without-empty}
use Rattle.command_table.proofs.Merging.{rest-rises, set-rises}
use Rattle.command_table.proofs.table.drop_first.Goals as goal

pub returns-else-is_last-clause-rising : goal.returns-else-is_last-clause-rising
returns-else-is_last-clause-rising c h =
    let lists = c.args.lefts.now.items in
    let old = c.index_mut.result.now in
    let rises : IsRising old = subst IsRising (sym c.index_mut.ensures.value) (h c.args.place old c.requires.place) in
    set-rises lists c.args.place c.advance.new.self h (subst IsRising (sym c.advance.ensures) (rest-rises old rises))

pub returns-then-is_last-clause-table : goal.returns-then-is_last-clause-table
returns-then-is_last-clause-table c =
    let lists = c.args.lefts.now.items in
    let old = c.index.result.now in
    let last : drop 1 old ≡ [] = drop_all 1 old (omega (arith, c.if-is_last.ensures {u = tt})) in
    let none : drop 1 (get_or lists c.args.place []) ≡ [] = ap (drop 1) (get_or_default lists c.args.place [] old c.requires.place ∙ sym c.index.ensures) ∙ last in
    ap table_of c.remove.ensures.items ∙ ap by_cycle (without-empty lists c.args.place c.requires.place) ∙ ap (λ rows. table_of (set lists c.args.place rows)) (sym none)
