use Rattle.std.proofs.Common.{◌≡◌, take, sym, ap, subst, ◌∙◌, arith}
use Rattle.std.proofs.lemmas.List.{take_all}
use Rattle.command_table.specs.Tables.{IsRising, all_rows, by_cycle}
use Rattle.command_table.proofs.Taking.{part-more}
use Rattle.command_table.proofs.table.lefts_of.Goals as goal

pub loop-list-preserved : goal.loop-list-preserved
loop-list-preserved c =
    let lists = c.args.lists.now in
    let i = c.loop-list.list-index in
    let list = c.list-item.result in
    record {
      rows = part-more lists c.loop-list.lefts.items c.add.new.lefts.items i list _ c.loop-list-test.true c.list-item.is c.of.ensures c.loop-list.invariant.rows c.in_ok-add.ensures.rows;
      rising = λ h. c.in_ok-add.ensures.rising (subst IsRising (sym (c.of.ensures ∙ c.list-item.is)) (h i list c.loop-list-test.true)) (c.loop-list.invariant.rising h);
    }

pub returns-clause-table : goal.returns-clause-table
returns-clause-table c =
    let whole : take c.loop-list.list-index c.args.lists.now ≡ c.args.lists.now = take_all c.loop-list.list-index c.args.lists.now (omega arith) in
    ap by_cycle (c.loop-list.invariant.rows ∙ ap all_rows whole)

pub returns-clause-rising : goal.returns-clause-rising
returns-clause-rising c = c.loop-list.invariant.rising
