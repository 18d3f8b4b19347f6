use Rattle.std.proofs.Common.{◌≡◌, ◌≤◌, take, ap, ◌∙◌, sym, subst, leb, ltb, arith}
use Rattle.std.specs.Prelude.{All}
use Rattle.std.proofs.lemmas.List.{take_all}
use Rattle.std.proofs.lemmas.List.Elements.{All-nil}
use Rattle.std.proofs.lemmas.List.Kept.{AllPairs-filter}
use Rattle.sim_base.specs.declared.command.IssuedCommand.{IssuedCommand}
use Rattle.command_table.specs.Tables.{IsRising, all_rows, rows_up_to, rows_after}
use Rattle.command_table.proofs.Pieces.{up-to-more, after-more}
use Rattle.command_table.proofs.cuts.parts_of.Goals as goal

pub up_to-requires : goal.up_to-requires
up_to-requires c = subst IsRising (sym c.left-item.is) (c.requires c.loop-left.left-index c.left-item.result c.loop-left-test.true)

pub after-requires : goal.after-requires
after-requires c = subst IsRising (sym c.left-item.is) (c.requires c.loop-left.left-index c.left-item.result c.loop-left-test.true)

pub loop-left-init : goal.loop-left-init
loop-left-init c =
    record {
      before = ap all_rows c.in_ok-before.ensures.items;
      behind = ap all_rows c.in_ok-behind.ensures.items;
      rising_before = subst (All IsRising) (sym c.in_ok-before.ensures.items) (All-nil IsRising);
      rising_behind = subst (All IsRising) (sym c.in_ok-behind.ensures.items) (All-nil IsRising);
    }

pub returns : goal.returns
returns c =
    let whole : take c.loop-left.left-index c.args.lefts.now ≡ c.args.lefts.now = take_all c.loop-left.left-index c.args.lefts.now (omega arith) in
    record {
      before = c.loop-left.invariant.before ∙ ap (λ lists. rows_up_to c.args.cycle (all_rows lists)) whole;
      behind = c.loop-left.invariant.behind ∙ ap (λ lists. rows_after c.args.cycle (all_rows lists)) whole;
      rising = (c.loop-left.invariant.rising_before, c.loop-left.invariant.rising_behind);
    }

pub loop-left-preserved : goal.loop-left-preserved
loop-left-preserved c =
    let lists = c.args.lefts.now in
    let i = c.loop-left.left-index in
    let list = c.left-item.result in
    let cycle = c.args.cycle in
    let rises : IsRising list = subst IsRising (sym c.left-item.is) (c.requires i list c.loop-left-test.true) in
    record {
      before = up-to-more cycle lists c.loop-left.before.items c.add.new.lefts.items i list _ c.loop-left-test.true c.left-item.is c.up_to.ensures c.loop-left.invariant.before c.in_ok-add.ensures.rows;
      behind = after-more cycle lists c.loop-left.behind.items c.add-in-loop-left.new.lefts.items i list _ c.loop-left-test.true c.left-item.is c.after.ensures c.loop-left.invariant.behind c.in_ok-add-2.ensures.rows;
      rising_before = c.in_ok-add.ensures.rising (subst IsRising (sym c.up_to.ensures) (AllPairs-filter (λ a b. a.cycle ≤ b.cycle) (λ (row : IssuedCommand). leb row.cycle cycle) list rises)) c.loop-left.invariant.rising_before;
      rising_behind = c.in_ok-add-2.ensures.rising (subst IsRising (sym c.after.ensures) (AllPairs-filter (λ a b. a.cycle ≤ b.cycle) (λ (row : IssuedCommand). ltb cycle row.cycle) list rises)) c.loop-left.invariant.rising_behind;
    }
