use Rattle.std.proofs.Common.{◌+◌, take, sym, subst, ◌∙◌, IfSome}
use Rattle.command_table.proofs.Pieces.{HaveUpTo, have-kept, have-earlier}
use Rattle.command_table.proofs.cuts.cut_of.Goals as goal
use Rattle.command_table.proofs.cuts.cut_of.Goals.{in-Some, in_default}

pub loop-left-preserved : goal.loop-left-preserved
loop-left-preserved c =
    let lists = c.args.lefts.now in
    let i = c.loop-left.left-index in
    let list = c.left-item.result in
    elim c.match-get.branch [
      | in-Some w ↦
          subst (λ least. IfSome least (HaveUpTo (take (i + 1) lists))) (sym w.least-is)
          (have-earlier lists i list c.args.count w.in-Some.row c.loop-left.least w.earlier.result c.loop-left-test.true c.left-item.is (sym c.get.ensures ∙ w.in-Some.is) w.earlier.ensures c.loop-left.invariant)
      | in_default w ↦ subst (λ least. IfSome least (HaveUpTo (take (i + 1) lists))) (sym w.least-is) (have-kept lists i list c.loop-left.least c.loop-left-test.true c.left-item.is c.loop-left.invariant)
    ]
