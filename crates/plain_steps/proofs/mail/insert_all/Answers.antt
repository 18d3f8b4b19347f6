-- One message more is in.
use Rattle.std.proofs.Common.{sym}
use Rattle.std.proofs.lemmas.List.Sums.{fold_more}
use Rattle.sim_base.specs.History.{insert_by_age}
use Rattle.plain_steps.proofs.mail.insert_all.Goals as goal

pub loop-m-preserved : goal.loop-m-preserved
loop-m-preserved c =
    rw (c.in_ok-insert.ensures {u = tt})
    (rw c.loop-m.invariant (sym (fold_more insert_by_age c.args.mail.now.items c.args.more.now c.loop-m.m-index _ c.loop-m-test.true)))
