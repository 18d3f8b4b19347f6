use Rattle.std.proofs.Common.{◌+◌, ◌≤◌, length, arith}
use Rattle.units.proofs.FirstBelow.{none_more, none_all}
use Rattle.units.proofs.lane_scan.searches.skip_others.Goals as goal

pub returns-then-run-clause-none : goal.returns-then-run-clause-none
returns-then-run-clause-none g c =
    let room : c.loop-at.at + g.row.N ≤ length c.args.words.now = omega (arith, c.loop-at-test.true, c.loop-at.invariant.0) in
    none_more c.args.bound c.args.words.now c.loop-at.at g.row.N _ room c.others_in-run.ensures c.loop-at.invariant.1

pub loop-at-preserved : goal.loop-at-preserved
loop-at-preserved g c =
    let room : c.loop-at.at + g.row.N ≤ length c.args.words.now = omega (arith, c.loop-at-test.true, c.loop-at.invariant.0) in
    (room, none_all c.args.bound c.args.words.now c.loop-at.at g.row.N _ room c.others_in-run.ensures c.if-run.false c.loop-at.invariant.1)
