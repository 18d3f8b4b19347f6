use Rattle.std.proofs.Common.{◌+◌, ◌≤◌, length, take, ap, ◌∙◌, min, arith}
use Rattle.std.proofs.lemmas.Simd.{length-replicate}
use Rattle.std.specs.Simd.Lanes.{zip2}
use Rattle.units.specs.Scans.{greatest}
use Rattle.units.proofs.LeastWord.{least_replicate, least-le, least_more}
use Rattle.units.proofs.lane_scan.searches.least_from.Goals as goal

pub loop-at-init : goal.loop-at-init
loop-at-init g c =
    (c.requires.begun, length-replicate g.row.N greatest, omega (arith, least_replicate g.row.N, c.requires.so_far, least-le (take c.args.from c.args.words.now)))

pub loop-at-preserved : goal.loop-at-preserved
loop-at-preserved g c =
    let words = c.args.words.now in
    let at = c.loop-at.at in
    let room : at + g.row.N ≤ length words = omega (arith, c.loop-at-test.true, c.loop-at.invariant.0) in
    let more = least_more words at g.row.N c.loop-at.lanes c.lesser-lanes.result c.args.least room c.loop-at.invariant.1
    (c.lesser-lanes.ensures ∙ ap (zip2 min c.loop-at.lanes) c.load.ensures) c.loop-at.invariant.2 in
    (room, more.0, more.1)
