use Rattle.std.proofs.Common.{sym, arith}
use Rattle.std.proofs.lemmas.Bool.{lt-ltb}
use Rattle.units.proofs.FirstBelow.{position_found, position_none}
use Rattle.units.proofs.lane_scan.searches.first_below.Goals as goal

pub returns-then-words-place : goal.returns-then-words-place
returns-then-words-place c =
    let at = c.loop-place in
    sym (position_found c.args.bound c.args.words.now at.place c.loop-place-test.true at.invariant (lt-ltb _ _ c.if-words-place.true))

pub returns : goal.returns
returns c =
    let at = c.loop-place in
    sym (position_none c.args.bound c.args.words.now at.place (omega (arith, at.auto.place-end, c.skip_others-place.ensures.stop)) c.loop-place-test.false at.invariant)
