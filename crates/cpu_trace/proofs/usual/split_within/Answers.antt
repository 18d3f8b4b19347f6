use Rattle.std.proofs.Common.{◌<◌, length, refl, arith}
use Rattle.cpu_trace.proofs.UsualLines.{one_more}
use Rattle.cpu_trace.proofs.usual.split_within.Goals as goal

pub overflow_mul-number : goal.overflow_mul-number
overflow_mul-number c =
    let below = c.loop-len-test.true in
    let inside : c.loop-len.len < length c.args.text.now = omega (arith, below, c.requires.within) in
    let h = one_more _ _ _ _ _ _ _ c.requires.lower c.requires.room below inside c.loop-len.invariant.all_digits c.loop-len.invariant.value refl c.in-Some.ensures in
    omega (arith, h.room)

pub overflow_add-number : goal.overflow_add-number
overflow_add-number c =
    let below = c.loop-len-test.true in
    let inside : c.loop-len.len < length c.args.text.now = omega (arith, below, c.requires.within) in
    let h = one_more _ _ _ _ _ _ _ c.requires.lower c.requires.room below inside c.loop-len.invariant.all_digits c.loop-len.invariant.value refl c.in-Some.ensures in
    omega (arith, h.room)

pub loop-len-preserved : goal.loop-len-preserved
loop-len-preserved c =
    let below = c.loop-len-test.true in
    let inside : c.loop-len.len < length c.args.text.now = omega (arith, below, c.requires.within) in
    let h = one_more _ _ _ _ _ _ _ c.requires.lower c.requires.room below inside c.loop-len.invariant.all_digits c.loop-len.invariant.value refl c.in-Some.ensures in
    record { within = omega (arith, c.loop-len-test.true); all_digits = h.all_digits; value = h.value }
