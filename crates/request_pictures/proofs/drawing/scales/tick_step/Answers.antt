-- The first distance with which there are few enough ticks.
use Rattle.std.proofs.Common.{arith}
use Rattle.request_pictures.proofs.TickSteps.{is_first, is_second, is_third, last_few, more_at, more_of_power, power_more, power_small, power_some, step_at}
use Rattle.request_pictures.proofs.drawing.scales.tick_step.Goals as goal

pub nonzero_div-span : goal.nonzero_div-span
nonzero_div-span c = power_some c.powers.power c.powers._place c.powers.invariant.0

pub returns-then-span-power-clause-some : goal.returns-then-span-power-clause-some
returns-then-span-power-clause-some c = power_some c.powers.power c.powers._place c.powers.invariant.0

pub returns-then-span-power-clause-exact : goal.returns-then-span-power-clause-exact
returns-then-span-power-clause-exact c =
    step_at _ _ _ _ (is_first c.powers.power c.powers._place c.powers.invariant.0) c.if-span-power.true c.powers.invariant.1

pub returns-then-span-power-2-clause-exact : goal.returns-then-span-power-2-clause-exact
returns-then-span-power-2-clause-exact c =
    let first = is_first c.powers.power c.powers._place c.powers.invariant.0 in
    let second = is_second c.powers.power c.powers._place c.powers.invariant.0 in
    step_at _ _ _ _ second c.if-span-power-2.true (more_at _ _ _ _ first c.if-span-power.false c.powers.invariant.1)

pub overflow_mul-power-in-powers : goal.overflow_mul-power-in-powers
overflow_mul-power-in-powers c = omega (arith, power_small c.powers.power c.powers._place c.powers.invariant.0 (omega arith))

pub overflow_mul-result-then-span-power-3 : goal.overflow_mul-result-then-span-power-3
overflow_mul-result-then-span-power-3 c = omega (arith, power_small c.powers.power c.powers._place c.powers.invariant.0 (omega arith))

pub returns-then-span-power-3-clause-exact : goal.returns-then-span-power-3-clause-exact
returns-then-span-power-3-clause-exact c =
    let first = is_first c.powers.power c.powers._place c.powers.invariant.0 in
    let second = is_second c.powers.power c.powers._place c.powers.invariant.0 in
    let third = is_third c.powers.power c.powers._place c.powers.invariant.0 in
    step_at _ _ _ _ third c.if-span-power-3.true
    (more_at _ _ _ _ second c.if-span-power-2.false (more_at _ _ _ _ first c.if-span-power.false c.powers.invariant.1))

pub powers-preserved : goal.powers-preserved
powers-preserved c = (
  power_more c.powers.power c.powers._place c.powers.invariant.0,
  more_of_power c.args.span c.args.most c.powers.power c.powers._place c.powers.invariant.0 c.if-span-power.false c.if-span-power-2.false c.if-span-power-3.false c.powers.invariant.1,
)

pub returns-clause-exact : goal.returns-clause-exact
returns-clause-exact c =
    let few = last_few c.args.span c.powers.power c.powers._place c.powers.invariant.0 c.powers-test.false c.ranges.span.fits in
    step_at _ _ _ _ (is_first c.powers.power c.powers._place c.powers.invariant.0) (omega arith) c.powers.invariant.1
