-- The run has the cycles that are done, and no more where it is over.
use Rattle.std.proofs.Common.{◌≡◌, ◌+◌, ◌-◌, sym, ap, subst, ◌∙◌, arith}
use Rattle.sim_base.specs.Machine.{cycles_run}
use Rattle.sim_base.proofs.Cycles.{cycles-none, cycles-stay}
use Rattle.one_clock.specs.Held.{HoldsUpTo}
use Rattle.one_clock.proofs.Runs.{cycles_run_more}
use Rattle.one_clock.proofs.machine.run_cycles.Goals as goal

pub returns-then-branch : goal.returns-then-branch
returns-then-branch c =
    let first = c.args.first.now in
    let over = sym (c.in_ok-ends_here.ensures {u = tt}) ∙ c.if-branch.true in
    let left = c.args.cycles - c.loop-number.number in
    let limit : c.loop-number.number + left ≡ c.args.cycles = omega arith in
    record {
      number = sym (ap (cycles_run first.config.now first.traces.now) (sym limit) ∙ cycles-stay first.config.now first.traces.now c.loop-number.number c.loop-number.invariant.goes_on over left);
      small = omega arith;
      machine = c.loop-number.invariant.holds;
    }

pub loop-number-init : goal.loop-number-init
loop-number-init c =
    let first = c.args.first.now in
    record { holds = subst (λ n. HoldsUpTo first n c.args.machine.now) c.requires.first c.requires.machine; goes_on = cycles-none first.config.now first.traces.now }

pub loop-number-preserved : goal.loop-number-preserved
loop-number-preserved c =
    let first = c.args.first.now in
    record {
      holds = c.in_ok-advance.ensures {u = tt};
      goes_on =
          cycles_run_more first.config.now first.traces.now c.loop-number.number c.loop-number.invariant.goes_on
          (sym (c.in_ok-ends_here.ensures {u = tt}) ∙ c.if-branch.false);
    }

pub returns : goal.returns
returns c =
    let first = c.args.first.now in
    let all : c.loop-number.number ≡ c.args.cycles = omega arith in
    record {
      number = sym (subst (λ n. cycles_run first.config.now first.traces.now n ≡ n) all c.loop-number.invariant.goes_on);
      small = omega arith;
      machine = subst (λ n. HoldsUpTo first n c.loop-number.machine) all c.loop-number.invariant.holds;
    }
