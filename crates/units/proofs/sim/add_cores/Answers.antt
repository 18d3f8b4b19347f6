use Rattle.std.proofs.Common.{[], ◌+◌, length, sym, ap, subst, ◌∙◌, arith}
use Rattle.std.proofs.lemmas.List.{length_push}
use Rattle.sim_base.specs.History.{trace_of}
use Rattle.core_window.specs.CoreViews.{view_of}
use Rattle.core_window.specs.Stands.{StandsFor as CoreStandsFor}
use Rattle.units.specs.Parts.{StandAt}
use Rattle.units.proofs.Standing.{first-core}
use Rattle.units.proofs.sim.add_cores.Goals as goal

pub loop-core-preserved : goal.loop-core-preserved
loop-core-preserved c =
    let l = c.loop-core in
    let machine = c.args.machine.now in
    let items = c.in_ok-push.ensures.items in (
      ap length items ∙ length_push _ _ ∙ ap (λ n. n + 1) l.invariant.0,
      subst (StandAt machine 0) (sym items)
          (first-core machine l.parts.items l.core c.in_ok-own.own l.invariant.1 l.invariant.0 (omega (arith, c.loop-core-test.true))
          (subst (λ x. CoreStandsFor machine.config l.core (trace_of machine.traces.items l.core) [] [] (view_of x)) (sym c.in_ok-own.ensures.ok) (c.in_ok-first.ensures {u = tt}))),
    )
