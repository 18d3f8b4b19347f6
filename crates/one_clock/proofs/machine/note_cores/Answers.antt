-- Each core in turn is taken a cycle further.
use Rattle.std.proofs.Common.{◌≡◌, ◌<◌, length, sym, ap, ◌∙◌, arith}
use Rattle.std.proofs.Math.ListN.{set}
use Rattle.std.specs.Prelude.{slice_index_or}
use Rattle.one_clock.specs.Cycles.{core_before, core_after}
use Rattle.one_clock.proofs.Next.{step_alone}
use Rattle.one_clock.proofs.Units.{at_unit_of, below_units, below_halfway, halfway, halfway_none, halfway_at, halfway_more, halfway_all}
use Rattle.one_clock.proofs.machine.note_cores.Goals as goal

pub loop-core-init : goal.loop-core-init
loop-core-init c =
    let s = c.args.cycle.now.config.now in
    let before = core_before c.args.cycle.now in
    let after = core_after c.args.cycle.now in
    c.requires.cores ∙ sym (halfway_none after before s.cores)

pub bounds-steps-i : goal.bounds-steps-i
bounds-steps-i c = below_units _ _ _ _ c.requires.steps c.loop-core-test.true

pub note_core-requires-clause-step : goal.note_core-requires-clause-step
note_core-requires-clause-step c =
    ap (λ x. x.0) (at_unit_of _ _ _ _ _ c.requires.steps c.loop-core-test.true)
    ∙ step_alone c.args.cycle.now.config.now c.args.cycle.now.traces.now c.args.cycle.now.number c.loop-core.core

pub index_mut-requires : goal.index_mut-requires
index_mut-requires c =
    let l : c.loop-core.core < length c.loop-core.cores.items = below_halfway _ _ _ _ _ c.loop-core.invariant c.loop-core-test.true in
    omega (arith, l, c.loop-core.cores.ok.0)

pub note_core-requires-clause-past : goal.note_core-requires-clause-past
note_core-requires-clause-past c =
    let s = c.args.cycle.now.config.now in
    let before = core_before c.args.cycle.now in
    let after = core_after c.args.cycle.now in
    let d = c.index_mut.result.now in
    c.index_mut.ensures.value
    ∙ ap (λ x. slice_index_or x c.loop-core.core d) c.loop-core.invariant
    ∙ halfway_at after before s.cores c.loop-core.core d (omega arith)

pub loop-core-preserved : goal.loop-core-preserved
loop-core-preserved c =
    let s = c.args.cycle.now.config.now in
    let before = core_before c.args.cycle.now in
    let after = core_after c.args.cycle.now in
    ap (λ x. set x c.loop-core.core c.note_core.new.past) c.loop-core.invariant
    ∙ ap (set (halfway after before s.cores c.loop-core.core) c.loop-core.core) (c.in_ok-note_core.ensures {u = tt})
    ∙ halfway_more after before s.cores c.loop-core.core (after 0) (omega arith)

pub returns : goal.returns
returns c =
    let s = c.args.cycle.now.config.now in
    let before = core_before c.args.cycle.now in
    let after = core_after c.args.cycle.now in
    let e : c.loop-core.core ≡ s.cores = omega arith in
    c.loop-core.invariant ∙ ap (halfway after before s.cores) e ∙ halfway_all after before s.cores
