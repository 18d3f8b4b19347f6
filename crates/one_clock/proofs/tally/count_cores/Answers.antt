-- Each core in turn counts the cycle.
use Rattle.std.proofs.Common.{◌≡◌, ◌<◌, length, sym, ap, ◌∙◌, arith}
use Rattle.std.proofs.Math.ListN.{set}
use Rattle.std.specs.Prelude.{slice_index_or}
use Rattle.one_clock.specs.Cycles.{core_stats_before, core_stats_after}
use Rattle.one_clock.proofs.Units.{at_unit_of, below_units, below_halfway, halfway, halfway_none, halfway_at, halfway_more, halfway_all}
use Rattle.one_clock.proofs.tally.count_cores.Goals as goal

pub loop-core-init : goal.loop-core-init
loop-core-init c =
    let s = c.args.cycle.now.config.now in
    let before = core_stats_before c.args.cycle.now in
    let after = core_stats_after c.args.cycle.now in
    c.requires.counts ∙ sym (halfway_none after before s.cores)

pub bounds-cores-i : goal.bounds-cores-i
bounds-cores-i c = below_units _ _ _ _ c.requires.cores c.loop-core-test.true

pub bounds-steps-i : goal.bounds-steps-i
bounds-steps-i c = below_units _ _ _ _ c.requires.steps c.loop-core-test.true

pub count_core-requires-clause-past : goal.count_core-requires-clause-past
count_core-requires-clause-past c = c.index-cores-i.is ∙ at_unit_of _ _ _ _ _ c.requires.cores c.loop-core-test.true

pub count_core-requires-clause-step : goal.count_core-requires-clause-step
count_core-requires-clause-step c = at_unit_of _ _ _ _ _ c.requires.steps c.loop-core-test.true

pub index_mut-requires : goal.index_mut-requires
index_mut-requires c =
    let l : c.loop-core.core < length c.loop-core.counts.items = below_halfway _ _ _ _ _ c.loop-core.invariant c.loop-core-test.true in
    omega (arith, l, c.loop-core.counts.ok.0)

pub count_core-requires-clause-counts : goal.count_core-requires-clause-counts
count_core-requires-clause-counts c =
    let s = c.args.cycle.now.config.now in
    let before = core_stats_before c.args.cycle.now in
    let after = core_stats_after c.args.cycle.now in
    let d = c.index_mut.result.now in
    c.index_mut.ensures.value
    ∙ ap (λ x. slice_index_or x c.loop-core.core d) c.loop-core.invariant
    ∙ halfway_at after before s.cores c.loop-core.core d (omega arith)

pub loop-core-preserved : goal.loop-core-preserved
loop-core-preserved c =
    let s = c.args.cycle.now.config.now in
    let before = core_stats_before c.args.cycle.now in
    let after = core_stats_after c.args.cycle.now in
    ap (λ x. set x c.loop-core.core c.count_core.new.counts) c.loop-core.invariant
    ∙ ap (set (halfway after before s.cores c.loop-core.core) c.loop-core.core) (c.in_ok-count_core.ensures {u = tt})
    ∙ halfway_more after before s.cores c.loop-core.core (after 0) (omega arith)

pub returns : goal.returns
returns c =
    let s = c.args.cycle.now.config.now in
    let before = core_stats_before c.args.cycle.now in
    let after = core_stats_after c.args.cycle.now in
    let e : c.loop-core.core ≡ s.cores = omega arith in
    c.loop-core.invariant ∙ ap (halfway after before s.cores) e ∙ halfway_all after before s.cores
