-- A cycle more of one core: its counts so far are those of the run, and the sum fits.
use Rattle.std.proofs.Common.{◌^◌, ◌<◌, ◌≤◌, length, sym, ap, subst, ◌∙◌, arith}
use Rattle.sim_base.specs.History.{issued_before, retired_before}
use Rattle.one_clock.proofs.Joined.{core_stats_issued, core_stats_retired, core_stats_within, core_stats_fit, core_cycle_by}
use Rattle.one_clock.proofs.tally.count_core.Goals as goal

pub core_cycle_stats-more-requires-clause-issued : goal.core_cycle_stats-more-requires-clause-issued
core_cycle_stats-more-requires-clause-issued c =
    let cycle = c.args.cycle.now in
    core_stats_issued cycle.config.now cycle.traces.now cycle.number c.args.core c.args.past.now c.args.counts.now c.requires.past c.requires.counts
    ∙ ap issued_before (sym c.past_steps-past_steps.ensures)

pub core_cycle_stats-more-requires-clause-retired : goal.core_cycle_stats-more-requires-clause-retired
core_cycle_stats-more-requires-clause-retired c =
    let cycle = c.args.cycle.now in
    core_stats_retired cycle.config.now cycle.traces.now cycle.number c.args.core c.args.past.now c.args.counts.now c.requires.past c.requires.counts
    ∙ ap retired_before (sym c.past_steps-past_steps.ensures)

pub core_cycle_stats-more-requires-clause-within : goal.core_cycle_stats-more-requires-clause-within
core_cycle_stats-more-requires-clause-within c =
    let cycle = c.args.cycle.now in
    subst (λ t. c.args.counts.now.issued ≤ length t) (sym c.trace_of_core-trace.ensures)
    (core_stats_within cycle.config.now cycle.traces.now cycle.number c.args.core c.args.counts.now c.requires.core_in c.requires.counts)

pub joined-requires : goal.joined-requires
joined-requires c =
    let cycle = c.args.cycle.now in
    core_stats_fit cycle.config.now cycle.traces.now cycle.number c.args.core c.args.past.now c.args.step c.args.counts.now c.core_cycle_stats-more.result
    c.requires.core_in c.requires.past c.requires.step c.requires.counts
    (core_cycle_by _ _ _ _ _ _ _ c.args.step _ c.trace_of_core-trace.ensures c.past_steps-past_steps.ensures c.inbox-inbox.ensures
    (c.deref.ensures.value ∙ c.in_ok-arrived.ensures.value) c.core_cycle_stats-more.ensures.value)
    cycle.early
    (subst (λ t. length t < 2 ^ 64) c.trace_of_core-trace.ensures (omega (arith, c.core_cycle_stats-more.ensures.trace_fits)))
    (subst (λ m. length m < 2 ^ 64) c.inbox-inbox.ensures c.replies_now.ensures.inbox_fits)
