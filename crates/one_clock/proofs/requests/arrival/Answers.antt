use Rattle.std.proofs.Common.{rules, ◌≡◌, ◌+◌, ◌<◌, length, get_or, IfSome, ap, ap₂, subst, ◌∙◌, arith}
use Rattle.sim_base.specs.Config.{latency}
use Rattle.sim_base.specs.Counts.{issue_cycle}
use Rattle.sim_base.specs.Machine.{run}
use Rattle.sim_base.proofs.Spans.{length_run}
use Rattle.plain_steps.specs.Plain.{CoreView, core_view}
use Rattle.statistics.proofs.Replies.{length-steps_of_core}
use Rattle.one_clock.proofs.Units.{at_unit_of, length_units}
use Rattle.one_clock.proofs.requests.arrival.Goals as goal

pub cycle_of_issue-requires : goal.cycle_of_issue-requires
cycle_of_issue-requires c =
    let s = c.args.cycle.now.config.now in
    let all = run s c.args.cycle.now.traces.now c.args.cycle.now.number in
    let view = core_view s c.args.cycle.now.traces.now all in
    let core = c.args.source.core in
    let many = length_units c.args.cores.now view s.cores c.requires.cores in
    let inside : core < s.cores = omega (arith, many, c.if-from-cores.false, c.from.ensures) in
    let past = c.index-cores-from.is ∙ ap (λ i. get_or c.args.cores.now i c.index-cores-from.result) c.from-2.ensures ∙ at_unit_of c.args.cores.now view s.cores core c.index-cores-from.result c.requires.cores inside in
    let long : length c.past_steps.result.now ≡ c.args.cycle.now.number =
    ap length (c.past_steps.ensures ∙ ap (λ (v : CoreView). v.past_steps) past) ∙ length-steps_of_core core all ∙ length_run s c.args.cycle.now.traces.now c.args.cycle.now.number in
    omega (arith, long, c.args.cycle.now.early)

pub returns : goal.returns
returns c =
    let s = c.args.cycle.now.config.now in
    let all = run s c.args.cycle.now.traces.now c.args.cycle.now.number in
    let view = core_view s c.args.cycle.now.traces.now all in
    let core = c.args.source.core in
    let many = length_units c.args.cores.now view s.cores c.requires.cores in
    let inside : core < s.cores = omega (arith, many, c.if-from-cores.false, c.from.ensures) in
    let past = c.index-cores-from.is ∙ ap (λ i. get_or c.args.cores.now i c.index-cores-from.result) c.from-2.ensures ∙ at_unit_of c.args.cores.now view s.cores core c.index-cores-from.result c.requires.cores inside in
    let issued = c.cycle_of_issue.ensures ∙ ap (λ steps. issue_cycle steps c.args.source.entry) (c.past_steps.ensures ∙ ap (λ (v : CoreView). v.past_steps) past) in
    let travels = c.from-travels.ensures ∙ c.latency.ensures.value ∙ ap (latency s) c.request_link-link.ensures.value in
    subst (λ n. IfSome c.checked_add.result (λ arrived. arrived ≡ n)) (ap₂ (λ a b. a + b) issued travels) (search rules)
