-- The statistics of each unit, one cycle more, and why they fit.
use Rattle.std.proofs.Common.{◌≡◌, ℕ, suc, ◌+◌, ◌^◌, ◌<◌, ◌≤◌, List, [], length, sym, ap, ap₂, subst, ◌∙◌, add-one, arith}
use Rattle.std.specs.Prelude.{is_some, max}
use Rattle.std.proofs.Math.Seq.{take-length}
use Rattle.sim_base.specs.declared.config.Config.{Config}
use Rattle.sim_base.specs.declared.history.CoreStep.{CoreStep}
use Rattle.sim_base.specs.declared.message.Message.{Message}
use Rattle.sim_base.specs.declared.message.Unit.TheVariants.{Core, Channel}
use Rattle.sim_base.specs.declared.trace.Entry.{Entry}
use Rattle.sim_base.specs.declared.trace.Stop.{Stop}
use Rattle.sim_base.specs.Counts.{replies, queue_length, queued_max, has_refresh_due, draining}
use Rattle.sim_base.specs.History.{trace_of, steps_of_core, steps_of_channel, issued_commands, retired_before, issued_before, inbox}
use Rattle.sim_base.specs.Machine.{next_command, run}
use Rattle.sim_base.specs.Scheduling.{lowest_due, drains, choice}
use Rattle.sim_base.proofs.Arrived.{arrived}
use Rattle.sim_base.proofs.Spans.{length_run}
use Rattle.statistics.specs.declared.channels.ChannelStats.{ChannelStats}
use Rattle.statistics.specs.declared.cores.CoreStats.{CoreStats}
use Rattle.statistics.specs.Channels.{draining_of, channel_stats, channel_cycle_with, channel_cycle, channel_none, channel_joined, ChannelFits}
use Rattle.statistics.specs.Cores.{replies_in, core_stats, core_cycle_with, core_cycle, core_none, core_joined, CoreFits}
use Rattle.statistics.specs.Runs.{stats_of_core, stats_of_channel}
use Rattle.statistics.proofs.ChannelCounts.{channel_stats-fit, channel_stats-none}
use Rattle.statistics.proofs.CoreCounts.{core_stats-fit, replies-same, core_stats-none}
use Rattle.statistics.proofs.KeepsToTrace.{KeepsToTrace-run}
use Rattle.statistics.proofs.ReplyBounds.{replies-le}
use Rattle.statistics.proofs.RunSteps.{inbox-next, stats_of_core-next, stats_of_channel-next}
use Rattle.statistics.proofs.Replies.{length-steps_of_channel, length-steps_of_core}
use Rattle.plain_steps.specs.declared.scheduling.ChannelStep.{ChannelStep}
use Rattle.plain_steps.specs.Plain.{CoreView, core_view, ChannelView, channel_view, channel_step_of, queue_of}
use Rattle.one_clock.specs.Counts.{no_channel_counts}
use Rattle.one_clock.specs.Steps.{core_step_of}
use Rattle.one_clock.proofs.Next.{queue_is, no_mail, run_none}

-- before the first cycle nothing is counted

no_core_stats : (s : Config) (traces : List (List Entry)) (core : ℕ) → stats_of_core s traces (run s traces 0) core ≡ core_none
unfolding stats_of_core steps_of_core
no_core_stats s traces core =
    ap (λ h. stats_of_core s traces h core) (run_none s traces)
    ∙ ap (core_stats s core (trace_of traces core) []) (no_mail s traces (Core core))
    ∙ core_stats-none s core (trace_of traces core)

no_channel_stats : (s : Config) (traces : List (List Entry)) (channel : ℕ) → stats_of_channel s traces (run s traces 0) channel ≡ record channel_none { draining = draining_of s 0 }
unfolding stats_of_channel steps_of_channel
no_channel_stats s traces channel =
    ap (λ h. stats_of_channel s traces h channel) (run_none s traces) ∙ channel_stats-none s channel (inbox s traces [] (Channel channel))

pub core_stats_none : (s : Config) (traces : List (List Entry)) (n core : ℕ) → n ≡ 0 → core_none ≡ stats_of_core s traces (run s traces n) core
core_stats_none s traces n core e = sym (ap (λ i. stats_of_core s traces (run s traces i) core) e ∙ no_core_stats s traces core)

pub channel_stats_none : (s : Config) (traces : List (List Entry)) (n channel : ℕ) → n ≡ 0
    → no_channel_counts s ≡ stats_of_channel s traces (run s traces n) channel
channel_stats_none s traces n channel e = sym (ap (λ i. stats_of_channel s traces (run s traces i) channel) e ∙ no_channel_stats s traces channel)

-- a core, one cycle more

pub core_stats_issued : (s : Config) (traces : List (List Entry)) (n core : ℕ) (view : CoreView) (counts : CoreStats)
    → view ≡ core_view s traces (run s traces n) core → counts ≡ stats_of_core s traces (run s traces n) core → counts.issued ≡ issued_before view.past_steps
unfolding stats_of_core core_stats
core_stats_issued s traces n core view counts e f = ap (λ (c : CoreStats). c.issued) f ∙ ap (λ (v : CoreView). issued_before v.past_steps) (sym e)

pub core_stats_retired : (s : Config) (traces : List (List Entry)) (n core : ℕ) (view : CoreView) (counts : CoreStats)
    → view ≡ core_view s traces (run s traces n) core → counts ≡ stats_of_core s traces (run s traces n) core → counts.retired ≡ retired_before view.past_steps
unfolding stats_of_core core_stats
core_stats_retired s traces n core view counts e f = ap (λ (c : CoreStats). c.retired) f ∙ ap (λ (v : CoreView). retired_before v.past_steps) (sym e)

pub core_stats_within : (s : Config) (traces : List (List Entry)) (n core : ℕ) (counts : CoreStats)
    → core < s.cores → counts ≡ stats_of_core s traces (run s traces n) core → counts.issued ≤ length (trace_of traces core)
unfolding stats_of_core core_stats
core_stats_within s traces n core counts l f =
    let keeps = KeepsToTrace-run s traces core l n in
    subst (λ (c : CoreStats). c.issued ≤ length (trace_of traces core)) (sym f) keeps.issued

-- what a cycle counts, by a trace, steps and replies that are known to be those of the core
pub core_cycle_by : (t trace : List Entry) (r steps : List CoreStep) (m mail arrived : List Message) (step : CoreStep × Stop) (more : CoreStats)
    → t ≡ trace → r ≡ steps → m ≡ mail → arrived ≡ replies_in (length r) m → more ≡ core_cycle_with t r step.0 step.1 arrived
    → more ≡ core_cycle_with trace steps step.0 step.1 (replies_in (length steps) mail)
core_cycle_by t trace r steps m mail arrived step more e f g a h =
    h
    ∙ ap (core_cycle_with t r step.0 step.1) a
    ∙ ap₂ (λ t r. core_cycle_with t r step.0 step.1 (replies_in (length r) m)) e f
    ∙ ap (λ m. core_cycle_with trace steps step.0 step.1 (replies_in (length steps) m)) g

pub core_stats_next : (s : Config) (traces : List (List Entry)) (n core : ℕ) (view : CoreView) (step : CoreStep × Stop) (counts more : CoreStats)
    → core < s.cores
    → view ≡ core_view s traces (run s traces n) core
    → step ≡ core_step_of s traces (run s traces n) core
    → counts ≡ stats_of_core s traces (run s traces n) core
    → more ≡ core_cycle_with (trace_of traces core) view.past_steps step.0 step.1 (replies_in (length view.past_steps) view.inbox)
    → core_joined counts more ≡ stats_of_core s traces (run s traces (n + 1)) core
unfolding core_cycle core_step_of
core_stats_next s traces n core view step counts more l e f g h =
    let trace = trace_of traces core in
    let kept = core_view s traces (run s traces n) core in
    ap₂ core_joined g
    (h
    ∙ ap (λ (v : CoreView). core_cycle_with trace v.past_steps step.0 step.1 (replies_in (length v.past_steps) v.inbox)) e
    ∙ ap (λ (x : CoreStep × Stop). core_cycle_with trace kept.past_steps x.0 x.1 (replies_in (length kept.past_steps) kept.inbox)) f)
    ∙ sym (stats_of_core-next s traces n core l)
    ∙ ap (λ i. stats_of_core s traces (run s traces i) core) (sym (add-one n))

pub core_stats_fit : (s : Config) (traces : List (List Entry)) (n core : ℕ) (view : CoreView) (step : CoreStep × Stop) (counts more : CoreStats)
    → core < s.cores
    → view ≡ core_view s traces (run s traces n) core
    → step ≡ core_step_of s traces (run s traces n) core
    → counts ≡ stats_of_core s traces (run s traces n) core
    → more ≡ core_cycle_with (trace_of traces core) view.past_steps step.0 step.1 (replies_in (length view.past_steps) view.inbox)
    → n ≤ 10 ^ 12
    → length (trace_of traces core) < 2 ^ 64
    → length view.inbox < 2 ^ 64
    → CoreFits (core_joined counts more)
unfolding stats_of_core
core_stats_fit s traces n core view step counts more l e f g h early short few =
    let past_steps = steps_of_core core (run s traces (suc n)) in
    let mail = inbox s traces (run s traces n) (Core core) in
    let then = inbox s traces (run s traces (suc n)) (Core core) in
    let len : length past_steps ≡ n + 1 = length-steps_of_core core (run s traces (suc n)) ∙ length_run s traces (suc n) ∙ sym (add-one n) in
    let same : replies past_steps then ≡ replies past_steps mail = replies-same past_steps then mail (subst (λ i. arrived then i ≡ arrived mail i) (sym len) (inbox-next s traces n (Core core))) in
    let kept : length view.inbox ≡ length mail = ap (λ (v : CoreView). length v.inbox) e in
    let keeps = KeepsToTrace-run s traces core l (suc n) in
    let replied : length (replies past_steps then) ≤ length mail = subst (λ x. length x ≤ length mail) (sym same) (replies-le past_steps mail) in
    subst CoreFits (ap (λ i. stats_of_core s traces (run s traces i) core) (sym (add-one n)) ∙ sym (core_stats_next s traces n core view step counts more l e f g h))
    (core_stats-fit s core (trace_of traces core) past_steps then (omega arith) (omega (arith, keeps.issued)) (omega (arith, keeps.issued, keeps.retired)) (omega arith))

-- a channel, one cycle more

cycle_is : (s : Config) (traces : List (List Entry)) (n channel : ℕ)
    → let past_steps = steps_of_channel channel (run s traces n) in
    let mail = inbox s traces (run s traces n) (Channel channel) in
    let view = channel_view s traces (run s traces n) channel in
    let step = channel_step_of s traces (run s traces n) channel in
    channel_cycle_with s view.commands (length (queue_of view.pending (n + 1))) (is_some (lowest_due s view.commands n)) step.draining step.command
    ≡ channel_cycle s channel past_steps mail (choice s channel past_steps mail)
unfolding channel_cycle queue_length has_refresh_due next_command
cycle_is s traces n channel =
    let history = run s traces n in
    let past_steps = steps_of_channel channel history in
    let mail = inbox s traces history (Channel channel) in
    let view = channel_view s traces history channel in
    let o = choice s channel past_steps mail in
    let past = length_run s traces n in
    let len : length past_steps ≡ n = length-steps_of_channel channel history ∙ past in
    ap (λ i. channel_cycle_with s view.commands (length (queue_of view.pending (i + 1))) (is_some (lowest_due s view.commands i)) (drains s channel past_steps mail (length history)) o) (sym len)
    ∙ ap (λ i. channel_cycle_with s view.commands (length (queue_of view.pending (length past_steps + 1))) (is_some (lowest_due s view.commands (length past_steps))) (drains s channel past_steps mail i) o) (past ∙ sym len)
    ∙ ap₂ (λ q x. channel_cycle_with s view.commands (length q) (is_some (lowest_due s (issued_commands channel x) (length past_steps))) (drains s channel past_steps mail (length past_steps)) o)
    (sym (queue_is channel past_steps mail)) (sym (take-length past_steps))

pub channel_stats_next : (s : Config) (traces : List (List Entry)) (n channel : ℕ) (view : ChannelView) (step : ChannelStep) (counts more : ChannelStats)
    → channel < s.channels
    → view ≡ channel_view s traces (run s traces n) channel
    → step ≡ channel_step_of s traces (run s traces n) channel
    → counts ≡ stats_of_channel s traces (run s traces n) channel
    → more ≡ channel_cycle_with s view.commands (length (queue_of view.pending (n + 1))) (is_some (lowest_due s view.commands n)) step.draining step.command
    → channel_joined counts more ≡ stats_of_channel s traces (run s traces (n + 1)) channel
channel_stats_next s traces n channel view step counts more l e f g h =
    let kept = channel_view s traces (run s traces n) channel in
    ap₂ channel_joined g
    (h
    ∙ ap (λ (v : ChannelView). channel_cycle_with s v.commands (length (queue_of v.pending (n + 1))) (is_some (lowest_due s v.commands n)) step.draining step.command) e
    ∙ ap (λ (x : ChannelStep). channel_cycle_with s kept.commands (length (queue_of kept.pending (n + 1))) (is_some (lowest_due s kept.commands n)) x.draining x.command) f
    ∙ cycle_is s traces n channel)
    ∙ sym (stats_of_channel-next s traces n channel l)
    ∙ ap (λ i. stats_of_channel s traces (run s traces i) channel) (sym (add-one n))

pub channel_stats_fit : (s : Config) (traces : List (List Entry)) (n channel : ℕ) (view : ChannelView) (step : ChannelStep) (counts more : ChannelStats)
    → channel < s.channels
    → view ≡ channel_view s traces (run s traces n) channel
    → step ≡ channel_step_of s traces (run s traces n) channel
    → counts ≡ stats_of_channel s traces (run s traces n) channel
    → more ≡ channel_cycle_with s view.commands (length (queue_of view.pending (n + 1))) (is_some (lowest_due s view.commands n)) step.draining step.command
    → n ≤ 10 ^ 12
    → counts.queued_max < 2 ^ 64
    → more.queued_max < 2 ^ 64
    → ChannelFits (channel_joined counts more)
unfolding stats_of_channel channel_stats
channel_stats_fit s traces n channel view step counts more l e f g h early before now =
    let past_steps = steps_of_channel channel (run s traces (n + 1)) in
    let mail = inbox s traces (run s traces (n + 1)) (Channel channel) in
    let len : length past_steps ≡ n + 1 = length-steps_of_channel channel (run s traces (n + 1)) ∙ length_run s traces (n + 1) in
    let joined = channel_stats_next s traces n channel view step counts more l e f g h in
    let most : max counts.queued_max more.queued_max ≡ queued_max channel past_steps mail = ap (λ (c : ChannelStats). c.queued_max) joined in
    subst ChannelFits (sym joined) (channel_stats-fit s channel past_steps mail (omega arith) (omega arith))
