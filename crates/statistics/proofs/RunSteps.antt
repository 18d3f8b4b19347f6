-- What one cycle more of a run adds to the statistics of its units.
use Rattle.std.proofs.Common.{◌≡◌, ℕ, suc, ◌+◌, ◌<◌, List, [], ◌∷◌, ◌++◌, length, Option, sym, ap, ap₂, subst, ◌∙◌, add-one, arith}
use Rattle.sim_base.proofs.Arrived.{arrived}
use Rattle.sim_base.proofs.Same.{AgreeUpTo}
use Rattle.sim_base.proofs.Spans.{length_run, step_of_core-next, step_of_channel-next, inbox-run, inbox-stamped}
use Rattle.sim_base.specs.declared.config.Config.{Config}
use Rattle.sim_base.specs.History.{trace_of, steps_of_core, steps_of_channel, inbox}
use Rattle.sim_base.specs.Locality.{TravelsFor}
use Rattle.sim_base.specs.Machine.{next_step, run}
use Rattle.sim_base.specs.Scheduling.{choice}
use Rattle.sim_base.specs.Windows.{step}
use Rattle.sim_base.specs.declared.command.Command.{Command}
use Rattle.sim_base.specs.declared.message.Message.{Message}
use Rattle.sim_base.specs.declared.message.Unit.{Unit as MachineUnit}
use Rattle.sim_base.specs.declared.message.Unit.TheVariants.{Core, Channel}
use Rattle.sim_base.specs.declared.trace.Entry.{Entry}
use Rattle.sim_base.proofs.Added.{length-push_suc}
use Rattle.sim_base.proofs.Grows.{has_channels}
use Rattle.statistics.specs.Channels.{channel_stats, channel_cycle, channel_joined}
use Rattle.statistics.specs.Cores.{core_stats, core_cycle, core_joined, RepliesFollowReads}
use Rattle.statistics.specs.Runs.{stats_of_core, stats_of_channel}
use Rattle.statistics.proofs.ChannelChoices.{choice-not_late}
use Rattle.statistics.proofs.ChannelCounts.{channel_stats-same, channel_stats-push}
use Rattle.statistics.proofs.CoreCounts.{core_stats-same, core_cycle-same, core_stats-push}
use Rattle.statistics.proofs.Messages.{arrived-sooner}
use Rattle.statistics.proofs.Replies.{latency_positive, length-steps_of_core, length-steps_of_channel, steps_of_core-push, steps_of_channel-push, RepliesFollowReads-run}

-- one cycle more of one channel, run alone
pub channel_stats-choice : (s : Config) (channel : ℕ) (steps : List (Option Command)) (inbox : List Message)
    → channel_stats s channel (steps ++ choice s channel steps inbox ∷ []) inbox
    ≡ channel_joined (channel_stats s channel steps inbox) (channel_cycle s channel steps inbox (choice s channel steps inbox))
channel_stats-choice s channel steps inbox = channel_stats-push s channel steps (choice s channel steps inbox) inbox (choice-not_late s channel steps inbox)

pub travels : (s : Config) → TravelsFor s 1
travels s = λ link l. latency_positive s link

-- what was sent in the next cycle does not arrive in it
pub inbox-next : (s : Config) (traces : List (List Entry)) (n : ℕ) (unit : MachineUnit)
    → arrived (inbox s traces (run s traces (suc n)) unit) (n + 1) ≡ arrived (inbox s traces (run s traces n) unit) (n + 1)
inbox-next s traces n unit =
    ap (λ i. arrived (inbox s traces (run s traces i) unit) (n + 1)) (sym (add-one n))
    ∙ inbox-run s traces n 1 unit (n + 1) (has_channels s) (travels s) (omega arith) 1

pub steps_of_core-next : (s : Config) (traces : List (List Entry)) (n core : ℕ) → core < s.cores
    → steps_of_core core (run s traces (suc n))
    ≡ steps_of_core core (run s traces n) ++ (step s core (trace_of traces core) (steps_of_core core (run s traces n)) (inbox s traces (run s traces n) (Core core))).0 ∷ []
unfolding run
steps_of_core-next s traces n core l =
    let history = run s traces n in
    steps_of_core-push core history (next_step s traces history)
    ∙ ap (λ row. steps_of_core core history ++ row ∷ []) (step_of_core-next s traces history core l)

pub steps_of_channel-next : (s : Config) (traces : List (List Entry)) (n channel : ℕ) → channel < s.channels
    → steps_of_channel channel (run s traces (suc n))
    ≡ steps_of_channel channel (run s traces n) ++ choice s channel (steps_of_channel channel (run s traces n)) (inbox s traces (run s traces n) (Channel channel)) ∷ []
unfolding run
steps_of_channel-next s traces n channel l =
    let history = run s traces n in
    steps_of_channel-push channel history (next_step s traces history)
    ∙ ap (λ o. steps_of_channel channel history ++ o ∷ []) (step_of_channel-next s traces history channel l)

-- the statistics of a core of the machine with one cycle more
pub stats_of_core-next : (s : Config) (traces : List (List Entry)) (n core : ℕ) → core < s.cores
    → let trace = trace_of traces core in
    let steps = steps_of_core core (run s traces n) in
    let mail = inbox s traces (run s traces n) (Core core) in
    stats_of_core s traces (run s traces (suc n)) core
    ≡ core_joined (stats_of_core s traces (run s traces n) core) (core_cycle s core trace steps mail (step s core trace steps mail).0)
unfolding stats_of_core
stats_of_core-next s traces n core l =
    let trace = trace_of traces core in
    let steps = steps_of_core core (run s traces n) in
    let mail = inbox s traces (run s traces n) (Core core) in
    let then = inbox s traces (run s traces (suc n)) (Core core) in
    let row = (step s core trace steps mail).0 in
    let len : length steps ≡ n = length-steps_of_core core (run s traces n) ∙ length_run s traces n in
    let same : arrived then (length steps + 1) ≡ arrived mail (length steps + 1) = subst (λ i. arrived then (i + 1) ≡ arrived mail (i + 1)) (sym len) (inbox-next s traces n (Core core)) in
    let follow : RepliesFollowReads (steps ++ row ∷ []) then =
    subst (λ x. RepliesFollowReads x then) (steps_of_core-next s traces n core l) (RepliesFollowReads-run s traces (suc n) core) in
    ap (λ x. core_stats s core trace x then) (steps_of_core-next s traces n core l)
    ∙ core_stats-push s core trace steps row then follow
    ∙ ap₂ core_joined
    (core_stats-same s core trace steps then mail (arrived-sooner (length steps) (length steps + 1) (omega arith) then mail same))
    (core_cycle-same s core trace steps then mail same row)

-- the statistics of a channel of the machine with one cycle more
pub stats_of_channel-next : (s : Config) (traces : List (List Entry)) (n channel : ℕ) → channel < s.channels
    → let steps = steps_of_channel channel (run s traces n) in
    let mail = inbox s traces (run s traces n) (Channel channel) in
    stats_of_channel s traces (run s traces (suc n)) channel
    ≡ channel_joined (stats_of_channel s traces (run s traces n) channel) (channel_cycle s channel steps mail (choice s channel steps mail))
unfolding stats_of_channel
stats_of_channel-next s traces n channel l =
    let steps = steps_of_channel channel (run s traces n) in
    let mail = inbox s traces (run s traces n) (Channel channel) in
    let then = inbox s traces (run s traces (suc n)) (Channel channel) in
    let len : length steps ≡ n = length-steps_of_channel channel (run s traces n) ∙ length_run s traces n in
    let more : length (steps ++ choice s channel steps mail ∷ []) ≡ suc (length steps) = length-push_suc steps (choice s channel steps mail) in
    let same : arrived then (n + 1) ≡ arrived mail (n + 1) = inbox-next s traces n (Channel channel) in
    let agree : AgreeUpTo (length (steps ++ choice s channel steps mail ∷ [])) then mail =
    record {
      one = inbox-stamped s traces (run s traces (suc n)) (Channel channel);
      other = inbox-stamped s traces (run s traces n) (Channel channel);
      same = λ u b. arrived-sooner u (n + 1) (omega arith) then mail same;
    } in
    ap (λ x. channel_stats s channel x then) (steps_of_channel-next s traces n channel l)
    ∙ channel_stats-same s channel (steps ++ choice s channel steps mail ∷ []) then mail agree
    ∙ channel_stats-choice s channel steps mail
