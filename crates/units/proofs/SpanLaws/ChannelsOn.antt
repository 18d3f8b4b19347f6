-- A channel that stands for its part of a run, from span to span.
use Rattle.std.proofs.Common.{◌≡◌, ℕ, ◌-◌, ◌<◌, ◌≤◌, Bool, false, cond, not, ltb, ◌&&◌, List, [], ◌∷◌, ◌++◌, length, Option, Some, None, refl, sym, ap, subst, ◌∙◌, arith}
use Rattle.std.specs.Prelude.{filter, filter_map}
use Rattle.std.specs.Option.{IfSome}
use Rattle.std.specs.List.{AllByRecursion as Each, cons_option}
use Rattle.std.proofs.lemmas.Bool.{cond_both, cond-false}
use Rattle.sim_base.specs.declared.config.Config.{Config}
use Rattle.sim_base.specs.Final.{due_left, queue_left}
use Rattle.sim_base.specs.History.{issued_commands, channel_messages, steps_of_channel, messages_of_channel, inbox}
use Rattle.sim_base.specs.Machine.{run, channel_run}
use Rattle.sim_base.specs.Scheduling.{request_in, is_queued, is_served, queued_requests}
use Rattle.sim_base.specs.declared.command.Command.{Command}
use Rattle.sim_base.specs.declared.message.Message.{Message}
use Rattle.sim_base.specs.declared.message.Request.{Request}
use Rattle.sim_base.specs.declared.message.Unit.TheVariants as unit
use Rattle.sim_base.specs.declared.trace.Entry.{Entry}
use Rattle.sim_base.proofs.Arrived.{arrived}
use Rattle.sim_base.proofs.Each.{Each-filter}
use Rattle.sim_base.proofs.Same.{Stamped}
use Rattle.sim_base.proofs.Spans.{inbox-stamped}
use Rattle.statistics.specs.Channels.{channel_stats}
use Rattle.statistics.specs.Runs.{stats_of_channel, open_rows_left, channel_final, final_of_channel}
use Rattle.statistics.proofs.ChannelCounts.{channel_stats-same}
use Rattle.statistics.proofs.Messages.{arrived-arrived}
use Rattle.laws.specs.Commands.{channel_steps_of}
use Rattle.laws.proofs.Legal.{length-channel_steps_of}
use Rattle.channel_step.specs.Channels.{StandsFor}
use Rattle.channel_step.specs.Fit.{IsFit}
use Rattle.channel_step.specs.Runs.{IsDone}
use Rattle.units.specs.SpanLaws.Channels.{ChannelsStart, ChannelsMayRun, ChannelsGoOn, ChannelsEndAlike}
use Rattle.units.specs.SpanLaws.Mail.{mail_before, mail_in}
use Rattle.units.proofs.SpanLaws.Arrivals.{mail-none, mail-settled, spans-join}
use Rattle.units.proofs.SpanLaws.ChannelSpans.{requests-fit_spans, channels-run_alone}

pub channels-start : (s : Config) (traces : List (List Entry)) → ChannelsStart s traces
unfolding run steps_of_channel
channels-start s traces channel c h = subst (StandsFor c s channel []) (sym (mail-none s traces (unit.Channel channel))) h

-- the messages of a span are fit after what the run knew before it
fit-then : (s : Config) (traces : List (List Entry)) (from until channel : ℕ) → channel < s.channels → from ≤ until
    → IsFit s channel (channel_steps_of s traces from channel) (mail_before s traces from (unit.Channel channel) from) (mail_in s traces until (unit.Channel channel) from until) from until
fit-then s traces from until channel k l =
    subst (λ mail. IsFit s channel (channel_steps_of s traces from channel) mail (mail_in s traces until (unit.Channel channel) from until) from until)
    (mail-settled s traces from until (unit.Channel channel) l) (requests-fit_spans s traces from until channel k l)

pub channels-may_run : (s : Config) (traces : List (List Entry)) (from until : ℕ) → ChannelsMayRun s traces from until
channels-may_run s traces from until channel c k l h =
    record {
      s = s;
      channel = channel;
      steps = channel_steps_of s traces from channel;
      mail = mail_before s traces from (unit.Channel channel) from;
      stands = h;
      at = length-channel_steps_of s traces from channel;
      fit = fit-then s traces from until channel k l;
    }

pub channels-go_on : (s : Config) (traces : List (List Entry)) (from until : ℕ) → ChannelsGoOn s traces from until
unfolding messages_of_channel
channels-go_on s traces from until channel c d commands commands_then messages messages_then k l h gives =
    let old = channel_steps_of s traces from channel in
    let mail = mail_before s traces from (unit.Channel channel) from in
    let new = mail_in s traces until (unit.Channel channel) from until in
    let was : IsDone d s channel old mail new from until commands commands_then messages messages_then = gives s channel old mail h (length-channel_steps_of s traces from channel) (fit-then s traces from until channel k l) in
    let settled : mail_before s traces until (unit.Channel channel) from ≡ mail = mail-settled s traces from until (unit.Channel channel) l in
    let all : mail ++ new ≡ mail_before s traces until (unit.Channel channel) until = ap (λ ms. ms ++ new) (sym settled) ∙ spans-join s traces from until (unit.Channel channel) l in
    let steps : channel_run s channel old (mail ++ new) (until - from) ≡ channel_steps_of s traces until channel =
    ap (λ ms. channel_run s channel old (ms ++ new) (until - from)) (sym settled) ∙ channels-run_alone s traces from until channel k l in
    record {
      issued = was.issued;
      sent = was.sent;
      stands = subst (λ ms. StandsFor d s channel (channel_steps_of s traces until channel) ms) all (subst (λ r. StandsFor d s channel r (mail ++ new)) steps was.stands);
      commands_are = ap (issued_commands channel) (sym steps) ∙ was.commands_are;
      messages_are = ap (channel_messages s channel) (sym steps) ∙ was.messages_are;
      commands_behind = was.commands_behind;
      messages_behind = was.messages_behind;
    }

waiting_in : (p : Request → Bool) (until at : ℕ) → ltb at until ≡ false → (o : Option Request) → IfSome o (λ r. r.arrival ≡ at) → (rs : List Request)
    → filter (λ r. ltb r.arrival until && p r) (cons_option o rs) ≡ filter (λ r. ltb r.arrival until && p r) rs
waiting_in p until at l None e rs = refl
waiting_in p until at l (Some r) e rs = cond-false _ _ _ (ap (λ t. ltb t until && p r) e ∙ ap (λ b. b && p r) l)

waiting_all : (p : Request → Bool) (until : ℕ) (o : Option Request) (rs ts : List Request) → filter (λ r. ltb r.arrival until && p r) rs ≡ filter (λ r. ltb r.arrival until && p r) ts
    → filter (λ r. ltb r.arrival until && p r) (cons_option o rs) ≡ filter (λ r. ltb r.arrival until && p r) (cons_option o ts)
waiting_all p until None rs ts h = h
waiting_all p until (Some r) rs ts h = ap (λ x. cond (ltb r.arrival until && p r) (r ∷ x) x) h

-- what has not arrived does not wait
queued_requests-arrived : (p : Request → Bool) (until : ℕ) (ms : List Message) → Each Stamped ms
    → filter (λ r. ltb r.arrival until && p r) (filter_map (λ m. request_in m.payload) (arrived ms until))
    ≡ filter (λ r. ltb r.arrival until && p r) (filter_map (λ m. request_in m.payload) ms)
queued_requests-arrived p until [] h = refl
queued_requests-arrived p until (m ∷ ms) h =
    cond_both (ltb m.arrival until) (m ∷ arrived ms until) (arrived ms until)
    (λ x. filter (λ r. ltb r.arrival until && p r) (filter_map (λ m. request_in m.payload) x) ≡ filter (λ r. ltb r.arrival until && p r) (filter_map (λ m. request_in m.payload) (m ∷ ms)))
    (λ e. waiting_all p until (request_in m.payload) _ _ (queued_requests-arrived p until ms h.1))
    (λ e. queued_requests-arrived p until ms h.1 ∙ sym (waiting_in p until m.arrival e (request_in m.payload) h.0 (filter_map (λ m. request_in m.payload) ms)))

pub queue-alike : (channel now : ℕ) (steps : List (Option Command)) (ms : List Message) → length steps ≡ now → Each Stamped ms → queue_left channel steps (arrived ms now) ≡ queue_left channel steps ms
unfolding queue_left queued_requests
queue-alike channel now steps ms e h =
    subst (λ u. filter (is_queued (issued_commands channel steps) (length steps)) (filter_map (λ m. request_in m.payload) (arrived ms u)) ≡ filter (is_queued (issued_commands channel steps) (length steps)) (filter_map (λ m. request_in m.payload) ms)) e
    (queued_requests-arrived (λ r. not (is_served (issued_commands channel steps) r)) (length steps) ms h)

stats-alike : (s : Config) (traces : List (List Entry)) (now channel : ℕ)
    → channel_stats s channel (channel_steps_of s traces now channel) (mail_before s traces now (unit.Channel channel) now) ≡ stats_of_channel s traces (run s traces now) channel
unfolding stats_of_channel
stats-alike s traces now channel =
    let steps = channel_steps_of s traces now channel in
    let all = inbox s traces (run s traces now) (unit.Channel channel) in
    let long : length steps ≡ now = length-channel_steps_of s traces now channel in
    let stamped = inbox-stamped s traces (run s traces now) (unit.Channel channel) in
    channel_stats-same s channel steps (arrived all now) all
    (record {
      one = Each-filter Stamped (λ (m : Message). ltb m.arrival now) all stamped;
      other = stamped;
      same = λ u h. arrived-arrived u now (omega arith) all;
    })

last-alike : (s : Config) (traces : List (List Entry)) (now channel : ℕ)
    → channel_final s channel (channel_steps_of s traces now channel) (mail_before s traces now (unit.Channel channel) now) ≡ final_of_channel s traces (run s traces now) channel
unfolding final_of_channel channel_final
last-alike s traces now channel =
    let steps = channel_steps_of s traces now channel in
    let all = inbox s traces (run s traces now) (unit.Channel channel) in
    ap (λ q. record { due = due_left s channel steps; open_rows = open_rows_left s channel steps; queue = q })
    (queue-alike channel now steps all (length-channel_steps_of s traces now channel) (inbox-stamped s traces (run s traces now) (unit.Channel channel)))

pub channels-end_alike : (s : Config) (traces : List (List Entry)) (now : ℕ) → ChannelsEndAlike s traces now
channels-end_alike s traces now channel = (stats-alike s traces now channel, last-alike s traces now channel)
