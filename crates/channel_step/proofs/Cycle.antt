-- One cycle of a channel: first the requests that arrive join the queue, and then a command is issued or none.
use Rattle.std.proofs.Common.{◌≡◌, ℕ, ◌+◌, ◌<◌, ◌≤◌, Bool, true, false, cond, List, [], ◌∷◌, ◌++◌, length, map, Option, sym, ap, ap₂, subst, ◌∙◌, arith}
use Rattle.std.specs.Prelude.{count_by, is_some, filter}
use Rattle.std.specs.List.{AllByRecursion as Each}
use Rattle.std.proofs.Math.Seq.{take-length}
use Rattle.std.proofs.lemmas.List.{map-append}
use Rattle.sim_base.proofs.Arrived.{NotBefore}
use Rattle.sim_base.proofs.Each.{Each-append, Each-filter}
use Rattle.sim_base.proofs.Ordered.{Each-weaker}
use Rattle.sim_base.proofs.Same.{drains-same}
use Rattle.sim_base.specs.declared.config.Config.{Config}
use Rattle.sim_base.specs.Access.{is_access}
use Rattle.sim_base.specs.Counts.{has_refresh_due, queue_length}
use Rattle.sim_base.specs.History.{issued_commands}
use Rattle.sim_base.specs.Scheduling.{queued_requests, is_queued, drains_with, drains, lowest_due, candidates, choice_between}
use Rattle.sim_base.specs.declared.command.Command.{Command}
use Rattle.sim_base.specs.declared.message.Access.TheVariants as access
use Rattle.sim_base.specs.declared.message.Message.{Message}
use Rattle.sim_base.specs.declared.message.Request.{Request}
use Rattle.statistics.specs.Channels.{channel_cycle_with, channel_cycle}
use Rattle.statistics.specs.declared.channels.ChannelStats.{ChannelStats}
use Rattle.statistics.proofs.ChannelCounts.{AgreeUpTo-later, channel_stats-later}
use Rattle.channel_step.specs.Past.{carried_requests, CarriesRequest, IsOther, Differ, has_act, Past, commands_after, choice_after, with_mail}
use Rattle.channel_step.specs.Fit.{NoneIssuedFor}
use Rattle.channel_step.specs.Stands.{Recalls, HasArrivals}
use Rattle.channel_step.proofs.Requests.{ArrivedBefore, requests-arrived, carries-stamped, queued_requests-arrivals}
use Rattle.channel_step.proofs.Spans.{queue-next, drains-next, choice-next}
use Rattle.channel_step.proofs.Marks.{none_issued-marks}

-- the requests that arrive in the cycle after these steps, and that no command has named
pub record Arrives (past : Past) (new : List Message) : Type 0 where
  pub requests : Each (CarriesRequest past.config past.channel) new
  pub now : Each (λ (m : Message). m.arrival ≡ length past.steps) new
  pub differ : Differ (carried_requests (past.mail ++ new))
  pub none_issued : Each (NoneIssuedFor (commands_after past)) (carried_requests new)

not_before : (now : ℕ) (new : List Message) → Each (λ (m : Message). m.arrival ≡ now) new → NotBefore now new
not_before now new h = Each-weaker (λ (m : Message). m.arrival ≡ now) (λ (m : Message). now ≤ m.arrival) (λ m e. omega arith) new h

-- when the requests of a cycle have joined
pub joined : (queue : List Request) (drained : Bool) (marks : List Bool) (stats : ChannelStats) (past : Past) (new : List Message)
    → Recalls queue drained marks stats past → Arrives past new
    → HasArrivals (queue ++ carried_requests new) (drains_with past.config drained (count_by (λ r. is_access access.Write r.access) (queue ++ carried_requests new))) (marks ++ map (λ r. false) (carried_requests new)) stats
    (with_mail past new)
joined queue drained marks stats past new h a =
    let now = length past.steps in
    let history = commands_after past in
    let before : Each (ArrivedBefore now) (carried_requests past.mail) = requests-arrived past.config past.channel now past.mail h.past.requests h.past.arrived in
    let soon : Each (λ (m : Message). m.arrival < now + 1) new = Each-weaker (λ (m : Message). m.arrival ≡ now) (λ (m : Message). m.arrival < now + 1) (λ m e. omega arith) new a.now in
    let stamped = carries-stamped past.config past.channel past.mail h.past.requests in
    let later = carries-stamped past.config past.channel new a.requests in
    let same : queue ++ carried_requests new ≡ queued_requests history (past.mail ++ new) (now + 1) =
    ap (λ q. q ++ carried_requests new) h.queue_is
    ∙ sym (queued_requests-arrivals history past.mail new now before (requests-arrived past.config past.channel (now + 1) new a.requests soon) a.none_issued) in
    record {
      requests = Each-append (CarriesRequest past.config past.channel) past.mail new h.past.requests a.requests;
      arrived = Each-append (λ (m : Message). m.arrival < now + 1) past.mail new (Each-weaker (λ (m : Message). m.arrival < now) (λ (m : Message). m.arrival < now + 1) (λ m l. omega arith) past.mail h.past.arrived) soon;
      differ = a.differ;
      queue_is = same;
      drained_is =
          ap₂ (λ d q. drains_with past.config d (count_by (λ r. is_access access.Write r.access) q))
          (h.drained_is ∙ sym (drains-same past.config past.channel past.steps (past.mail ++ new) past.mail now (AgreeUpTo-later now past.mail new stamped later (not_before now new a.now)))) same
          ∙ sym (drains-next past.config past.channel past.steps (past.mail ++ new));
      activated_are =
          ap₂ (λ x y. x ++ y) h.activated_are (sym (none_issued-marks history (carried_requests new) a.none_issued))
          ∙ sym (map-append (has_act history) queue (carried_requests new));
      stats_are = h.stats_are ∙ sym (channel_stats-later past.config past.channel past.steps past.mail new stamped later (not_before now new a.now));
    }

-- what the channel then chooses
pub joined-choice : (queue : List Request) (drained : Bool) (marks : List Bool) (stats : ChannelStats) (past : Past)
    → HasArrivals queue drained marks stats past
    → choice_after past
    ≡ choice_between past.config (commands_after past) (length past.steps) (candidates past.config drained queue) (lowest_due past.config (commands_after past) (length past.steps))
joined-choice queue drained marks stats past h = choice-next past.config past.channel past.steps past.mail queue drained (sym h.queue_is) (sym h.drained_is)

-- whether a refresh is due in the cycle after these steps
pub has_due-next : (s : Config) (channel : ℕ) (steps : List (Option Command)) → has_refresh_due s channel steps (length steps) ≡ is_some (lowest_due s (issued_commands channel steps) (length steps))
unfolding has_refresh_due
has_due-next s channel steps = ap (λ x. is_some (lowest_due s (issued_commands channel x) (length steps))) (take-length steps)

-- what the next cycle counts
pub cycle-with : (s : Config) (channel : ℕ) (steps : List (Option Command)) (mail : List Message) (o : Option Command)
    → channel_cycle s channel steps mail o
    ≡ channel_cycle_with s (issued_commands channel steps) (length (queued_requests (issued_commands channel steps) mail (length steps + 1)))
    (is_some (lowest_due s (issued_commands channel steps) (length steps))) (drains s channel steps mail (length steps)) o
unfolding channel_cycle queue_length
cycle-with s channel steps mail o =
    ap₂ (λ q d. channel_cycle_with s (issued_commands channel steps) q d (drains s channel steps mail (length steps)) o)
    (ap length (queue-next channel steps mail)) (has_due-next s channel steps)

pub Differ-filter : (p : Request → Bool) (rs : List Request) → Differ rs → Differ (filter p rs)
Differ-filter p [] d = tt
Differ-filter p (r ∷ rs) d = by (p r) (Differ-filter p rs d.1)
  where
    by : (b : Bool) → Differ (filter p rs) → Differ (cond b (r ∷ filter p rs) (filter p rs))
    by true rest = (Each-filter (IsOther r) p rs d.0, rest)
    by false rest = rest

-- the requests that wait are of different entries
pub joined-differ : (queue : List Request) (drained : Bool) (marks : List Bool) (stats : ChannelStats) (past : Past)
    → HasArrivals queue drained marks stats past → Differ queue
unfolding queued_requests
joined-differ queue drained marks stats past h =
    subst Differ (sym h.queue_is) (Differ-filter (is_queued (commands_after past) (length past.steps + 1)) (carried_requests past.mail) h.differ)
