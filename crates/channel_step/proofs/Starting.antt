-- A channel before its first cycle, and a channel between two cycles.
use Rattle.std.proofs.Common.{◌≡◌, ℕ, ◌+◌, ◌-◌, ◌*◌, ◌≤◌, Bool, false, [], ◌++◌, length, Option, Some, None, refl, sym, ap, ap₂, subst, ◌∙◌, arith}
use Rattle.std.specs.Prelude.{is_some, replicate, Vec}
use Rattle.std.specs.declared.alloc.Global.{Global}
use Rattle.std.specs.List.{All, AllByRecursion as Each}
use Rattle.sim_base.proofs.Ordered.{Each-weaker}
use Rattle.sim_base.specs.declared.config.Config.{Config}
use Rattle.sim_base.specs.History.{issued_commands}
use Rattle.sim_base.specs.Scheduling.{queued_requests, drains_with, drains_before, drains, candidates, choice_between, choice, lowest_due, queue_room}
use Rattle.bank_ready.specs.Stands.{rank_count, StandsFor as BanksStandFor}
use Rattle.bank_ready.specs.Refreshes.{StandsFor as RefreshesStandFor}
use Rattle.statistics.specs.declared.channels.ChannelStats.{ChannelStats}
use Rattle.channel_step.specs.Latencies.{answer_latencies}
use Rattle.channel_step.specs.Queued.{activated_in}
use Rattle.statistics.specs.Channels.{channel_none, draining_of}
use Rattle.statistics.proofs.ChannelCounts.{channel_stats-none}
use Rattle.sim_base.specs.Rules.{open_row}
use Rattle.queue.specs.Stands.{bank_count, StandsFor as CandidatesStandFor}
use Rattle.std.proofs.lemmas.List.Elements.{All-from_recursion}
use Rattle.queue.specs.Log.{waiting, waiting_requests, all_requests}
use Rattle.queue.specs.Columns.{write_count}
use Rattle.queue.specs.View.{QueueView, places_for, is_draining, drains_by}
use Rattle.channel_step.specs.FrFcfs.Requests.{IsInBanks}
use Rattle.channel_step.specs.FrFcfs.Choices.{choice_in}
use Rattle.channel_step.specs.FrFcfs.Cycles.{IsFirstCycle}
use Rattle.channel_step.specs.Past.{carried_requests, past_of, Past, commands_after}
use Rattle.channel_step.specs.Stands.{Recalls}
use Rattle.channel_step.specs.Channels.{IsForeseen, KeepsServed, StandsFor, HasPast, PartsStand}
use Rattle.channel_step.specs.Runs.{StandsAt}
use Rattle.channel_step.specs.declared.next_command.NextCommand.TheVariants.{Unknown}
use Rattle.channel_step.specs.declared.channel.Channel.{Channel}
use Rattle.channel_step.proofs.Requests.{ArrivedBefore, requests-arrived, queued_requests-until}
use Rattle.channel_step.proofs.Spans.{drains-next}
use Rattle.channel_step.proofs.Stretches.{idle-choice}
use Rattle.channel_step.proofs.Deciding.{made-in_banks, parts-stand}
use Rattle.channel_step.proofs.Foreseen.{foreseen-unknown}
use Rattle.channel_step.proofs.Serving.{kept-none}
use Rattle.request_table.specs.declared.served_requests.ServedRequest.{ServedRequest}

-- what a channel keeps of its past before its first cycle
pub recalls-none : (s : Config) (channel : ℕ) → Recalls [] false [] (record channel_none { draining = draining_of s 0 }) (past_of s channel [] [])
unfolding queued_requests issued_commands drains_before
recalls-none s channel = record {
  past = record { requests = tt; arrived = tt; differ = tt };
  queue_is = refl;
  drained_is = refl;
  activated_are = refl;
  stats_are = sym (channel_stats-none s channel []);
}

pub at-in_banks : (c : Channel) (from : ℕ) → StandsAt c from → All (IsInBanks (rank_count c.banks)) (all_requests c.queue.log)
at-in_banks c from h = made-in_banks c h.s h.channel (rank_count c.banks) h.stands.made_for h.stands.banks_stand.ranks

pub at-stand : (c : Channel) (past : Past) → HasPast c past → PartsStand c past.config (commands_after past)
at-stand c past h = parts-stand c past.config past.channel (commands_after past) h.made_for h.banks_stand h.candidates_stand h.refreshes_stand

-- whether the channel would drain its writes in the next cycle
pub at-drains : (c : Channel) (past : Past) → HasPast c past
    → is_draining c.queue ≡ drains past.config past.channel past.steps past.mail (length past.steps)
at-drains c past h =
    let r = h.recalls in
    let before : Each (ArrivedBefore (length past.steps)) (carried_requests past.mail) = requests-arrived past.config past.channel (length past.steps) past.mail r.past.requests r.past.arrived in
    ap₂ (λ high low. drains_by high low c.queue.drain_decided (write_count (waiting_requests c.queue.log))) h.made_for.high_is h.made_for.low_is
    ∙ ap₂ (λ d q. drains_with past.config d (write_count q)) r.drained_is
    (r.queue_is ∙ sym (queued_requests-until (commands_after past) past.mail (length past.steps) (length past.steps + 1) (omega arith) before))
    ∙ sym (drains-next past.config past.channel past.steps past.mail)

-- what would be chosen in a later cycle, if nothing is issued and nothing arrives before it
at-choice : (c : Channel) (past : Past) (from cycle : ℕ) → HasPast c past → length past.steps ≡ from → from ≤ cycle
    → choice_in past.config (commands_after past) c.queue cycle ≡ choice past.config past.channel (past.steps ++ replicate (cycle - from) None) past.mail
at-choice c past from cycle h at l =
    let r = h.recalls in
    let history = commands_after past in
    let before : Each (ArrivedBefore (length past.steps)) (carried_requests past.mail) = requests-arrived past.config past.channel (length past.steps) past.mail r.past.requests r.past.arrived in
    let soon : Each (ArrivedBefore (length past.steps + 1)) (carried_requests past.mail) =
    Each-weaker (ArrivedBefore (length past.steps)) (ArrivedBefore (length past.steps + 1)) (λ r l. omega arith) (carried_requests past.mail) before in
    let there : waiting_requests c.queue.log ≡ queued_requests history past.mail (length past.steps + 1) = r.queue_is ∙ sym (queued_requests-until history past.mail (length past.steps) (length past.steps + 1) (omega arith) before) in
    let then : cycle ≡ length past.steps + (cycle - from) = omega arith in
    ap (λ t. choice_between past.config history t (candidates past.config (is_draining c.queue) (waiting_requests c.queue.log)) (lowest_due past.config history t)) then
    ∙ ap₂ (λ d q. choice_between past.config history (length past.steps + (cycle - from)) (candidates past.config d q) (lowest_due past.config history (length past.steps + (cycle - from)))) (at-drains c past h) there
    ∙ sym (idle-choice past.config past.channel past.steps past.mail soon (cycle - from))

first-agree : (p q : ℕ → Bool) (now : ℕ) → ((cycle : ℕ) → now ≤ cycle → p cycle ≡ q cycle) → (o : Option ℕ) → IsFirstCycle p now o → IsFirstCycle q now o
first-agree p q now same None h = λ cycle l. sym (same cycle l) ∙ h cycle l
first-agree p q now same (Some first) h =
    record {
      from_now = h.from_now;
      holds_then = sym (same first h.from_now) ∙ h.holds_then;
      not_before = λ cycle l e. sym (same cycle l) ∙ h.not_before cycle l e;
    }

pub at-first : (c : Channel) (past : Past) (from : ℕ) (o : Option ℕ) → HasPast c past → length past.steps ≡ from
    → IsFirstCycle (λ cycle. is_some (choice_in past.config (commands_after past) c.queue cycle)) from o
    → IsFirstCycle (λ cycle. is_some (choice past.config past.channel (past.steps ++ replicate (cycle - from) None) past.mail)) from o
at-first c past from o h at f =
    first-agree _ _ from (λ cycle l. ap is_some (at-choice c past from cycle h at l)) o f

pub start-stands : (c : Channel) (s : Config) (number : ℕ) → c.config ≡ s → c.number ≡ number → c.latencies.items ≡ answer_latencies s number → c.cycle ≡ 0
    → c.queue ≡ record { room = queue_room s; places = places_for (queue_room s); high = s.write_high; low = s.write_low; log = []; drain_decided = false }
    → BanksStandFor c.banks s [] → RefreshesStandFor c.refresh s [] → c.stats ≡ record channel_none { draining = draining_of s 0 } → bank_count c.bank_candidates ≡ 16 * s.ranks
    → CandidatesStandFor c.bank_candidates [] (λ bank. None) → c.next_command ≡ Unknown → c.served ≡ None → StandsFor c s number [] []
unfolding issued_commands open_row waiting
start-stands c s number config is latencies cycle queue_is banks refresh stats count bank_candidates next_command served =
    let R : QueueView → ChannelStats → Type 0 = λ q t. Recalls (waiting_requests q.log) q.drain_decided (activated_in q.log) t (past_of s number [] []) in
    let empty : QueueView = record { room = queue_room s; places = places_for (queue_room s); high = s.write_high; low = s.write_low; log = []; drain_decided = false } in
    let base : R empty (record channel_none { draining = draining_of s 0 }) = recalls-none s number in
    let none : length (waiting_requests c.queue.log) ≡ 0 = ap (λ (q : QueueView). length (waiting_requests q.log)) queue_is in
    let zero_yet : c.stats.queued_max ≡ 0 = ap (λ (t : ChannelStats). t.queued_max) stats in
    record {
      made_for = record {
        config_is = config;
        number_is = is;
        high_is = ap (λ (q : QueueView). q.high) queue_is;
        low_is = ap (λ (q : QueueView). q.low) queue_is;
        latencies_are = latencies;
        room_is = ap (λ (q : QueueView). q.room) queue_is;
        banks_are = count;
        in_banks = subst (λ (q : QueueView). All (IsInBanks s.ranks) (all_requests q.log)) (sym queue_is) (All-from_recursion (IsInBanks s.ranks) [] tt);
        within = omega arith;
        longest = omega arith;
      };
      cycle_is = cycle;
      recalls = subst (λ q. R q c.stats) (sym queue_is) (subst (R empty) (sym stats) base);
      candidates_stand = subst (λ (q : QueueView). CandidatesStandFor c.bank_candidates q.log (λ bank. None)) (sym queue_is) bank_candidates;
      banks_stand = banks;
      refreshes_stand = refresh;
      foresees = subst (IsForeseen s [] c.queue c.cycle) (sym next_command) (foreseen-unknown s [] c.queue c.cycle);
      keeps_served = subst (λ kept. KeepsServed kept [] []) (sym served) tt;
    }

-- a channel that keeps what it serves, before it has served anything
pub keeping-stands : (c : Channel) (s : Config) (number : ℕ) (rows : Vec ServedRequest Global) → rows.items ≡ [] → StandsFor c s number [] [] → StandsFor (record c { served = Some rows }) s number [] []
unfolding issued_commands
keeping-stands c s number rows none h =
    record {
      made_for = record {
        config_is = h.made_for.config_is;
        number_is = h.made_for.number_is;
        high_is = h.made_for.high_is;
        low_is = h.made_for.low_is;
        latencies_are = h.made_for.latencies_are;
        room_is = h.made_for.room_is;
        banks_are = h.made_for.banks_are;
        in_banks = h.made_for.in_banks;
        within = h.made_for.within;
        longest = h.made_for.longest;
      };
      cycle_is = h.cycle_is;
      recalls = h.recalls;
      candidates_stand = h.candidates_stand;
      banks_stand = h.banks_stand;
      refreshes_stand = h.refreshes_stand;
      foresees = h.foresees;
      keeps_served = kept-none (Some rows) [] (λ other e. let same : rows ≡ other = cc in subst (λ (v : Vec ServedRequest Global). v.items ≡ []) same none);
    }
