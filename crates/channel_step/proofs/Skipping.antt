-- A channel that skips cycles in which nothing arrives and nothing is issued.
use Rattle.std.proofs.Common.{◌≡◌, ℕ, zero, suc, ◌+◌, ◌-◌, ◌<◌, ◌≤◌, ◌^◌, Bool, true, false, cond, List, [], ◌∷◌, ◌++◌, length, Option, None, refl, sym, ap, ap₂, subst, ◌∙◌, add-zero, append_assoc, eqb, arith}
use Rattle.std.specs.Prelude.{replicate, is_some, nat_le, max}
use Rattle.std.specs.List.{AllByRecursion as Each}
use Rattle.std.proofs.lemmas.Bool.{lt-leb, le-leb}
use Rattle.std.proofs.lemmas.List.{append-nil, replicate-append-replicate}
use Rattle.sim_base.proofs.Ordered.{Each-weaker}
use Rattle.sim_base.specs.declared.config.Config.{Config}
use Rattle.sim_base.specs.Counts.{queued_max}
use Rattle.sim_base.specs.History.{issued_commands}
use Rattle.sim_base.specs.Scheduling.{queued_requests, drains_before, drains, lowest_due, queue_room}
use Rattle.sim_base.specs.declared.command.Command.{Command}
use Rattle.sim_base.specs.declared.message.Message.{Message}
use Rattle.statistics.specs.Channels.{channel_stats, channel_cycle, channel_cycle_with, channel_joined, channel_times, ChannelFits}
use Rattle.statistics.specs.declared.channels.ChannelStats.{ChannelStats}
use Rattle.statistics.proofs.ChannelCounts.{channel_stats-push, channel_stats-fit}
use Rattle.statistics.proofs.ChannelStretches.{channel_joined-assoc, channel_joined-none}
use Rattle.bank_ready.specs.Stands.{StandsFor as BanksStandFor}
use Rattle.bank_ready.specs.Refreshes.{RefreshCounts, lowest_owed, StandsFor as RefreshesStandFor}
use Rattle.bank_ready.proofs.Due.{lowest_due_from_owed, none_owed_before}
use Rattle.channel_step.specs.Past.{carried_requests, past_of, Past, commands_after}
use Rattle.channel_step.specs.Stands.{activated_of}
use Rattle.channel_step.specs.Counted.{cycle_with_hit}
use Rattle.channel_step.specs.Queued.{drain_decided}
use Rattle.queue.specs.Log.{waiting_requests}
use Rattle.channel_step.specs.Channels.{CandidatesStand, IsForeseen, KeepsServed, StandsFor, IsInCycle, skipped, counted_through, HasPast, idle_after}
use Rattle.channel_step.specs.Readied.{HasCounted}
use Rattle.channel_step.specs.declared.channel.Channel.{Channel}
use Rattle.channel_step.proofs.Requests.{ArrivedBefore, requests-arrived, queued_requests-until}
use Rattle.channel_step.proofs.Spans.{drains_before-row}
use Rattle.channel_step.proofs.Stretches.{idle-push, length-idle, idle-issued, idle-queued_requests, idle-drains, idle-cycle}
use Rattle.channel_step.proofs.Cycle.{cycle-with}
use Rattle.channel_step.proofs.Repeats.{channel_stretch, channel_stretch-replicate}
use Rattle.channel_step.proofs.Foreseen.{foreseen-later, foreseen-drain_decided}
use Rattle.channel_step.proofs.Deciding.{drain_decided-drains}
use Rattle.channel_step.proofs.Starting.{at-drains}

-- the next cycle, when it is decided whether the channel drains its writes in it
pub drain_decided-in_cycle : (c : Channel) (past : Past) → HasPast c past
    → IsInCycle (record c { queue = drain_decided c.queue }) past
drain_decided-in_cycle c past h =
    let r = h.recalls in
    let before : Each (ArrivedBefore (length past.steps)) (carried_requests past.mail) = requests-arrived past.config past.channel (length past.steps) past.mail r.past.requests r.past.arrived in
    record {
      made_for = record {
        config_is = h.made_for.config_is;
        number_is = h.made_for.number_is;
        high_is = h.made_for.high_is;
        low_is = h.made_for.low_is;
        latencies_are = h.made_for.latencies_are;
        room_is = h.made_for.room_is;
        banks_are = h.made_for.banks_are;
        in_banks = h.made_for.in_banks;
        within = h.made_for.within;
        longest = h.made_for.longest;
      };
      cycle_is = h.cycle_is;
      joined = record {
        requests = r.past.requests;
        arrived = Each-weaker (λ (m : Message). m.arrival < length past.steps) (λ (m : Message). m.arrival < length past.steps + 1) (λ m l. omega arith) past.mail r.past.arrived;
        differ = r.past.differ;
        queue_is = r.queue_is ∙ sym (queued_requests-until (commands_after past) past.mail (length past.steps) (length past.steps + 1) (omega arith) before);
        drained_is = at-drains c past h;
        activated_are = r.activated_are;
        stats_are = r.stats_are;
      };
      candidates_stand = h.candidates_stand;
      banks_stand = h.banks_stand;
      refreshes_stand = h.refreshes_stand;
      foresees = foreseen-drain_decided past.config (commands_after past) c.queue c.cycle c.next_command h.foresees;
      keeps_served = h.keeps_served;
    }

-- a channel is in its next cycle, if it is equal to one that was between two cycles and has decided whether it drains
-- its writes
pub settled_stands : (c d : Channel) (past : Past)
    → d ≡ record c { queue = drain_decided c.queue } → HasPast c past → IsInCycle d past
settled_stands c d past e h = subst (λ x. IsInCycle x past) (sym e) (drain_decided-in_cycle c past h)

-- the statistics of steps and of idle cycles after them
idle-stretch : (s : Config) (channel : ℕ) (mail : List Message) (n : ℕ) (steps : List (Option Command))
    → channel_stats s channel (steps ++ replicate n None) mail ≡ channel_joined (channel_stats s channel steps mail) (channel_stretch s channel steps mail (replicate n None))
idle-stretch s channel mail zero steps = ap (λ x. channel_stats s channel x mail) (append-nil steps) ∙ sym (channel_joined-none (channel_stats s channel steps mail))
idle-stretch s channel mail (suc n) steps =
    let next = steps ++ None ∷ [] in
    ap (λ x. channel_stats s channel x mail) (sym (append_assoc steps (None ∷ []) (replicate n None)))
    ∙ idle-stretch s channel mail n next
    ∙ ap (λ x. channel_joined x (channel_stretch s channel next mail (replicate n None))) (channel_stats-push s channel steps None mail refl)
    ∙ channel_joined-assoc (channel_stats s channel steps mail) (channel_cycle s channel steps mail None) (channel_stretch s channel next mail (replicate n None))

-- a refresh is due in each of the next n cycles, or in none
abbrev pub IsDueThroughout : Config → ℕ → List (Option Command) → ℕ → Bool → Type 0
IsDueThroughout s channel steps n due = (k : ℕ) → k < n → is_some (lowest_due s (issued_commands channel steps) (length steps + k)) ≡ due

-- what each of them counts
idle-counts : (s : Config) (channel : ℕ) (steps : List (Option Command)) (mail : List Message) (n : ℕ) (due : Bool) → Each (ArrivedBefore (length steps + 1)) (carried_requests mail)
    → IsDueThroughout s channel steps n due → (k : ℕ) → k < n
    → channel_cycle s channel (steps ++ replicate k None) mail None
    ≡ cycle_with_hit s (length (queued_requests (issued_commands channel steps) mail (length steps + 1))) due (drains s channel steps mail (length steps)) None false
unfolding channel_cycle_with
idle-counts s channel steps mail n due h alike k l =
    let history = issued_commands channel steps in
    let first : is_some (lowest_due s history (length steps)) ≡ due = ap (λ t. is_some (lowest_due s history t)) (sym (add-zero (length steps))) ∙ alike 0 (omega arith) in
    idle-cycle s channel steps mail h n k l (λ j m. alike j m ∙ sym first)
    ∙ cycle-with s channel steps mail None
    ∙ ap (λ b. cycle_with_hit s (length (queued_requests history mail (length steps + 1))) b (drains s channel steps mail (length steps)) None false) first

-- the statistics after them
pub idle-stats : (s : Config) (channel : ℕ) (steps : List (Option Command)) (mail : List Message) (n : ℕ) (due : Bool) → Each (ArrivedBefore (length steps + 1)) (carried_requests mail)
    → IsDueThroughout s channel steps n due
    → channel_stats s channel (steps ++ replicate n None) mail
    ≡ channel_joined (channel_stats s channel steps mail)
    (channel_times n (cycle_with_hit s (length (queued_requests (issued_commands channel steps) mail (length steps + 1))) due (drains s channel steps mail (length steps)) None false))
idle-stats s channel steps mail n due h alike =
    idle-stretch s channel mail n steps
    ∙ ap (channel_joined (channel_stats s channel steps mail)) (channel_stretch-replicate s channel mail None _ n steps (idle-counts s channel steps mail n due h alike))

-- what a channel counts in them
abbrev pub skipped_by : Channel → Config → ℕ → Bool → ChannelStats
skipped_by c s n due = channel_joined c.stats (channel_times n (cycle_with_hit s (length (waiting_requests c.queue.log)) due c.queue.drain_decided None false))

skipped-stats : (c : Channel) (past : Past) (n : ℕ) (due : Bool) → IsInCycle c past
    → Each (ArrivedBefore (length past.steps + 1)) (carried_requests past.mail) → IsDueThroughout past.config past.channel past.steps n due → skipped_by c past.config n due ≡ channel_stats past.config past.channel (past.steps ++ replicate n None) past.mail
skipped-stats c past n due h before alike =
    let j = h.joined in
    ap₂ (λ q d. channel_joined c.stats (channel_times n (cycle_with_hit past.config (length q) due d None false))) j.queue_is j.drained_is
    ∙ ap (λ x. channel_joined x (channel_times n (cycle_with_hit past.config (length (queued_requests (commands_after past) past.mail (length past.steps + 1))) due (drains past.config past.channel past.steps past.mail (length past.steps)) None false))) j.stats_are
    ∙ sym (idle-stats past.config past.channel past.steps past.mail n due before alike)

times-longest : (a b m n : ℕ) (none : Bool) → a ≤ m → b ≤ m → max a (cond none 0 b) ≤ m
times-longest a b m n true h k = omega arith
times-longest a b m n false h k = omega arith

skipped-longest : (c : Channel) (past : Past) (n : ℕ) (due : Bool) → IsInCycle c past
    → (skipped_by c past.config n due).queued_max ≤ queue_room past.config
skipped-longest c past n due h = times-longest c.stats.queued_max (length (waiting_requests c.queue.log)) (queue_room past.config) n (eqb n 0) h.made_for.longest h.made_for.within

-- the statistics after them fit
pub skipped-fits : (c : Channel) (past : Past) (n : ℕ) (due : Bool) → IsInCycle c past
    → Each (ArrivedBefore (length past.steps + 1)) (carried_requests past.mail) → IsDueThroughout past.config past.channel past.steps n due → length past.steps + n ≤ 2 ^ 62 → ChannelFits (skipped_by c past.config n due)
unfolding channel_stats
skipped-fits c past n due h before alike early =
    let more = past.steps ++ replicate n None in
    let is : skipped_by c past.config n due ≡ channel_stats past.config past.channel more past.mail = skipped-stats c past n due h before alike in
    let longest : queued_max past.channel more past.mail ≡ (skipped_by c past.config n due).queued_max = ap (λ (x : ChannelStats). x.queued_max) (sym is) in
    let most = skipped-longest c past n due h in
    let room : queue_room past.config ≤ 8192 = past.config.credits_fit in
    subst ChannelFits (sym is) (channel_stats-fit past.config past.channel more past.mail (omega (arith, length-idle past.steps n)) (omega arith))

-- after them the channel is in a cycle that is as the first
pub skipped-in_cycle : (c : Channel) (past : Past) (n : ℕ) (due : Bool) (until : ℕ) → IsInCycle c past
    → Each (ArrivedBefore (length past.steps + 1)) (carried_requests past.mail) → IsDueThroughout past.config past.channel past.steps n due → until ≡ length past.steps + n
    → IsInCycle (record c { cycle = until; stats = skipped_by c past.config n due }) (past_of past.config past.channel (past.steps ++ replicate n None) past.mail)
skipped-in_cycle c past n due until h before alike e =
    let more = past.steps ++ replicate n None in
    let j = h.joined in
    let len = length-idle past.steps n in
    let history : issued_commands past.channel more ≡ commands_after past = idle-issued past.channel past.steps n in
    record {
      made_for = record {
        config_is = h.made_for.config_is;
        number_is = h.made_for.number_is;
        high_is = h.made_for.high_is;
        low_is = h.made_for.low_is;
        latencies_are = h.made_for.latencies_are;
        room_is = h.made_for.room_is;
        banks_are = h.made_for.banks_are;
        in_banks = h.made_for.in_banks;
        within = h.made_for.within;
        longest = skipped-longest c past n due h;
      };
      cycle_is = e ∙ sym len;
      joined = record {
        requests = j.requests;
        arrived = Each-weaker (λ (m : Message). m.arrival < length past.steps + 1) (λ (m : Message). m.arrival < length more + 1) (λ m l. omega arith) past.mail j.arrived;
        differ = j.differ;
        queue_is =
            j.queue_is
            ∙ sym (idle-queued_requests past.channel past.steps past.mail before n (length more + 1) (omega arith));
        drained_is = j.drained_is ∙ sym (idle-drains past.config past.channel past.steps past.mail before n);
        activated_are = j.activated_are ∙ ap (λ x. activated_of x (waiting_requests c.queue.log)) (sym history);
        stats_are = skipped-stats c past n due h before alike;
      };
      candidates_stand = subst (CandidatesStand c.bank_candidates c.queue.log) (sym history) h.candidates_stand;
      banks_stand = subst (BanksStandFor c.banks past.config) (sym history) h.banks_stand;
      refreshes_stand = subst (RefreshesStandFor c.refresh past.config) (sym history) h.refreshes_stand;
      foresees =
          subst (λ x. IsForeseen past.config x c.queue until c.next_command) (sym history)
          (foreseen-later past.config (commands_after past) c.queue c.cycle until c.next_command (omega (arith, h.cycle_is)) h.foresees);
      keeps_served = subst (λ x. KeepsServed c.served x past.mail) (sym history) h.keeps_served;
    }

-- where at least one cycle was skipped, it stands after them
skipped-stands : (c : Channel) (s : Config) (channel : ℕ) (steps : List (Option Command)) (mail : List Message) (n : ℕ) → IsInCycle c (past_of s channel (steps ++ replicate n None) mail)
    → Each (λ (m : Message). m.arrival < length steps + 1) mail → Each (ArrivedBefore (length steps + 1)) (carried_requests mail) → 0 < n → StandsFor c s channel (steps ++ replicate n None) mail
skipped-stands c s channel steps mail zero h arrived before some = absurd (omega arith)
skipped-stands c s channel steps mail (suc k) h arrived before some =
    let last = steps ++ replicate k None in
    let more = steps ++ replicate (suc k) None in
    let j = h.joined in
    let len = length-idle steps (suc k) in
    let push : more ≡ last ++ None ∷ [] = idle-push steps k in
    let drained : drains s channel more mail (length more) ≡ drains_before s channel more mail (length more) =
    idle-drains s channel steps mail before (suc k) ∙ sym (idle-drains s channel steps mail before k)
    ∙ sym (ap (λ x. drains_before s channel x mail (length x)) push ∙ drains_before-row s channel last None mail) in
    record {
      made_for = h.made_for;
      cycle_is = h.cycle_is;
      recalls = record {
        past = record {
          requests = j.requests;
          arrived = Each-weaker (λ (m : Message). m.arrival < length steps + 1) (λ (m : Message). m.arrival < length more) (λ m l. omega arith) mail arrived;
          differ = j.differ;
        };
        queue_is = j.queue_is
            ∙ idle-queued_requests channel steps mail before (suc k) (length more + 1) (omega arith)
            ∙ sym (idle-queued_requests channel steps mail before (suc k) (length more) (omega arith));
        drained_is = j.drained_is ∙ drained;
        activated_are = j.activated_are;
        stats_are = j.stats_are;
      };
      candidates_stand = h.candidates_stand;
      banks_stand = h.banks_stand;
      refreshes_stand = h.refreshes_stand;
      foresees = h.foresees;
      keeps_served = h.keeps_served;
    }

-- from which of the cycles before another one on a refresh is due
abbrev pub IsDueIn : RefreshCounts → ℕ → ℕ → ℕ → Type 0
IsDueIn counts now until due = (cycle : ℕ) → now ≤ cycle → cycle < until → is_some (lowest_owed counts cycle) ≡ nat_le due cycle

-- either none of the next n cycles is before that, or each is
alike : (c : Channel) (past : Past) (until due n : ℕ) → IsInCycle c past
    → IsDueIn c.refresh c.cycle until due → c.cycle + n ≤ until → ((k : ℕ) → k < n → nat_le due (c.cycle + k) ≡ nat_le due c.cycle)
    → IsDueThroughout past.config past.channel past.steps n (is_some (lowest_owed c.refresh c.cycle))
alike c past until due n h dues l same k m =
    ap is_some (lowest_due_from_owed c.refresh past.config (commands_after past) (length past.steps + k) h.refreshes_stand)
    ∙ ap (λ t. is_some (lowest_owed c.refresh (t + k))) (sym h.cycle_is)
    ∙ dues (c.cycle + k) (omega arith) (omega arith)
    ∙ same k m
    ∙ sym (dues c.cycle (omega arith) (omega arith))

-- what is counted, by what is seen
skipped-is : (c : Channel) (past : Past) (until : ℕ) → IsInCycle c past
    → skipped c until ≡ skipped_by c past.config (until - c.cycle) (is_some (lowest_owed c.refresh c.cycle))
skipped-is c past until h =
    ap₂ (λ x d. channel_joined c.stats (channel_times (until - c.cycle) (cycle_with_hit x (length (waiting_requests c.queue.log)) (is_some (lowest_owed c.refresh c.cycle)) d None false)))
    h.made_for.config_is (drain_decided-drains c past h)

skip-fits : (c : Channel) (past : Past) (until : ℕ) → IsInCycle c past
    → Each (ArrivedBefore (length past.steps + 1)) (carried_requests past.mail) → IsDueThroughout past.config past.channel past.steps (until - c.cycle) (is_some (lowest_owed c.refresh c.cycle)) → c.cycle ≤ until → until ≤ 2 ^ 62
    → ChannelFits (skipped c until)
skip-fits c past until h before due l early =
    subst ChannelFits (sym (skipped-is c past until h))
    (skipped-fits c past (until - c.cycle) _ h before due (omega (arith, h.cycle_is)))

skip-in_cycle : (c : Channel) (past : Past) (until : ℕ) → IsInCycle c past
    → Each (ArrivedBefore (length past.steps + 1)) (carried_requests past.mail) → IsDueThroughout past.config past.channel past.steps (until - c.cycle) (is_some (lowest_owed c.refresh c.cycle)) → c.cycle ≤ until
    → IsInCycle (record c { cycle = until; stats = skipped c until }) (idle_after past c.cycle until)
skip-in_cycle c past until h before due l =
    subst (λ x. IsInCycle (record c { cycle = until; stats = x }) (idle_after past c.cycle until)) (sym (skipped-is c past until h))
    (skipped-in_cycle c past (until - c.cycle) _ until h before due (omega (arith, h.cycle_is)))

-- the channel in the first of the cycles that it skips with a refresh that is due, and at the end of them
abbrev pub skipped_to : Channel → ℕ → Channel
skipped_to c until = record c { cycle = until; stats = skipped c until }

-- what is known where a channel passes over cycles
pub record Skips (c : Channel) (past : Past) (until due : ℕ) : Type 0 where
  pub in_cycle : IsInCycle c past
  pub from_now : c.cycle ≤ due
  pub within : due ≤ until
  pub early : until ≤ 2 ^ 62
  pub dues : IsDueIn c.refresh c.cycle until due

-- all requests are there from the first of them on
pub there-before : (c : Channel) (past : Past) → IsInCycle c past → Each (ArrivedBefore (length past.steps + 1)) (carried_requests past.mail)
there-before c past h = requests-arrived past.config past.channel (length past.steps + 1) past.mail h.joined.requests h.joined.arrived

skips-alike : (c : Channel) (past : Past) (until due : ℕ) → Skips c past until due
    → IsDueThroughout past.config past.channel past.steps (due - c.cycle) (is_some (lowest_owed c.refresh c.cycle))
skips-alike c past until due h =
    let from_now = h.from_now in
    let within = h.within in
    alike c past until due (due - c.cycle) h.in_cycle h.dues (omega arith)
    (λ k l. lt-leb due (c.cycle + k) (omega arith) ∙ sym (lt-leb due c.cycle (omega arith)))

pub skips-first_fits : (c : Channel) (past : Past) (until due : ℕ) → Skips c past until due
    → ChannelFits (skipped c due)
skips-first_fits c past until due h =
    let within = h.within in
    let early = h.early in
    skip-fits c past due h.in_cycle (there-before c past h.in_cycle) (skips-alike c past until due h) h.from_now (omega arith)

pub skips-second : (c : Channel) (past : Past) (until due : ℕ) → Skips c past until due
    → IsInCycle (skipped_to c due) (idle_after past c.cycle due)
skips-second c past until due h =
    skip-in_cycle c past due h.in_cycle (there-before c past h.in_cycle) (skips-alike c past until due h) h.from_now

skips-alike_second : (c : Channel) (past : Past) (until due : ℕ) → Skips c past until due
    → IsDueThroughout past.config past.channel (past.steps ++ replicate (due - c.cycle) None) (until - due) (is_some (lowest_owed c.refresh due))
skips-alike_second c past until due h =
    let from_now = h.from_now in
    let within = h.within in
    alike (skipped_to c due) (idle_after past c.cycle due) until due (until - due) (skips-second c past until due h)
    (λ cycle l m. h.dues cycle (omega arith) m) (omega arith)
    (λ k l. le-leb due (due + k) (omega arith) ∙ sym (le-leb due due (omega arith)))

pub skips-second_fits : (c : Channel) (past : Past) (until due : ℕ) → Skips c past until due
    → ChannelFits (skipped (skipped_to c due) until)
skips-second_fits c past until due h =
    let d = skipped_to c due in
    let second = skips-second c past until due h in
    skip-fits d (idle_after past c.cycle due) until second (there-before d (idle_after past c.cycle due) second)
    (skips-alike_second c past until due h) h.within h.early

-- the channel after the cycles that it passes over
pub skips-in_cycle : (c : Channel) (past : Past) (until due : ℕ) → Skips c past until due
    → IsInCycle (skipped_to (skipped_to c due) until) (idle_after past (length past.steps) until)
skips-in_cycle c past until due h =
    let d = skipped_to (skipped_to c due) until in
    let n = due - c.cycle in
    let m = until - due in
    let from_now = h.from_now in
    let within = h.within in
    let is = h.in_cycle.cycle_is in
    let second = skips-second c past until due h in
    let whole : (past.steps ++ replicate n None) ++ replicate m None ≡ past.steps ++ replicate (until - length past.steps) None =
    append_assoc past.steps (replicate n None) (replicate m None)
    ∙ ap (λ x. past.steps ++ x) (replicate-append-replicate {A = Option Command} n m None)
    ∙ ap (λ k. past.steps ++ replicate k None) (let e : n + m ≡ until - length past.steps = omega arith in e) in
    subst (λ r. IsInCycle d (past_of past.config past.channel r past.mail)) whole
    (skip-in_cycle (skipped_to c due) (past_of past.config past.channel (past.steps ++ replicate n None) past.mail) until second
    (there-before (skipped_to c due) (past_of past.config past.channel (past.steps ++ replicate n None) past.mail) second) (skips-alike_second c past until due h) within)

-- the channel after the cycles that it passes over, where a refresh is due in none of them
pub skips-not_due : (c : Channel) (past : Past) (until due : ℕ) → Skips c past until due → until ≤ due
    → IsInCycle (skipped_to c due) (idle_after past (length past.steps) until)
skips-not_due c past until due h l =
    let within = h.within in
    let is = h.in_cycle.cycle_is in
    subst (λ n. IsInCycle (skipped_to c due) (past_of past.config past.channel (past.steps ++ replicate n None) past.mail)) (let e : due - c.cycle ≡ until - length past.steps = omega arith in e) (skips-second c past until due h)

-- where no refresh is due by a cycle, none is before it
pub none_due : (counts : RefreshCounts) (cycle until : ℕ) → cycle ≤ until → is_some (lowest_owed counts until) ≡ false → is_some (lowest_owed counts cycle) ≡ false
none_due counts cycle until l none = ap is_some (none_owed_before counts cycle until l none)

-- what is known where a channel passes over cycles, and no refresh is due by the end of them
pub skips-none_due : (c : Channel) (past : Past) (until : ℕ) → IsInCycle c past → c.cycle ≤ until → until ≤ 2 ^ 62
    → is_some (lowest_owed c.refresh until) ≡ false → Skips c past until until
skips-none_due c past until h l early none = record {
  in_cycle = h;
  from_now = l;
  within = omega arith;
  early = early;
  dues = λ cycle from before. none_due c.refresh cycle until (omega arith) none ∙ sym (lt-leb until cycle before);
}

-- the channel after the cycles that it passes over, where a refresh is due in each of them
skips-alike_due : (c : Channel) (past : Past) (until due : ℕ) → Skips c past until due → due ≤ c.cycle
    → IsDueThroughout past.config past.channel past.steps (until - c.cycle) (is_some (lowest_owed c.refresh c.cycle))
skips-alike_due c past until due h l =
    let within = h.within in
    let from_now = h.from_now in
    alike c past until due (until - c.cycle) h.in_cycle h.dues (omega arith)
    (λ k m. le-leb due (c.cycle + k) (omega arith) ∙ sym (le-leb due c.cycle (omega arith)))

pub skips-due : (c : Channel) (past : Past) (until due : ℕ) → Skips c past until due → due ≤ c.cycle
    → IsInCycle (skipped_to c until) (idle_after past (length past.steps) until)
skips-due c past until due h l =
    let within = h.within in
    let from_now = h.from_now in
    let is = h.in_cycle.cycle_is in
    subst (λ n. IsInCycle (skipped_to c until) (past_of past.config past.channel (past.steps ++ replicate n None) past.mail)) (let e : until - c.cycle ≡ until - length past.steps = omega arith in e)
    (skip-in_cycle c past until h.in_cycle (there-before c past h.in_cycle) (skips-alike_due c past until due h l) (omega arith))

pub skips-due_fits : (c : Channel) (past : Past) (until due : ℕ) → Skips c past until due → due ≤ c.cycle
    → ChannelFits (skipped c until)
skips-due_fits c past until due h l =
    let within = h.within in
    let from_now = h.from_now in
    skip-fits c past until h.in_cycle (there-before c past h.in_cycle) (skips-alike_due c past until due h l) (omega arith) h.early

-- the channel after the cycles that it passes over, where there are none
pub waited-none : (c : Channel) (past : Past) (until : ℕ) → c.cycle ≡ until → IsInCycle c past
    → IsInCycle c (idle_after past (length past.steps) until)
waited-none c past until at h =
    let is = h.cycle_is in
    let none : until - length past.steps ≡ 0 = omega arith in
    subst (λ r. IsInCycle c (past_of past.config past.channel r past.mail)) (sym (ap (λ n. past.steps ++ replicate n None) none ∙ append-nil past.steps)) h

-- the channel stands after them, where there are some
pub waited-stands : (c d : Channel) (past : Past) (n : ℕ) → IsInCycle c past
    → IsInCycle d (past_of past.config past.channel (past.steps ++ replicate n None) past.mail) → 0 < n → StandsFor d past.config past.channel (past.steps ++ replicate n None) past.mail
waited-stands c d past n h k some = skipped-stands d past.config past.channel past.steps past.mail n k h.joined.arrived (there-before c past h) some

-- after the cycles up to another one, and that one, are counted, a channel is in that cycle, which its statistics count
counted-through : (c : Channel) (past : Past) (cycle : ℕ) → IsInCycle c past → c.cycle ≤ cycle
    → IsDueThroughout past.config past.channel past.steps (cycle + 1 - c.cycle) (is_some (lowest_owed c.refresh c.cycle))
    → HasCounted (counted_through c cycle) (idle_after past (length past.steps) cycle)
counted-through c past cycle h l due =
    let is = h.cycle_is in
    let n = cycle - length past.steps in
    let then = idle_after past (length past.steps) cycle in
    let before = there-before c past h in
    let count : cycle - c.cycle ≡ n = omega arith in
    let more : cycle + 1 - c.cycle ≡ suc n = omega arith in
    let first : IsInCycle (skipped_to c cycle) then =
    subst (λ k. IsInCycle (skipped_to c cycle) (past_of past.config past.channel (past.steps ++ replicate k None) past.mail)) count
    (skip-in_cycle c past cycle h before (λ k m. due k (omega arith)) l) in
    record {
      is_in = subst (λ x. IsInCycle (record c { cycle = cycle; stats = x }) then) first.joined.stats_are first;
      stats_are =
          skipped-is c past (cycle + 1) h
          ∙ skipped-stats c past (cycle + 1 - c.cycle) (is_some (lowest_owed c.refresh c.cycle)) h before due
          ∙ ap (λ k. channel_stats past.config past.channel (past.steps ++ replicate k None) past.mail) more
          ∙ ap (λ x. channel_stats past.config past.channel x past.mail) (idle-push past.steps n);
      longest = subst (λ (x : ChannelStats). x.queued_max ≤ queue_room past.config) (sym (skipped-is c past (cycle + 1) h)) (skipped-longest c past (cycle + 1 - c.cycle) (is_some (lowest_owed c.refresh c.cycle)) h);
    }

-- a refresh is due in the cycle where a channel is, or not
due-now : (c : Channel) (past : Past) → IsInCycle c past → IsDueThroughout past.config past.channel past.steps (c.cycle + 1 - c.cycle) (is_some (lowest_owed c.refresh c.cycle))
due-now c past h k l =
    let is = h.cycle_is in
    ap is_some (lowest_due_from_owed c.refresh past.config (commands_after past) (length past.steps + k) h.refreshes_stand)
    ∙ ap (λ t. is_some (lowest_owed c.refresh t)) (let e : length past.steps + k ≡ c.cycle = omega arith in e)

-- a channel that has counted the cycle where it is
pub counted-now : (c : Channel) (past : Past) → IsInCycle c past → c.cycle < 2 ^ 62 → HasCounted (counted_through c c.cycle) past
counted-now c past h early =
    let is = h.cycle_is in
    let none : c.cycle - length past.steps ≡ 0 = omega arith in
    subst (λ r. HasCounted (counted_through c c.cycle) (past_of past.config past.channel r past.mail)) (ap (λ n. past.steps ++ replicate n None) none ∙ append-nil past.steps)
    (counted-through c past c.cycle h (omega arith) (due-now c past h))

pub counted-now_fits : (c : Channel) (past : Past) → IsInCycle c past → c.cycle < 2 ^ 62 → ChannelFits (skipped c (c.cycle + 1))
counted-now_fits c past h early = skip-fits c past (c.cycle + 1) h (there-before c past h) (due-now c past h) (omega arith) (omega arith)

-- where no refresh is due by a cycle, none is in those before it
due-never : (c : Channel) (past : Past) (cycle : ℕ) → IsInCycle c past → c.cycle ≤ cycle → is_some (lowest_owed c.refresh cycle) ≡ false
    → IsDueThroughout past.config past.channel past.steps (cycle + 1 - c.cycle) (is_some (lowest_owed c.refresh c.cycle))
due-never c past cycle h l none k m =
    let is = h.cycle_is in
    ap is_some (lowest_due_from_owed c.refresh past.config (commands_after past) (length past.steps + k) h.refreshes_stand)
    ∙ none_due c.refresh (length past.steps + k) cycle (omega arith) none
    ∙ sym (none_due c.refresh c.cycle cycle l none)

-- a channel that has counted the cycles up to one, and that one, where no refresh is due by it
pub counted-then : (c : Channel) (past : Past) (cycle : ℕ) → IsInCycle c past → c.cycle ≤ cycle → cycle < 2 ^ 62 → is_some (lowest_owed c.refresh cycle) ≡ false
    → HasCounted (counted_through c cycle) (idle_after past (length past.steps) cycle)
counted-then c past cycle h l early none = counted-through c past cycle h l (due-never c past cycle h l none)

pub counted-then_fits : (c : Channel) (past : Past) (cycle : ℕ) → IsInCycle c past → c.cycle ≤ cycle → cycle < 2 ^ 62 → is_some (lowest_owed c.refresh cycle) ≡ false
    → ChannelFits (skipped c (cycle + 1))
counted-then_fits c past cycle h l early none = skip-fits c past (cycle + 1) h (there-before c past h) (due-never c past cycle h l none) (omega arith) (omega arith)
