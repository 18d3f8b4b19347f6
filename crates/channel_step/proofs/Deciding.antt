-- What a channel decides in a cycle.
use Rattle.std.proofs.Common.{List, ◌≡◌, ℕ, ◌+◌, ◌-◌, ◌<◌, ◌≤◌, ◌++◌, length, None, sym, ap, ap₂, subst, ◌∙◌, arith}
use Rattle.std.specs.Prelude.{replicate}
use Rattle.std.specs.List.{All}
use Rattle.sim_base.specs.declared.config.Config.{Config}
use Rattle.sim_base.specs.Scheduling.{drains_with, drains_before, candidates, choice_between, choice, lowest_due}
use Rattle.bank_ready.specs.Stands.{rank_count, StandsFor as BanksStandFor}
use Rattle.queue.specs.Log.{waiting_requests, all_requests}
use Rattle.queue.specs.Columns.{write_count}
use Rattle.queue.specs.View.{is_draining, drains_by}
use Rattle.channel_step.specs.FrFcfs.Requests.{IsInBanks}
use Rattle.channel_step.specs.FrFcfs.Choices.{choice_in, command_of, IsFor}
use Rattle.channel_step.specs.FrFcfs.Cycles.{IsNextAt}
use Rattle.channel_step.specs.declared.fr_fcfs.choice.Need.{Need}
use Rattle.channel_step.specs.Past.{Past, commands_after}
use Rattle.channel_step.specs.Fit.{IsIdle}
use Rattle.channel_step.specs.Channels.{IsMadeFor, IsInCycle, IsInSomeCycle, IsNeededIn, PartsStand, CandidatesStand}
use Rattle.channel_step.specs.declared.channel.Channel.{Channel}
use Rattle.channel_step.proofs.Foreseen.{some-is}
use Rattle.channel_step.proofs.Spans.{drains-next}
use Rattle.channel_step.proofs.Requests.{requests-arrived}
use Rattle.channel_step.proofs.Stretches.{drains-twice, idle-choice}
use Rattle.bank_ready.specs.Refreshes.{StandsFor as RefreshesStandFor}
use Rattle.sim_base.specs.declared.command.IssuedCommand.{IssuedCommand}

drains-configured : (c : Channel) (s : Config) (channel : ℕ) → IsMadeFor c s channel → is_draining c.queue ≡ drains_with s c.queue.drain_decided (write_count (waiting_requests c.queue.log))
drains-configured c s channel h =
    ap₂ (λ high low. drains_by high low c.queue.drain_decided (write_count (waiting_requests c.queue.log))) h.high_is h.low_is

-- what is decided holds for the cycle
pub drain_decided-drains : (c : Channel) (past : Past) → IsInCycle c past
    → is_draining c.queue ≡ c.queue.drain_decided
drain_decided-drains c past h =
    let j = h.joined in
    let writes = write_count (waiting_requests c.queue.log) in
    let before = drains_before past.config past.channel past.steps past.mail (length past.steps) in
    let is : c.queue.drain_decided ≡ drains_with past.config before writes =
    j.drained_is ∙ drains-next past.config past.channel past.steps past.mail ∙ ap (λ q. drains_with past.config before (write_count q)) (sym j.queue_is) in
    drains-configured c past.config past.channel h.made_for
    ∙ ap (λ d. drains_with past.config d writes) is
    ∙ drains-twice past.config before writes
    ∙ sym is

-- the banks that the requests of a channel ask for
pub made-in_banks : (c : Channel) (s : Config) (channel ranks : ℕ) → IsMadeFor c s channel → ranks ≡ s.ranks → All (IsInBanks ranks) (all_requests c.queue.log)
made-in_banks c s channel ranks h e = subst (λ n. All (IsInBanks n) (all_requests c.queue.log)) (sym e) h.in_banks

pub cycle-in_banks : (c : Channel) (now : ℕ) → IsInSomeCycle c now → All (IsInBanks (rank_count c.banks)) (all_requests c.queue.log)
cycle-in_banks c now h = made-in_banks c h.past.config h.past.channel (rank_count c.banks) h.is_in.made_for h.is_in.banks_stand.ranks

-- what would be chosen for the queue in a later cycle is what the channel does in it, if nothing is issued and nothing
-- arrives before it
pub cycle-later : (c : Channel) (past : Past) (cycle : ℕ) → IsInCycle c past → length past.steps ≤ cycle
    → choice_in past.config (commands_after past) c.queue cycle ≡ choice past.config past.channel (past.steps ++ replicate (cycle - length past.steps) None) past.mail
cycle-later c past cycle h l =
    let j = h.joined in
    let history = commands_after past in
    let n = cycle - length past.steps in
    let then : cycle ≡ length past.steps + n = omega arith in
    ap (λ t. choice_between past.config history t (candidates past.config (is_draining c.queue) (waiting_requests c.queue.log)) (lowest_due past.config history t)) then
    ∙ ap₂ (λ d q. choice_between past.config history (length past.steps + n) (candidates past.config d q) (lowest_due past.config history (length past.steps + n))) (drain_decided-drains c past h ∙ j.drained_is) j.queue_is
    ∙ sym (idle-choice past.config past.channel past.steps past.mail (requests-arrived past.config past.channel (length past.steps + 1) past.mail j.requests j.arrived) n)

-- where nothing would be chosen before a cycle, the channel is idle before it
pub none-before : (c : Channel) (past : Past) (now end : ℕ) → IsInCycle c past → length past.steps ≡ now
    → ((t : ℕ) → now ≤ t → t < end → choice_in past.config (commands_after past) c.queue t ≡ None) → IsIdle past.config past.channel past.steps past.mail (end - length past.steps)
none-before c past now end h at none k l =
    let then : length past.steps + k - length past.steps ≡ k = omega arith in
    ap (λ n. choice past.config past.channel (past.steps ++ replicate n None) past.mail) (sym then)
    ∙ sym (cycle-later c past (length past.steps + k) h (omega arith))
    ∙ none (length past.steps + k) (omega arith) (omega arith)

-- what is chosen next for the queue needs the next command of the channel
pub found-before : (c : Channel) (past : Past) (now end cycle : ℕ) (chosen : Need) → IsInCycle c past
    → length past.steps ≡ now → IsNextAt (choice_in past.config (commands_after past) c.queue) now cycle (command_of past.config (commands_after past) c.queue.log chosen) → IsFor past.config.ranks c.queue.log chosen
    → cycle < end → IsNeededIn past c.queue.log end cycle chosen
found-before c past now end cycle chosen h at n place l =
    let from = n.from_now in
    let some = some-is (command_of past.config (commands_after past) c.queue.log chosen) n.there_is in
    record {
      command = some.0;
      place = place;
      needed = some.1;
      is_next = record {
        from_now = omega arith;
        before_end = l;
        idle = none-before c past now cycle h at n.none_before;
        command_is = sym (n.then_is ∙ some.1) ∙ cycle-later c past cycle h (omega arith);
      };
    }

-- the parts of a channel stand for a history where each of them does
pub parts-stand : (c : Channel) (s : Config) (channel : ℕ) (history : List IssuedCommand) → IsMadeFor c s channel → BanksStandFor c.banks s history
    → CandidatesStand c.bank_candidates c.queue.log history → RefreshesStandFor c.refresh s history → PartsStand c s history
parts-stand c s channel history made_for banks_stand candidates_stand refreshes_stand =
    record {
      candidates_stand = candidates_stand;
      banks_stand = banks_stand;
      refreshes_stand = refreshes_stand;
      groups_are = ap (λ (x : Config). x.groups) (sym made_for.config_is);
      high_is = sym made_for.high_is;
    }

-- the parts of the channel stand for its commands
pub cycle-stands : (c : Channel) (past : Past) → IsInCycle c past → PartsStand c past.config (commands_after past)
cycle-stands c past h = parts-stand c past.config past.channel (commands_after past) h.made_for h.banks_stand h.candidates_stand h.refreshes_stand
