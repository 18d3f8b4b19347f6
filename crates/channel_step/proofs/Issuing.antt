-- What a command that a channel issues leaves.
use Rattle.std.proofs.Common.{◌≡◌, ℕ, suc, ◌+◌, ◌-◌, ◌<◌, ◌≤◌, ◌^◌, Bool, false, List, [], ◌∷◌, ◌++◌, length, Option, Some, None, refl, sym, ap, ap₂, subst, ◌∙◌, add-one, add-zero, zero-add, arith}
use Rattle.std.specs.Prelude.{is_some, not, filter_map, max, Vec}
use Rattle.std.specs.declared.alloc.Global.{Global}
use Rattle.std.specs.Option.{IfSome}
use Rattle.std.specs.List.{All, AllByRecursion as Each, cons_option, enumerate_from}
use Rattle.std.proofs.lemmas.List.Elements.{All-from_recursion}
use Rattle.sim_base.proofs.Ordered.{Each-weaker}
use Rattle.sim_base.specs.declared.config.Config.{Config}
use Rattle.sim_base.specs.Counts.{queued_max}
use Rattle.sim_base.specs.History.{issued_at, issued_commands, messages_of, issued_now}
use Rattle.sim_base.specs.Rules.{kind_of, row_after, open_row}
use Rattle.sim_base.specs.Scheduling.{choice, choice_between, candidates, lowest_due, due, drains, queued_requests, serves, refresh_command, queue_room}
use Rattle.sim_base.specs.declared.command.Command.{Command}
use Rattle.sim_base.specs.declared.command.Command.TheVariants.{Act, Rd, Wr, Pre, Prea, Ref}
use Rattle.sim_base.specs.declared.command.IssuedCommand.{IssuedCommand}
use Rattle.sim_base.specs.declared.command.Source.{Source}
use Rattle.sim_base.specs.declared.message.Message.{Message}
use Rattle.sim_base.specs.declared.place.BankId.{BankId}
use Rattle.sim_base.proofs.Added.{length-push_suc}
use Rattle.sim_base.proofs.Lists.{length-filter-le}
use Rattle.sim_base.proofs.OpenRows.{open_row-push}
use Rattle.bank_ready.specs.Stands.{StandsFor as BanksStandFor}
use Rattle.bank_ready.specs.declared.banks.Banks.{Banks}
use Rattle.bank_ready.specs.Refreshes.{RefreshCounts, owed, lowest_owed, StandsFor as RefreshesStandFor}
use Rattle.bank_ready.proofs.Due.{due_from_owed, lowest_due_from_owed}
use Rattle.statistics.specs.Channels.{channel_stats, channel_cycle_with, channel_joined, one_command, issues_hit, is_late_act, ChannelFits}
use Rattle.statistics.specs.declared.channels.ChannelStats.{ChannelStats}
use Rattle.statistics.proofs.ChannelCounts.{channel_stats-fit, issued_commands-push, channel_stats-push}
use Rattle.statistics.proofs.ChannelStretches.{channel_joined-assoc}
use Rattle.statistics.specs.Counts.{sum_of_counts}
use Rattle.statistics.proofs.ChannelChoices.{choice-not_late}
use Rattle.queue.specs.declared.request_log.Arrived.{Arrived}
use Rattle.queue.specs.Log.{waiting_requests, all_requests}
use Rattle.queue.specs.declared.bank_candidates.all_banks.BankCandidates.{BankCandidates}
use Rattle.sim_base.specs.Places.{bank_at}
use Rattle.queue.specs.Stands.{bank_count, StandsFor as CandidatesStandFor}
use Rattle.queue.proofs.Stood.{same_rows}
use Rattle.channel_step.specs.FrFcfs.Requests.{IsInBanks}
use Rattle.request_table.specs.declared.served_requests.ServedRequest.{ServedRequest}
use Rattle.channel_step.specs.Past.{Past, commands_after, choice_after}
use Rattle.channel_step.specs.Stands.{activated_of}
use Rattle.channel_step.specs.Queued.{activated_in}
use Rattle.channel_step.specs.Counted.{cycle_with_hit}
use Rattle.channel_step.specs.Owed.{RefIsOwed}
use Rattle.channel_step.specs.Runs.{with_more, HasIssued}
use Rattle.std.proofs.lemmas.List.{append-nil}
use Rattle.channel_step.specs.Channels.{CandidatesStand, KeepsServed, StandsFor, IsInCycle}
use Rattle.channel_step.specs.Readied.{ServesAfter, HasCounted, as_issued, commands_with, IsReadied}
use Rattle.channel_step.specs.declared.next_command.NextCommand.TheVariants.{Unknown}
use Rattle.channel_step.specs.declared.channel.Channel.{Channel}
use Rattle.channel_step.proofs.Foreseen.{foreseen-unknown}
use Rattle.channel_step.proofs.Requests.{unserved_by, queued_requests-command}
use Rattle.channel_step.proofs.Skipping.{there-before}
use Rattle.channel_step.proofs.Stretches.{idle-choice}
use Rattle.channel_step.proofs.Spans.{drains_before-row, choice-next}
use Rattle.channel_step.proofs.Cycle.{cycle-with}
use Rattle.channel_step.proofs.Chosen.{chosen-ref_is_due, RefIsDue, refresh-cases, request-alone}

-- what a channel is readied by: a log of which one more or none is served, with its marks, and the candidates for it
pub readied : (c : Channel) (past : Past) (command : Command) (hit : Bool) (log : List Arrived) (bank_candidates : BankCandidates) (banks : Banks) (served : Option (Vec ServedRequest Global))
    → HasCounted c past → Some command ≡ choice_after past → issues_hit (commands_after past) (Some command) ≡ hit
    → all_requests log ≡ all_requests c.queue.log → waiting_requests log ≡ unserved_by command (waiting_requests c.queue.log)
    → activated_in log ≡ activated_of (commands_after past ++ as_issued past.channel (length past.steps) command ∷ []) (waiting_requests log)
    → bank_count bank_candidates ≡ bank_count c.bank_candidates
    → CandidatesStandFor bank_candidates log (λ bank. row_after (bank_at bank) (open_row (bank_at bank) (commands_after past)) command)
    → BanksStandFor banks past.config (commands_with past command)
    → KeepsServed served (commands_after past ++ as_issued past.channel (length past.steps) command ∷ []) past.mail
    → IsReadied (record c { queue = record c.queue { log = log }; banks = banks; bank_candidates = bank_candidates; served = served }) past command hit
readied c past command hit log bank_candidates banks served h chosen hit_is all left marks count stands noted keeps =
    let i = h.is_in in
    let j = i.joined in
    let history = commands_after past in
    let row = as_issued past.channel (length past.steps) command in
    let some : length (waiting_requests c.queue.log) ≤ queue_room past.config = i.made_for.within in
    let fewer : length (waiting_requests log) ≤ length (waiting_requests c.queue.log) = omega (arith, ap length left, length-filter-le (λ r. not (serves r command)) (waiting_requests c.queue.log)) in
    record {
      made_for = record {
        config_is = i.made_for.config_is;
        number_is = i.made_for.number_is;
        high_is = i.made_for.high_is;
        low_is = i.made_for.low_is;
        latencies_are = i.made_for.latencies_are;
        room_is = i.made_for.room_is;
        banks_are = count ∙ i.made_for.banks_are;
        in_banks = subst (All (IsInBanks past.config.ranks)) (sym all) i.made_for.in_banks;
        within = omega arith;
        longest = h.longest;
      };
      cycle_is = i.cycle_is;
      requests = j.requests;
      arrived = j.arrived;
      differ = j.differ;
      chosen = chosen;
      hit_is = hit_is;
      queue_is = left ∙ ap (unserved_by command) j.queue_is ∙ sym (queued_requests-command history row past.mail (length past.steps + 1));
      drained_is = j.drained_is;
      activated_are = marks;
      stats_are = h.stats_are;
      candidates_stand =
          same_rows bank_candidates log (λ bank. row_after (bank_at bank) (open_row (bank_at bank) history) command)
          (λ bank. open_row (bank_at bank) (history ++ row ∷ [])) stands
          (λ bank there. sym (open_row-push (bank_at bank) history row));
      banks_stand = noted;
      refreshes_stand = i.refreshes_stand;
      keeps_served = keeps;
    }

pub late-none : (s : Config) (channel : ℕ) (steps : List (Option Command)) (mail : List Message) (command : Command) → Some command ≡ choice s channel steps mail → is_late_act (issued_commands channel steps) (Some command) ≡ false
late-none s channel steps mail command e = subst (λ o. is_late_act (issued_commands channel steps) o ≡ false) (sym e) (choice-not_late s channel steps mail)

none_more : (a : Option ℕ) → sum_of_counts a None ≡ a
none_more None = refl
none_more (Some a) = refl

greatest : (a : ℕ) → max a 0 ≡ a
greatest a = omega arith

-- a cycle without a command and a command are the cycle with that command
cycle_and_command : (s : Config) (queued : ℕ) (has_due draining hit : Bool) (command : Command)
    → channel_joined (cycle_with_hit s queued has_due draining None false) (one_command (kind_of command) hit) ≡ cycle_with_hit s queued has_due draining (Some command) hit
cycle_and_command s queued has_due draining hit command = simp (zero-add, add-zero, none_more, greatest)

-- what is counted of a cycle and of its command is what the statistics say
pub counted-is : (c : Channel) (past : Past) (command : Command) (hit : Bool) → IsReadied c past command hit
    → channel_joined c.stats (one_command (kind_of command) hit) ≡ channel_stats past.config past.channel (past.steps ++ Some command ∷ []) past.mail
unfolding channel_cycle_with
counted-is c past command hit h =
    let s = past.config in
    let history = commands_after past in
    let before = channel_stats s past.channel past.steps past.mail in
    let queued = length (queued_requests history past.mail (length past.steps + 1)) in
    let has_due = is_some (lowest_due s history (length past.steps)) in
    let draining = drains s past.channel past.steps past.mail (length past.steps) in
    ap (λ x. channel_joined x (one_command (kind_of command) hit))
    (h.stats_are
    ∙ channel_stats-push s past.channel past.steps None past.mail refl
    ∙ ap (channel_joined before) (cycle-with s past.channel past.steps past.mail None))
    ∙ channel_joined-assoc before (cycle_with_hit s queued has_due draining None false) (one_command (kind_of command) hit)
    ∙ ap (channel_joined before)
    (cycle_and_command s queued has_due draining hit command
    ∙ ap (cycle_with_hit s queued has_due draining (Some command)) (sym h.hit_is)
    ∙ sym (cycle-with s past.channel past.steps past.mail (Some command)))
    ∙ sym (channel_stats-push s past.channel past.steps (Some command) past.mail (late-none s past.channel past.steps past.mail command h.chosen))

-- what is counted of them fits, since a cycle and the greatest length of the queue do
pub counted-fits : (c : Channel) (past : Past) (command : Command) (hit : Bool) → IsReadied c past command hit
    → c.cycle < 2 ^ 62 → ChannelFits (channel_joined c.stats (one_command (kind_of command) hit))
unfolding channel_stats
counted-fits c past command hit h early =
    let is = counted-is c past command hit h in
    let longest : queued_max past.channel (past.steps ++ Some command ∷ []) past.mail ≡ max c.stats.queued_max 0 = ap (λ (x : ChannelStats). x.queued_max) (sym is) in
    let before : c.stats.queued_max ≤ queue_room past.config = h.made_for.longest in
    let room : queue_room past.config ≤ 8192 = past.config.credits_fit in
    let at : c.cycle ≡ length past.steps = h.cycle_is in
    subst ChannelFits (sym is)
    (channel_stats-fit past.config past.channel (past.steps ++ Some command ∷ []) past.mail (omega (arith, length-push_suc past.steps (Some command))) (omega arith))

-- what it stands for when the command is noted and counted
pub issued-stands : (c : Channel) (past : Past) (command : Command) (hit : Bool) (refresh : RefreshCounts)
    → IsReadied c past command hit
    → RefreshesStandFor refresh past.config (commands_after past ++ as_issued past.channel c.cycle command ∷ [])
    → StandsFor (record c { cycle = c.cycle + 1; refresh = refresh; next_command = Unknown; stats = channel_joined c.stats (one_command (kind_of command) hit) })
    past.config past.channel (past.steps ++ Some command ∷ []) past.mail
issued-stands c past command hit refresh h r =
    let o = Some command in
    let now = length past.steps in
    let history = commands_after past in
    let row = as_issued past.channel now command in
    let issued : issued_commands past.channel (past.steps ++ o ∷ []) ≡ history ++ row ∷ [] = issued_commands-push past.channel past.steps o in
    let len : length (past.steps ++ o ∷ []) ≡ suc now = length-push_suc past.steps o in
    let one : now + 1 ≡ suc now = add-one now in
    let before : c.stats.queued_max ≤ queue_room past.config = h.made_for.longest in
    record {
      made_for = record {
        config_is = h.made_for.config_is;
        number_is = h.made_for.number_is;
        high_is = h.made_for.high_is;
        low_is = h.made_for.low_is;
        latencies_are = h.made_for.latencies_are;
        room_is = h.made_for.room_is;
        banks_are = h.made_for.banks_are;
        in_banks = h.made_for.in_banks;
        within = h.made_for.within;
        longest = omega arith;
      };
      cycle_is = ap (λ k. k + 1) h.cycle_is ∙ one ∙ sym len;
      recalls = record {
        past = record {
          requests = h.requests;
          arrived = Each-weaker (λ (m : Message). m.arrival < now + 1) (λ (m : Message). m.arrival < length (past.steps ++ o ∷ [])) (λ m l. omega arith) past.mail h.arrived;
          differ = h.differ;
        };
        queue_is = h.queue_is ∙ ap₂ (λ x u. queued_requests x past.mail u) (sym issued) (one ∙ sym len);
        drained_is = h.drained_is ∙ sym (drains_before-row past.config past.channel past.steps o past.mail);
        activated_are = h.activated_are ∙ ap (λ x. activated_of x (waiting_requests c.queue.log)) (sym issued);
        stats_are = counted-is c past command hit h;
      };
      candidates_stand = subst (CandidatesStand c.bank_candidates c.queue.log) (sym issued) h.candidates_stand;
      banks_stand = subst (BanksStandFor c.banks past.config) (sym issued) h.banks_stand;
      refreshes_stand = subst (RefreshesStandFor refresh past.config) (sym issued) (subst (λ k. RefreshesStandFor refresh past.config (history ++ as_issued past.channel k command ∷ [])) h.cycle_is r);
      foresees = foreseen-unknown past.config (issued_commands past.channel (past.steps ++ o ∷ [])) c.queue (c.cycle + 1);
      keeps_served = subst (λ x. KeepsServed c.served x past.mail) (sym issued) h.keeps_served;
    }

-- what is told of it when it has issued the command
pub has-issued : (c d : Channel) (past : Past) (command issued : Command) (hit : Bool) (commands commands_then : Option (List IssuedCommand)) (messages messages_then : List Message)
    → IsReadied c past issued hit → issued ≡ command → StandsFor d past.config past.channel (past.steps ++ Some issued ∷ []) past.mail
    → commands_then ≡ with_more commands (issued_now c.number c.cycle (Some issued)) → messages_then ≡ messages ++ messages_of past.config past.channel (length past.steps) command
    → HasIssued d past command commands commands_then messages messages_then
has-issued c d past command issued hit commands commands_then messages messages_then h is stands told sent = record {
  stands = subst (λ z. StandsFor d past.config past.channel (past.steps ++ Some z ∷ []) past.mail) is stands;
  commands_are = told ∙ ap₂ (λ number t. with_more commands (issued_now number t (Some issued))) h.made_for.number_is h.cycle_is ∙ ap (λ z. with_more commands (issued_now past.channel (length past.steps) (Some z))) is;
  messages_are = sent;
}

-- only a column command sends messages
pub silent-act : (s : Config) (channel cycle : ℕ) (bank : BankId) (row : ℕ) (source : Source) (messages : List Message) → messages ≡ messages ++ messages_of s channel cycle (Act bank row source)
unfolding messages_of
silent-act s channel cycle bank row source messages = sym (append-nil messages)

pub silent-pre : (s : Config) (channel cycle : ℕ) (bank : BankId) (source : Source) (messages : List Message) → messages ≡ messages ++ messages_of s channel cycle (Pre bank source)
unfolding messages_of
silent-pre s channel cycle bank source messages = sym (append-nil messages)

pub silent-refresh : (s : Config) (history : List IssuedCommand) (channel cycle rank : ℕ) (messages : List Message) → messages ≡ messages ++ messages_of s channel cycle (refresh_command s history rank)
unfolding messages_of
silent-refresh s history channel cycle rank messages =
    refresh-cases (λ z. messages ≡ messages ++ messages_of s channel cycle z) s history rank (sym (append-nil messages)) (sym (append-nil messages))

-- each command was issued before the next cycle
issued-from : (channel from : ℕ) (steps : List (Option Command))
    → Each (λ (i : IssuedCommand). i.cycle < from + length steps) (filter_map (λ (e : ℕ × Option Command). issued_at channel e.0 e.1) (enumerate_from from steps))
issued-from channel from [] = tt
issued-from channel from (o ∷ steps) = by o (Each-weaker (λ (i : IssuedCommand). i.cycle < from + 1 + length steps) (λ (i : IssuedCommand). i.cycle < from + suc (length steps)) (λ i l. omega arith) _ (issued-from channel (from + 1) steps))
  where
    by : (o : Option Command) → Each (λ (i : IssuedCommand). i.cycle < from + suc (length steps)) (filter_map (λ (e : ℕ × Option Command). issued_at channel e.0 e.1) (enumerate_from (from + 1) steps))
        → Each (λ (i : IssuedCommand). i.cycle < from + suc (length steps)) (cons_option (issued_at channel from o) (filter_map (λ (e : ℕ × Option Command). issued_at channel e.0 e.1) (enumerate_from (from + 1) steps)))
    by None rest = rest
    by (Some command) rest = (omega arith, rest)

pub issued-before : (channel now : ℕ) (steps : List (Option Command)) → length steps ≡ now → All (λ (i : IssuedCommand). i.cycle < now) (issued_commands channel steps)
unfolding issued_commands
issued-before channel now steps at =
    All-from_recursion (λ (i : IssuedCommand). i.cycle < now) _
    (Each-weaker (λ (i : IssuedCommand). i.cycle < 0 + length steps) (λ (i : IssuedCommand). i.cycle < now) (λ i l. omega arith) _ (issued-from channel 0 steps))

IfSome-at : {X : Type 0} (P : X → Type 0) (o : Option X) (x : X) → Some x ≡ o → IfSome o P → P x
IfSome-at P o x e h = subst (λ z. IfSome z P) (sym e) h

-- what is chosen in a cycle, of the requests that wait in it
chosen-is : (s : Config) (channel : ℕ) (steps : List (Option Command)) (mail : List Message) (command : Command) → Some command ≡ choice s channel steps mail
    → Some command
    ≡ choice_between s (issued_commands channel steps) (length steps) (candidates s (drains s channel steps mail (length steps)) (queued_requests (issued_commands channel steps) mail (length steps + 1)))
    (lowest_due s (issued_commands channel steps) (length steps))
chosen-is s channel steps mail command e = e ∙ choice-next s channel steps mail _ _ refl refl

-- no refresh is due in a cycle in which a channel issues what a request needs, after others in which it issues nothing
pub none_due-then : (c : Channel) (past : Past) (cycle : ℕ) → IsInCycle c past → ServesAfter past cycle → is_some (lowest_owed c.refresh cycle) ≡ false
none_due-then c past cycle h serves =
    let history = commands_after past in
    let n = cycle - length past.steps in
    let from = serves.from_now in
    let then : length past.steps + n ≡ cycle = omega arith in
    ap is_some (sym (lowest_due_from_owed c.refresh past.config history cycle h.refreshes_stand) ∙ ap (lowest_due past.config history) (sym then))
    ∙ request-alone past.config history (length past.steps + n) _ _ serves.request
    (serves.is_chosen ∙ idle-choice past.config past.channel past.steps past.mail (there-before c past h) n)

-- a REF that a channel issues is due
pub command-owed : (c : Channel) (past : Past) (command : Command) (hit : Bool) → IsReadied c past command hit
    → RefIsOwed c.refresh c.cycle command
command-owed c past command hit h =
    let history = commands_after past in
    by command
    (IfSome-at (RefIsDue past.config history (length past.steps)) _ command (chosen-is past.config past.channel past.steps past.mail command h.chosen)
    (chosen-ref_is_due past.config history (length past.steps) _ (queued_requests history past.mail (length past.steps + 1))))
  where
    by : (x : Command) → RefIsDue past.config (commands_after past) (length past.steps) x → RefIsOwed c.refresh c.cycle x
    by (Ref rank) k =
        let ranks : c.refresh.ranks ≡ past.config.ranks = h.refreshes_stand.ranks_are in
        let below : rank < c.refresh.ranks = omega (arith, k.0) in
        let same : due past.config rank (commands_after past) (length past.steps) ≡ owed c.refresh rank (length past.steps) = due_from_owed c.refresh past.config rank (commands_after past) (length past.steps) h.refreshes_stand below in
        (below, subst (λ t. 0 < owed c.refresh rank t) (sym h.cycle_is) (omega (arith, k.1)))
    by (Act bank row source) k = tt
    by (Rd bank row column source) k = tt
    by (Wr bank row column source) k = tt
    by (Pre bank source) k = tt
    by (Prea rank) k = tt
