-- The laws of the one-clock machine, for the outcome of a run.
use Rattle.std.proofs.Common.{◌≡◌, ℕ, zero, suc, ◌+◌, ◌-◌, ◌*◌, ◌<◌, ◌≤◌, ◌&&◌, cond, leb, max, List, [], ◌∷◌, length, take, map, Option, Some, None, sym, subst, ◌∙◌, arith}
use Rattle.std.specs.Prelude.{All, count_by, filter_map, fold}
use Rattle.std.specs.List.{AllByRecursion as Each, enumerate_from, range_with_len}
use Rattle.std.proofs.lemmas.Bool.{and_from, le-leb}
use Rattle.std.proofs.lemmas.List.{length-map}
use Rattle.std.proofs.lemmas.List.Elements.{All-from_recursion}
use Rattle.sim_base.specs.declared.command.Command.{Command}
use Rattle.sim_base.specs.declared.command.IssuedCommand.{IssuedCommand}
use Rattle.sim_base.specs.declared.config.Config.{Config}
use Rattle.sim_base.specs.declared.message.Unit.TheVariants.{Core, Channel}
use Rattle.sim_base.specs.declared.trace.Entry.{Entry}
use Rattle.sim_base.specs.Config.{refresh_slack, credit_link}
use Rattle.sim_base.specs.Counts.{queue_length, queue_lengths, queued_max}
use Rattle.sim_base.specs.Final.{credits_left, queue_left}
use Rattle.sim_base.specs.History.{below, issued_at, issued_commands, inbox, trace_of, steps_of_core}
use Rattle.sim_base.specs.Machine.{run}
use Rattle.sim_base.specs.Scheduling.{refreshes, queue_room}
use Rattle.sim_base.specs.Windows.{held, credit_cap, is_credit_on}
use Rattle.sim_base.proofs.Spans.{length_run}
use Rattle.sim_base.specs.declared.message.Access.{Access}
use Rattle.sim_base.specs.declared.message.Access.TheVariants as access
use Rattle.sim_base.proofs.Lists.{count-cons}
use Rattle.statistics.specs.Channels.{channel_stats}
use Rattle.statistics.specs.Runs.{stats_of_channel, final_of_core, final_of_channel, core_final, channel_final, credits_of, stats_of, final_of}
use Rattle.statistics.specs.Values.{FinalCore, FinalChannel}
use Rattle.statistics.specs.Outcomes.{outcome_after, outcome_of}
use Rattle.statistics.specs.declared.tables.Tables.{Tables}
use Rattle.statistics.specs.declared.channels.ChannelStats.{ChannelStats}
use Rattle.statistics.specs.declared.final_state.Credits.{Credits}
use Rattle.laws.specs.Commands.{channel_steps_of}
use Rattle.laws.specs.Credits.{requests_sent_count}
use Rattle.laws.specs.DataBus.{has_data_in}
use Rattle.laws.proofs.Bounded.{queued_requests-bound, queues_are_bounded}
use Rattle.laws.proofs.Burst.{bursts_do_not_overlap}
use Rattle.laws.proofs.Conserved.{credits_come_back_once}
use Rattle.laws.proofs.Counting.{bit_le}
use Rattle.laws.proofs.Legal.{length-channel_steps_of}
use Rattle.laws.proofs.Spent.{credits_are_never_overspent}
use Rattle.laws.proofs.Tabled.{commands_on-commands}
use Rattle.laws.proofs.Timely.{refreshes_are_in_time}
use Rattle.run_tables.specs.TableLaws.Outcomes.{OwnsDataBus, refreshes_until, IsRefreshed, HasBoundedQueues, HoldsFewCredits, KeepsCreditsUntil}

pub owns_data_bus : (s : Config) (traces : List (List Entry)) (n : ℕ) → OwnsDataBus s traces n
owns_data_bus s traces n channel cycle l =
    subst (λ t. count_by (has_data_in s.timing cycle) t ≤ 1) (sym (commands_on-commands s traces channel l n)) (bursts_do_not_overlap s traces n channel cycle l)

-- each REF of the first cycles stands in one of them
refreshed-early : (k rank cycle i n : ℕ) (past_steps : List (Option Command)) → i + n ≤ cycle + 1
    → count_by (λ (x : IssuedCommand). refreshes rank x.command) (filter_map (λ (e : ℕ × Option Command). issued_at k e.0 e.1) (enumerate_from i (take n past_steps)))
    ≤ refreshes_until rank cycle (filter_map (λ (e : ℕ × Option Command). issued_at k e.0 e.1) (enumerate_from i past_steps))
refreshed-early k rank cycle i zero past_steps l = omega arith
refreshed-early k rank cycle i (suc n) [] l = omega arith
refreshed-early k rank cycle i (suc n) (None ∷ past_steps) l = refreshed-early k rank cycle (i + 1) n past_steps (omega arith)
refreshed-early k rank cycle i (suc n) (Some c ∷ past_steps) l =
    let p = λ (x : IssuedCommand). refreshes rank x.command in
    let q = λ (x : IssuedCommand). refreshes rank x.command && leb x.cycle cycle in
    let row : IssuedCommand = record { cycle = i; channel = k; command = c } in
    let first = filter_map (λ (e : ℕ × Option Command). issued_at k e.0 e.1) (enumerate_from (i + 1) (take n past_steps)) in
    let all = filter_map (λ (e : ℕ × Option Command). issued_at k e.0 e.1) (enumerate_from (i + 1) past_steps) in
    let rest : count_by p first ≤ count_by q all = refreshed-early k rank cycle (i + 1) n past_steps (omega arith) in
    let here : cond (p row) 1 0 ≤ cond (q row) 1 0 = bit_le (p row) (q row) (λ e. and_from (p row) (leb i cycle) e (le-leb i cycle (omega arith))) in
    omega (arith, count-cons p row first, count-cons q row all)

history-early : (k rank cycle : ℕ) (past_steps : List (Option Command))
    → count_by (λ (x : IssuedCommand). refreshes rank x.command) (issued_commands k (take (cycle + 1) past_steps)) ≤ refreshes_until rank cycle (issued_commands k past_steps)
unfolding issued_commands
history-early k rank cycle past_steps = refreshed-early k rank cycle 0 (cycle + 1) past_steps (omega arith)

-- the statistics tell how many cycles a run had
pub cycles_are : (tables : Tables) (s : Config) (traces : List (List Entry)) (n : ℕ) → (outcome_of tables s traces n).stats.cycles ≡ n
unfolding outcome_of outcome_after stats_of
cycles_are tables s traces n = length_run s traces n

pub is_refreshed : (s : Config) (traces : List (List Entry)) (n : ℕ) → IsRefreshed s traces n
is_refreshed s traces n channel rank m l b some soon =
    let last = m * s.timing.n_refi + refresh_slack s in
    let enough = refreshes_are_in_time s traces n channel rank m l b some (omega arith) in
    let early = history-early channel rank last (channel_steps_of s traces n channel) in
    subst (λ t. m ≤ refreshes_until rank last t) (sym (commands_on-commands s traces channel l n)) (omega arith)

-- what holds for each number holds of each element that is made of one
pub mapped-each : {X : Type 0} (P : X → Type 0) (f : ℕ → X) (a n : ℕ) → ((k : ℕ) → k < a + n → P (f k)) → Each P (map f (range_with_len a n))
mapped-each P f a zero h = tt
mapped-each P f a (suc n) h = (h a (omega arith), mapped-each P f (a + 1) n (λ k l. h k (omega arith)))

all-below : {X : Type 0} (P : X → Type 0) (f : ℕ → X) (n : ℕ) → ((k : ℕ) → k < n → P (f k)) → All P (map f (below n))
all-below P f n h = All-from_recursion P (map f (below n)) (mapped-each P f 0 n (λ k l. h k (omega arith)))

pub greatest-within : (a most : ℕ) (xs : List ℕ) → a ≤ most → Each (λ x. x ≤ most) xs → fold max a xs ≤ most
greatest-within a most [] l h = l
greatest-within a most (x ∷ xs) l h = greatest-within (max a x) most xs (let b = h.0 in omega arith) h.1

longest-fits : (s : Config) (traces : List (List Entry)) (n channel : ℕ) → channel < s.channels
    → (stats_of_channel s traces (run s traces n) channel).queued_max ≤ queue_room s
unfolding stats_of_channel channel_stats queued_max queue_lengths queue_length
longest-fits s traces n channel l =
    let past_steps = channel_steps_of s traces n channel in
    let most = s.cores * (s.read_credits + s.write_credits) in
    let long = length-channel_steps_of s traces n channel in
    greatest-within 0 most _ (omega arith)
    (mapped-each (λ x. x ≤ most) (queue_length channel past_steps (inbox s traces (run s traces n) (Channel channel))) 0 (length past_steps)
    (λ cycle b. queues_are_bounded s traces n channel cycle l (omega arith)))

left-fits : (s : Config) (traces : List (List Entry)) (n channel : ℕ) → channel < s.channels
    → length (final_of_channel s traces (run s traces n) channel).queue ≤ queue_room s
unfolding final_of_channel channel_final queue_left
left-fits s traces n channel l = queued_requests-bound s traces n channel (length (channel_steps_of s traces n channel)) l

pub has_bounded_queues : (tables : Tables) (s : Config) (traces : List (List Entry)) (n : ℕ) → HasBoundedQueues s (outcome_of tables s traces n)
unfolding outcome_of outcome_after stats_of final_of
has_bounded_queues tables s traces n =
    record {
      longest = all-below (λ (c : ChannelStats). c.queued_max ≤ queue_room s) (stats_of_channel s traces (run s traces n)) s.channels (λ k l. longest-fits s traces n k l);
      left = all-below (λ (c : FinalChannel). length c.queue ≤ queue_room s) (final_of_channel s traces (run s traces n)) s.channels (λ k l. left-fits s traces n k l);
    }

length-core_steps : (s : Config) (traces : List (List Entry)) (n core : ℕ) → length (steps_of_core core (run s traces n)) ≡ n
unfolding steps_of_core
length-core_steps s traces n core = length-map (run s traces n) _ ∙ length_run s traces n

-- what a core holds at the end is no more than at first, since no more came back than it spent
held-within : (cap back sent : ℕ) → back ≤ sent → cap + back - sent ≤ cap
held-within cap back sent l = omega arith

held-few : (s : Config) (traces : List (List Entry)) (n core channel : ℕ) (access : Access) → core < s.cores → channel < s.channels
    → credits_left s core (trace_of traces core) (steps_of_core core (run s traces n)) (inbox s traces (run s traces n) (Core core)) access channel ≤ credit_cap s access
unfolding credits_left held
held-few s traces n core channel access c l =
    let long : n ≡ length (steps_of_core core (run s traces n)) = sym (length-core_steps s traces n core) in
    let link = credit_link s core channel in
    let mail = inbox s traces (run s traces n) (Core core) in
    held-within (credit_cap s access) (count_by (is_credit_on link access (length (steps_of_core core (run s traces n)))) mail) (requests_sent_count s traces n core channel access)
    (subst (λ i. count_by (is_credit_on link access i) mail ≤ requests_sent_count s traces n core channel access) long (credits_come_back_once s traces n core channel access c l))

credits-few : (s : Config) (traces : List (List Entry)) (n core : ℕ) → core < s.cores
    → All (λ (held : Credits). held.read ≤ s.read_credits × held.write ≤ s.write_credits) (final_of_core s traces (run s traces n) core).credits
unfolding final_of_core core_final credits_of
credits-few s traces n core c =
    all-below (λ (held : Credits). held.read ≤ s.read_credits × held.write ≤ s.write_credits)
    (credits_of s core (trace_of traces core) (steps_of_core core (run s traces n)) (inbox s traces (run s traces n) (Core core))) s.channels
    (λ k l. (held-few s traces n core k access.Read c l, held-few s traces n core k access.Write c l))

pub holds_few_credits : (tables : Tables) (s : Config) (traces : List (List Entry)) (n : ℕ) → HoldsFewCredits s (outcome_of tables s traces n)
unfolding outcome_of outcome_after final_of
holds_few_credits tables s traces n =
    all-below (λ (c : FinalCore). All (λ (held : Credits). held.read ≤ s.read_credits × held.write ≤ s.write_credits) c.credits)
    (final_of_core s traces (run s traces n)) s.cores (λ k l. credits-few s traces n k l)

pub keeps_credits_until : (s : Config) (traces : List (List Entry)) (n : ℕ) → KeepsCreditsUntil s traces n
keeps_credits_until s traces n cycle l = record { spent = credits_are_never_overspent s traces cycle; back = credits_come_back_once s traces cycle }
