-- What arrives in a cycle of a channel.
use Rattle.std.proofs.Common.{◌≡◌, ℕ, suc, ◌+◌, ◌<◌, ◌≤◌, true, List, [], ◌∷◌, ◌++◌, length, take, drop, map, Option, Some, None, refl, sym, ap, ap₂, subst, ◌∙◌, add-zero, arith, eqb}
use Rattle.std.specs.Prelude.{count_by, take_while}
use Rattle.std.specs.List.{All, AllByRecursion as Each, cons_option}
use Rattle.std.proofs.lemmas.List.{append_assoc, take-append-drop, length-append, take_at}
use Rattle.std.proofs.lemmas.List.Elements.{All-from_recursion, All-append}
use Rattle.std.proofs.lemmas.List.Folds.{length-prefix_len}
use Rattle.sim_base.proofs.Each.{Each-all}
use Rattle.sim_base.proofs.Ordered.{Each-weaker}
use Rattle.sim_base.proofs.Same.{queue-same}
use Rattle.sim_base.specs.declared.config.Config.{Config}
use Rattle.sim_base.specs.Access.{is_access}
use Rattle.sim_base.specs.Counts.{queue_length}
use Rattle.sim_base.specs.Machine.{channel_run}
use Rattle.sim_base.specs.Scheduling.{request_in, drains_with, queue_room}
use Rattle.sim_base.specs.declared.command.IssuedCommand.{IssuedCommand}
use Rattle.sim_base.specs.declared.message.Access.TheVariants as access
use Rattle.sim_base.specs.declared.message.Message.{Message}
use Rattle.sim_base.specs.declared.message.Request.{Request}
use Rattle.statistics.proofs.ChannelCounts.{AgreeUpTo-later}
use Rattle.queue.specs.declared.request_log.Arrived.{Arrived}
use Rattle.queue.specs.Log.{waiting_requests, all_requests, arrived_now}
use Rattle.queue.specs.Columns.{bank_number, write_count}
use Rattle.queue.specs.View.{QueueView, drains_by}
use Rattle.queue.specs.declared.bank_candidates.all_banks.BankCandidates.{BankCandidates}
use Rattle.queue.specs.Stands.{bank_count}
use Rattle.channel_step.specs.Past.{carried_requests, IsRequestIn, CarriesRequest, Past, commands_after, with_mail}
use Rattle.channel_step.specs.Fit.{IsFitAfter}
use Rattle.channel_step.specs.Stands.{activated_of}
use Rattle.channel_step.specs.Queued.{activated_in, with_arrivals}
use Rattle.channel_step.specs.Channels.{CandidatesStand, IsNextCommand, NextCommandIsFor, IsInCycle, HasPast}
use Rattle.channel_step.specs.declared.next_command.NextCommand.{NextCommand}
use Rattle.channel_step.specs.declared.next_command.NextCommand.TheVariants.{Unknown, Known}
use Rattle.channel_step.specs.declared.channel.Channel.{Channel}
use Rattle.channel_step.specs.FrFcfs.Choices.{IsFor}
use Rattle.channel_step.specs.FrFcfs.Requests.{IsInBanks}
use Rattle.channel_step.proofs.Serving.{kept-later}
use Rattle.channel_step.proofs.Foreseen.{foreseen-from, taken-for}
use Rattle.channel_step.proofs.Logs.{waiting-with, all-with, marks-with, arrived-wait}
use Rattle.channel_step.proofs.Requests.{carries-stamped, carried}
use Rattle.channel_step.proofs.Spans.{queue-next}
use Rattle.channel_step.proofs.Cycle.{joined}
use Rattle.channel_step.proofs.Places.{InBanks, request-in_banks, banks-below}
use Rattle.channel_step.proofs.Fits.{due_count, fit-arrives, fit-later}

pub due_count-is : (inbox : List Message) (now : ℕ) → length (take_while (λ (m : Message). eqb m.arrival now) inbox) ≡ due_count inbox now
due_count-is inbox now = length-prefix_len (λ (m : Message). eqb m.arrival now) inbox

-- each message has its request
pub length-requests : (s : Config) (channel : ℕ) (mail : List Message) → Each (CarriesRequest s channel) mail → length (carried_requests mail) ≡ length mail
length-requests s channel [] h = refl
length-requests s channel (m ∷ ms) h = by (request_in m.payload) h.0 (length-requests s channel ms h.1)
  where
    by : (o : Option Request) → IsRequestIn s channel m o → length (carried_requests ms) ≡ length ms → length (cons_option o (carried_requests ms)) ≡ suc (length ms)
    by None i e = absurd i
    by (Some r) i e = ap (λ n. suc n) e

-- the queue of a cycle has room for what arrives in it
pub arrivals-room : (c : Channel) (past : Past) (inbox : List Message) (now until : ℕ) → HasPast c past → length past.steps ≡ now → now < until
    → IsFitAfter past inbox now until → length (waiting_requests c.queue.log ++ carried_requests (take (due_count inbox now) inbox)) ≤ queue_room past.config
unfolding queue_length channel_run
arrivals-room c past inbox now until h at l f =
    let new = take (due_count inbox now) inbox in
    let rest = drop (due_count inbox now) inbox in
    let j = joined _ _ _ _ past new h.recalls (fit-arrives past inbox now until at f) in
    let later = fit-later past inbox now until at f in
    let whole : past.mail ++ inbox ≡ (past.mail ++ new) ++ rest = ap (λ x. past.mail ++ x) (sym (take-append-drop (due_count inbox now) inbox)) ∙ sym (append_assoc past.mail new rest) in
    let fits = f.room 0 (omega arith) in
    let is : queue_length past.channel past.steps (past.mail ++ inbox) (now + 0) ≡ length (waiting_requests c.queue.log ++ carried_requests new) =
    ap₂ (λ m k. queue_length past.channel past.steps m k) whole (add-zero now ∙ sym at)
    ∙ ap length (queue-same past.channel past.steps ((past.mail ++ new) ++ rest) (past.mail ++ new) (length past.steps)
    (AgreeUpTo-later (length past.steps + 1) (past.mail ++ new) rest (carries-stamped past.config past.channel (past.mail ++ new) j.requests) (carries-stamped past.config past.channel rest later.0) later.1)
    ∙ queue-next past.channel past.steps (past.mail ++ new) ∙ sym j.queue_is) in
    omega arith

-- the requests that arrive in a cycle
abbrev pub arriving : List Message → ℕ → List Request
arriving inbox now = carried_requests (take (due_count inbox now) inbox)

arriving-in_banks : (s : Config) (channel : ℕ) (new : List Message) → Each (CarriesRequest s channel) new → All (IsInBanks s.ranks) (carried_requests new)
arriving-in_banks s channel new h =
    All-from_recursion (IsInBanks s.ranks) (carried_requests new)
    (Each-weaker (InBanks s) (IsInBanks s.ranks) (λ r b. record { rank = b.0; group = b.1; bank = b.2 }) (carried_requests new)
    (carried s channel (InBanks s) new h (Each-all _ (λ m r i. request-in_banks s channel m r i) new)))

-- all that have arrived then ask for banks that there are
pub arrived-places : (c : Channel) (past : Past) (inbox : List Message) (now until : ℕ) (q : QueueView) → HasPast c past → length past.steps ≡ now
    → IsFitAfter past inbox now until → q ≡ with_arrivals c.queue (arriving inbox now) → All (IsInBanks past.config.ranks) (all_requests q.log)
arrived-places c past inbox now until q h at f e =
    subst (All (IsInBanks past.config.ranks)) (sym (ap (λ (x : QueueView). all_requests x.log) e ∙ all-with c.queue.log (arriving inbox now)))
    (All-append (IsInBanks past.config.ranks) (all_requests c.queue.log) (arriving inbox now) h.made_for.in_banks
    (arriving-in_banks past.config past.channel (take (due_count inbox now) inbox) (fit-arrives past inbox now until at f).requests))

-- the banks that they ask for have candidates
pub arrived-in_banks : (c : Channel) (past : Past) (inbox : List Message) (now until : ℕ) (q : QueueView) → HasPast c past → length past.steps ≡ now
    → IsFitAfter past inbox now until → q ≡ with_arrivals c.queue (arriving inbox now) → All (λ a. bank_number a.request.place < bank_count c.bank_candidates) q.log
arrived-in_banks c past inbox now until q h at f e =
    banks-below past.config.ranks (bank_count c.bank_candidates) q.log h.made_for.banks_are (arrived-places c past inbox now until q h at f e)

-- when they have joined
pub arrived-stands : (c : Channel) (past : Past) (inbox : List Message) (now until : ℕ) (q : QueueView) (bank_candidates : BankCandidates) (next_command : NextCommand) → HasPast c past → length past.steps ≡ now → now < until
    → IsFitAfter past inbox now until → q ≡ with_arrivals c.queue (arriving inbox now)
    → bank_count bank_candidates ≡ bank_count c.bank_candidates → CandidatesStand bank_candidates q.log (commands_after past)
    → IsNextCommand past.config (commands_after past) q c.cycle next_command
    → IsInCycle (record c { queue = q; bank_candidates = bank_candidates; next_command = next_command }) (with_mail past (take (due_count inbox now) inbox))
arrived-stands c past inbox now until q bank_candidates next_command h at l f e count candidates_stand known =
    let history = commands_after past in
    let new = take (due_count inbox now) inbox in
    let requests = arriving inbox now in
    let older = waiting_requests c.queue.log in
    let j = joined _ _ _ _ past new h.recalls (fit-arrives past inbox now until at f) in
    let wait : waiting_requests q.log ≡ older ++ requests = ap (λ (x : QueueView). waiting_requests x.log) e ∙ waiting-with c.queue.log requests in
    let drains : q.drain_decided ≡ drains_with past.config c.queue.drain_decided (count_by (λ r. is_access access.Write r.access) (older ++ requests)) =
    ap (λ (x : QueueView). x.drain_decided) e
    ∙ ap (λ rs. drains_by c.queue.high c.queue.low c.queue.drain_decided (write_count rs)) (waiting-with c.queue.log requests)
    ∙ ap₂ (λ high low. drains_by high low c.queue.drain_decided (write_count (older ++ requests))) h.made_for.high_is h.made_for.low_is in
    let room = arrivals-room c past inbox now until h at l f in
    let same : length (waiting_requests q.log) ≡ length (older ++ requests) = ap length wait in
    record {
      made_for = record {
        config_is = h.made_for.config_is;
        number_is = h.made_for.number_is;
        high_is = ap (λ (x : QueueView). x.high) e ∙ h.made_for.high_is;
        low_is = ap (λ (x : QueueView). x.low) e ∙ h.made_for.low_is;
        latencies_are = h.made_for.latencies_are;
        room_is = ap (λ (x : QueueView). x.room) e ∙ h.made_for.room_is;
        banks_are = count ∙ h.made_for.banks_are;
        in_banks = arrived-places c past inbox now until q h at f e;
        within = omega arith;
        longest = h.made_for.longest;
      };
      cycle_is = h.cycle_is;
      joined = record {
        requests = j.requests;
        arrived = j.arrived;
        differ = j.differ;
        queue_is = wait ∙ j.queue_is;
        drained_is = drains ∙ j.drained_is;
        activated_are = ap (λ (x : QueueView). activated_in x.log) e ∙ marks-with c.queue.log requests ∙ j.activated_are ∙ ap (activated_of history) (sym wait);
        stats_are = j.stats_are;
      };
      candidates_stand = candidates_stand;
      banks_stand = h.banks_stand;
      refreshes_stand = h.refreshes_stand;
      foresees = foreseen-from past.config history q c.cycle next_command known;
      keeps_served = kept-later c.served history past.mail new h.keeps_served;
    }

-- there is room in the queue for the requests that arrive in a cycle
pub admit-room : (c : Channel) (past : Past) (inbox : List Message) (now until n : ℕ) → HasPast c past → length past.steps ≡ now → now < until
    → IsFitAfter past inbox now until → n ≡ due_count inbox now → length (waiting_requests c.queue.log) + n ≤ c.queue.room
admit-room c past inbox now until n h at l f e =
    let new = take (due_count inbox now) inbox in
    let each : length (carried_requests new) ≡ length new = length-requests past.config past.channel new (fit-arrives past inbox now until at f).requests in
    let room : c.queue.room ≡ queue_room past.config = h.made_for.room_is in
    let many : length new ≡ due_count inbox now = length-prefix_len (λ (m : Message). eqb m.arrival now) inbox in
    omega (arith, arrivals-room c past inbox now until h at l f, length-append (waiting_requests c.queue.log) (carried_requests new))

-- the requests that were there before
pub log-before : (c : Channel) (new : List Request) (n : ℕ) (q : QueueView) → n ≡ length c.queue.log → q ≡ with_arrivals c.queue new → c.queue.log ≡ take n q.log
log-before c new n q e x = sym (ap (λ (z : QueueView). take n z.log) x ∙ take_at c.queue.log (map arrived_now new) n (sym e))

-- each of the others waits
pub log-after : (c : Channel) (new : List Request) (n : ℕ) (q : QueueView) → n ≡ length c.queue.log → q ≡ with_arrivals c.queue new → All (λ (a : Arrived). a.waits ≡ true) (drop n q.log)
log-after c new n q e x = subst (λ (z : QueueView). All (λ (a : Arrived). a.waits ≡ true) (drop n z.log)) (sym x) (subst (λ k. All (λ (a : Arrived). a.waits ≡ true) (drop k (c.queue.log ++ map arrived_now new))) (sym e) (arrived-wait c.queue.log new))

-- what is known of the next command was for one of those that were there before
pub next_command-for : (s : Config) (history : List IssuedCommand) (n ranks : ℕ) (earlier queue : QueueView) (from : ℕ) (next_command : NextCommand) → ranks ≡ s.ranks → earlier.log ≡ take n queue.log
    → IsNextCommand s history earlier from next_command → NextCommandIsFor ranks queue.log next_command
next_command-for s history n ranks earlier queue from Unknown e is h = tt
next_command-for s history n ranks earlier queue from (Known None) e is h = tt
next_command-for s history n ranks earlier queue from (Known (Some next)) e is h =
    taken-for n ranks queue.log earlier.log next.1 is (subst (λ k. IsFor k earlier.log next.1) (sym e) h.place)
