-- A channel that goes on to the next cycle in which something happens.
use Rattle.std.proofs.Common.{◌≡◌, ℕ, ◌+◌, ◌-◌, ◌<◌, ◌≤◌, true, List, [], ◌∷◌, ◌++◌, length, take, drop, Option, Some, None, sym, ap, ap₂, subst, ◌∙◌, eqb, arith}
use Rattle.std.specs.Prelude.{replicate, take_while}
use Rattle.std.specs.List.{AllByRecursion as Each}
use Rattle.std.proofs.lemmas.List.{append-nil, append_assoc, take-append-drop, take_rest}
use Rattle.std.proofs.lemmas.List.Sums.{prefix_len-le-length}
use Rattle.sim_base.proofs.Added.{channel_messages-push}
use Rattle.sim_base.proofs.Ordered.{Each-weaker}
use Rattle.sim_base.specs.declared.config.Config.{Config}
use Rattle.sim_base.specs.Counts.{queue_length}
use Rattle.sim_base.specs.History.{is_before, issued_commands, channel_messages, messages_at, issued_now}
use Rattle.sim_base.specs.Machine.{channel_run}
use Rattle.sim_base.specs.Scheduling.{choice}
use Rattle.sim_base.specs.declared.command.Command.{Command}
use Rattle.sim_base.specs.declared.message.Message.{Message}
use Rattle.sim_base.proofs.Arrived.{before_le}
use Rattle.statistics.proofs.ChannelCounts.{AgreeUpTo-later, issued_commands-push}
use Rattle.channel_step.specs.Past.{carried_requests, CarriesRequest, past_of, Past, commands_after, choice_after, with_mail}
use Rattle.channel_step.specs.Fit.{NoneIssuedFor, ComeByAge, IsFit, IsIdle, IsFitAfter}
use Rattle.queue.specs.Log.{waiting_requests}
use Rattle.channel_step.specs.Queued.{activated_in}
use Rattle.channel_step.specs.Stands.{HasArrivals}
use Rattle.channel_step.specs.Channels.{StandsFor, IsInCycle, IsNextIn}
use Rattle.channel_step.specs.Runs.{first_arrival_or, HasRun, steps_on}
use Rattle.channel_step.specs.declared.channel.Channel.{Channel}
use Rattle.channel_step.proofs.Requests.{carries-stamped}
use Rattle.channel_step.proofs.Running.{rest_of}
use Rattle.channel_step.proofs.Stepping.{due_count-is}
use Rattle.channel_step.proofs.Spans.{channel_run-one, channel_run-more, channel_run-same}
use Rattle.channel_step.proofs.Stretches.{length-idle, idle-issued, idle-messages, idle-run}
use Rattle.channel_step.proofs.Fits.{due_count, fit-later, fit-rest, fit-taken, none-due}

-- no message arrives before the first
arrive-from : (next until : ℕ) (inbox : List Message) → ComeByAge inbox → next ≤ first_arrival_or inbox until → Each (λ (m : Message). next ≤ m.arrival) inbox
arrive-from next until [] h l = tt
arrive-from next until (m ∷ ms) h l =
    (l, Each-weaker (λ (n : Message). is_before m n ≡ true) (λ (n : Message). next ≤ n.arrival) (λ n k. omega (arith, before_le m n k)) ms h.0)

-- the first message of an inbox arrives within the span
arrival-within : (now until : ℕ) (inbox : List Message) → now ≤ until → Each (λ (m : Message). (now ≤ m.arrival) × (m.arrival < until)) inbox
    → (now ≤ first_arrival_or inbox until) × (first_arrival_or inbox until ≤ until)
arrival-within now until [] l h = (l, omega arith)
arrival-within now until (m ∷ ms) l h = let a = h.0.0 in let b = h.0.1 in (a, omega arith)

in_span-from : (now next until : ℕ) (inbox : List Message) → Each (λ (m : Message). next ≤ m.arrival) inbox → Each (λ (m : Message). (now ≤ m.arrival) × (m.arrival < until)) inbox
    → Each (λ (m : Message). (next ≤ m.arrival) × (m.arrival < until)) inbox
in_span-from now next until [] h k = tt
in_span-from now next until (m ∷ ms) h k = ((h.0, k.0.1), in_span-from now next until ms h.1 k.1)

-- the steps of the idle cycles before the first message, and what is fit after them
idle-steps : (s : Config) (channel : ℕ) (steps : List (Option Command)) (mail inbox : List Message) (n : ℕ) → Each (CarriesRequest s channel) mail → Each (CarriesRequest s channel) inbox
    → Each (λ (m : Message). length steps + n ≤ m.arrival) inbox → IsIdle s channel steps mail n → channel_run s channel steps (mail ++ inbox) n ≡ steps ++ replicate n None
idle-steps s channel steps mail inbox n old new late idle =
    channel_run-same s channel steps (mail ++ inbox) mail n (AgreeUpTo-later (length steps + n) mail inbox (carries-stamped s channel mail old) (carries-stamped s channel inbox new) late)
    ∙ idle-run s channel steps mail n idle

idle-fit : (past : Past) (inbox : List Message) (now until n : ℕ) → length past.steps ≡ now → IsFitAfter past inbox now until
    → Each (λ (m : Message). now + n ≤ m.arrival) inbox → steps_on past inbox n ≡ past.steps ++ replicate n None
    → IsFit past.config past.channel (past.steps ++ replicate n None) past.mail inbox (now + n) until
idle-fit past inbox now until n at f late is =
    let all = past.mail ++ inbox in
    record {
      requests = f.requests;
      by_age = f.by_age;
      in_span = in_span-from now (now + n) until inbox late f.in_span;
      differ = f.differ;
      none_issued = subst (λ x. Each (NoneIssuedFor x) (carried_requests inbox)) (sym (idle-issued past.channel past.steps n)) f.none_issued;
      room = λ k l.
          let e : now + (n + k) ≡ now + n + k = omega arith in
          let x : queue_length past.channel (channel_run past.config past.channel past.steps all (n + k)) all (now + (n + k)) ≡ queue_length past.channel (channel_run past.config past.channel (past.steps ++ replicate n None) all k) all (now + n + k) =
          ap₂ (λ r t. queue_length past.channel r all t) (channel_run-more past.config past.channel past.steps all n k ∙ ap (λ r. channel_run past.config past.channel r all k) is) e in
          omega (arith, x, f.room (n + k) (omega arith));
    }

-- what is known of the way of a channel from a cycle on, in which the first n messages arrive, to the next one with an
-- arrival
pub record Goes (past : Past) (inbox : List Message) (now until n end : ℕ) : Type 0 where
  pub at : length past.steps ≡ now
  pub fit : IsFitAfter past inbox now until
  pub span : now < until
  pub due : n ≡ due_count inbox now
  pub end_is : end ≡ first_arrival_or (drop n inbox) until
  pub carry : Each (CarriesRequest past.config past.channel) (past.mail ++ take n inbox)

-- the messages that a channel has not taken in on its way to the next arrival arrive later
goes-late : (past : Past) (inbox : List Message) (now until n end : ℕ) → Goes past inbox now until n end
    → Each (λ (m : Message). now + 1 ≤ m.arrival) (drop n inbox)
goes-late past inbox now until n end h =
    let at = h.at in
    subst (λ k. Each (λ (m : Message). now + 1 ≤ m.arrival) (drop k inbox)) (sym h.due)
    (Each-weaker (λ (m : Message). length past.steps + 1 ≤ m.arrival) (λ (m : Message). now + 1 ≤ m.arrival) (λ m l. omega arith) (drop (due_count inbox now) inbox)
    (fit-later past inbox now until at h.fit).1)

-- the first of them in the span
pub goes-end : (past : Past) (inbox : List Message) (now until n end : ℕ) → Goes past inbox now until n end
    → (now + 1 ≤ end) × (end ≤ until)
goes-end past inbox now until n end h =
    let span = h.span in
    subst (λ t. (now + 1 ≤ t) × (t ≤ until)) (sym h.end_is)
    (arrival-within (now + 1) until (drop n inbox) (omega arith)
    (in_span-from now (now + 1) until (drop n inbox) (goes-late past inbox now until n end h) (fit-taken past inbox now until n h.fit).in_span))

whole : (mail inbox : List Message) (n : ℕ) → mail ++ inbox ≡ (mail ++ take n inbox) ++ drop n inbox
whole mail inbox n = ap (λ x. mail ++ x) (sym (take-append-drop n inbox)) ∙ sym (append_assoc mail (take n inbox) (drop n inbox))

-- the steps of idle cycles before the next message, and what is fit after them
goes-idle : (past : Past) (inbox : List Message) (now until n end cycle : ℕ) → Goes past inbox now until n end
    → now ≤ cycle → cycle ≤ end → IsIdle past.config past.channel past.steps (past.mail ++ take n inbox) (cycle - length past.steps)
    → (steps_on past inbox (cycle - now) ≡ past.steps ++ replicate (cycle - length past.steps) None)
    × IsFit past.config past.channel (past.steps ++ replicate (cycle - length past.steps) None) (past.mail ++ take n inbox) (drop n inbox) cycle until
goes-idle past inbox now until n end cycle h from before idle =
    let at = h.at in
    let k = cycle - length past.steps in
    let there = past.mail ++ take n inbox in
    let rest = drop n inbox in
    let f = fit-taken past inbox now until n h.fit in
    let then : now + k ≡ cycle = omega arith in
    let much : cycle - now ≡ k = omega arith in
    let late : Each (λ (m : Message). cycle ≤ m.arrival) rest = arrive-from cycle until rest f.by_age (let e = h.end_is in omega arith) in
    let is : channel_run past.config past.channel past.steps (there ++ rest) k ≡ past.steps ++ replicate k None =
    idle-steps past.config past.channel past.steps there rest k h.carry f.requests (Each-weaker (λ (m : Message). cycle ≤ m.arrival) (λ (m : Message). length past.steps + k ≤ m.arrival) (λ m l. omega arith) rest late) idle in (
      ap₂ (λ m j. channel_run past.config past.channel past.steps m j) (whole past.mail inbox n) much ∙ is,
      subst (λ t. IsFit past.config past.channel (past.steps ++ replicate k None) there rest t until) then
          (idle-fit (past_of past.config past.channel past.steps there) rest now until k at f (Each-weaker (λ (m : Message). cycle ≤ m.arrival) (λ (m : Message). now + k ≤ m.arrival) (λ m l. omega arith) rest late) is),
    )

pub goes-some : (past : Past) (inbox : List Message) (now until n end : ℕ) → Goes past inbox now until n end → n ≤ length inbox
goes-some past inbox now until n end h = omega (arith, h.due, prefix_len-le-length (λ (m : Message). eqb m.arrival now) inbox)

-- what is left where nothing is issued before that
pub waits : (d : Channel) (past : Past) (inbox : List Message) (now until n end : ℕ) → Goes past inbox now until n end
    → IsIdle past.config past.channel past.steps (past.mail ++ take n inbox) (end - length past.steps) → StandsFor d past.config past.channel (past.steps ++ replicate (end - length past.steps) None) (past.mail ++ take n inbox)
    → HasRun d past inbox now (end - 1 + 1) until n [] []
waits d past inbox now until n end h idle stands =
    let within = goes-end past inbox now until n end h in
    let k = end - length past.steps in
    let last : end ≡ end - 1 + 1 = omega (arith, within.0) in
    let passed = goes-idle past inbox now until n end end h (omega (arith, within.0)) (omega arith) idle in
    subst (λ t. HasRun d past inbox now t until n [] []) last
    (record {
      stands = subst (λ r. StandsFor d past.config past.channel r (past.mail ++ take n inbox)) (sym passed.0) stands;
      fit = subst (λ r. IsFit past.config past.channel r (past.mail ++ take n inbox) (drop n inbox) end until) (sym passed.0) passed.1;
      some = goes-some past inbox now until n end h;
      commands_are = ap (issued_commands past.channel) passed.0 ∙ idle-issued past.channel past.steps k ∙ sym (append-nil (commands_after past));
      messages_are = ap (channel_messages past.config past.channel) passed.0 ∙ idle-messages past.config past.channel past.steps k ∙ sym (append-nil (channel_messages past.config past.channel past.steps));
    })

-- a command in a cycle in which nothing arrives
act-fit : (c : Channel) (past : Past) (inbox : List Message) (now until : ℕ) (command : Command) → IsInCycle c past → length past.steps ≡ now
    → IsFitAfter past inbox now until → Each (λ (m : Message). now + 1 ≤ m.arrival) inbox → Some command ≡ choice_after past
    → (choice past.config past.channel past.steps (past.mail ++ inbox) ≡ Some command) × IsFit past.config past.channel (past.steps ++ Some command ∷ []) past.mail inbox (now + 1) until
act-fit c past inbox now until command h at f late is =
    let n = due_count inbox now in
    let none : n ≡ 0 = none-due now inbox late in
    let same : past.mail ++ take n inbox ≡ past.mail = ap (λ k. past.mail ++ take k inbox) none ∙ append-nil past.mail in
    let q = c.queue in
    let left =
    fit-rest (waiting_requests q.log) q.drain_decided (activated_in q.log) c.stats past inbox now until at f
    (subst (λ m. HasArrivals (waiting_requests q.log) q.drain_decided (activated_in q.log) c.stats (past_of past.config past.channel past.steps m)) (sym same) h.joined) in
    let chosen : choice past.config past.channel past.steps (past.mail ++ take n inbox) ≡ Some command = ap (choice past.config past.channel past.steps) same ∙ sym is in (
      left.1 ∙ chosen,
      subst (λ o. IsFit past.config past.channel (past.steps ++ o ∷ []) past.mail inbox (now + 1) until) chosen
          (subst (λ m. IsFit past.config past.channel (past.steps ++ choice past.config past.channel past.steps (past.mail ++ take n inbox) ∷ []) m inbox (now + 1) until) same
          (subst (λ k. IsFit past.config past.channel (past.steps ++ choice past.config past.channel past.steps (past.mail ++ take n inbox) ∷ []) (past.mail ++ take n inbox) (drop k inbox) (now + 1) until) none left.0)),
    )

-- what is left where a command is issued in a cycle, and none before that
pub acts : (c d : Channel) (past : Past) (inbox : List Message) (now until n end cycle : ℕ) (command : Command) → Goes past inbox now until n end
    → IsNextIn (with_mail past (take n inbox)) end cycle command
    → IsInCycle c (past_of past.config past.channel (past.steps ++ replicate (cycle - length past.steps) None) (past.mail ++ take n inbox))
    → StandsFor d past.config past.channel ((past.steps ++ replicate (cycle - length past.steps) None) ++ Some command ∷ []) (past.mail ++ take n inbox)
    → HasRun d past inbox now (cycle + 1) until n (issued_now past.channel cycle (Some command)) (messages_at past.config past.channel cycle (Some command))
acts c d past inbox now until n end cycle command h i in_cycle stands =
    let at = h.at in
    let from = i.from_now in
    let before = i.before_end in
    let k = cycle - length past.steps in
    let o = Some command in
    let all = past.mail ++ inbox in
    let there = past.mail ++ take n inbox in
    let rest = drop n inbox in
    let then = past.steps ++ replicate k None in
    let passed = goes-idle past inbox now until n end cycle h (omega arith) (omega arith) i.idle in
    let len : length then ≡ cycle = omega (arith, length-idle past.steps k) in
    let f = fit-taken past inbox now until n h.fit in
    let act = act-fit c (past_of past.config past.channel then there) rest cycle until command in_cycle len passed.1 (arrive-from (cycle + 1) until rest f.by_age (let e = h.end_is in omega arith)) i.command_is in
    let next : cycle + 1 - now ≡ (cycle - now) + 1 = omega arith in
    let rows_are : channel_run past.config past.channel past.steps all (cycle + 1 - now) ≡ then ++ o ∷ [] =
    ap (channel_run past.config past.channel past.steps all) next
    ∙ channel_run-one past.config past.channel past.steps all (cycle - now)
    ∙ ap (λ r. r ++ choice past.config past.channel r all ∷ []) passed.0
    ∙ ap (λ x. then ++ x ∷ []) (ap (choice past.config past.channel then) (whole past.mail inbox n) ∙ act.0) in
    record {
      stands = subst (λ r. StandsFor d past.config past.channel r there) (sym rows_are) stands;
      fit = subst (λ r. IsFit past.config past.channel r there rest (cycle + 1) until) (sym rows_are) act.1;
      some = goes-some past inbox now until n end h;
      commands_are =
          ap (issued_commands past.channel) rows_are ∙ issued_commands-push past.channel then o
          ∙ ap₂ (λ x j. x ++ issued_now past.channel j o) (idle-issued past.channel past.steps k) len;
      messages_are =
          ap (channel_messages past.config past.channel) rows_are ∙ channel_messages-push past.config past.channel then o
          ∙ ap₂ (λ x j. x ++ messages_at past.config past.channel j o) (idle-messages past.config past.channel past.steps k) len;
    }

-- a channel that has taken in what arrives in a cycle is on its way to the next arrival
pub goes : (d : Channel) (past : Past) (inbox : List Message) (now until n end : ℕ) → IsInCycle d (with_mail past (take n inbox)) → length past.steps ≡ now
    → IsFitAfter past inbox now until → now < until → n ≡ length (take_while (λ (m : Message). eqb m.arrival now) inbox) → end ≡ first_arrival_or (rest_of inbox n) until
    → Goes past inbox now until n end
goes d past inbox now until n end h at f l e then =
    record {
      at = at;
      fit = f;
      span = l;
      due = e ∙ due_count-is inbox now;
      end_is = then ∙ ap (λ x. first_arrival_or x until) (take_rest inbox n);
      carry = h.joined.requests;
    }
