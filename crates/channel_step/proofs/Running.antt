-- A channel over a span, from one cycle in which something happens to the next.
use Rattle.std.proofs.Common.{◌≡◌, ℕ, ◌+◌, ◌-◌, ◌<◌, ◌≤◌, List, [], ◌∷◌, ◌++◌, length, take, drop, Option, Some, None, refl, sym, ap, subst, ◌∙◌, arith}
use Rattle.std.specs.List.{AllByRecursion as Each}
use Rattle.std.proofs.Math.Seq.{take-add}
use Rattle.std.proofs.lemmas.List.{append-nil, append_assoc, take-append-drop, drop-drop, length-drop, take_rest}
use Rattle.sim_base.specs.declared.config.Config.{Config}
use Rattle.sim_base.specs.History.{issued_commands, channel_messages}
use Rattle.sim_base.specs.Machine.{channel_run}
use Rattle.sim_base.specs.declared.command.Command.{Command}
use Rattle.sim_base.specs.declared.command.IssuedCommand.{IssuedCommand}
use Rattle.sim_base.specs.declared.message.Message.{Message}
use Rattle.channel_step.specs.Past.{past_of, Past, commands_after}
use Rattle.channel_step.specs.Fit.{IsFit, IsFitAfter}
use Rattle.channel_step.specs.Channels.{StandsFor, HasPast}
use Rattle.channel_step.specs.Runs.{HasRun, HasAdvanced, CanRun, with_more, steps_on}
use Rattle.channel_step.specs.declared.channel.Channel.{Channel}
use Rattle.channel_step.proofs.Spans.{length-channel_run, channel_run-more}

pub run-length : (s : Config) (channel : ℕ) (steps : List (Option Command)) (mail : List Message) (from now : ℕ) → length steps ≡ from → from ≤ now
    → length (channel_run s channel steps mail (now - from)) ≡ now
run-length s channel steps mail from now at l = omega (arith, length-channel_run s channel steps mail (now - from))

-- no cycle is over yet
pub run-begins : (c : Channel) (past : Past) (inbox : List Message) (from until : ℕ) → HasPast c past
    → IsFitAfter past inbox from until → HasRun c past inbox from from until 0 [] []
unfolding channel_run
run-begins c past inbox from until h f =
    let none : from - from ≡ 0 = omega arith in
    let here : steps_on past inbox (from - from) ≡ past.steps = ap (steps_on past inbox) none in
    let before : past.mail ++ [] ≡ past.mail = append-nil past.mail in
    record {
      stands = subst (λ r. StandsFor c past.config past.channel r (past.mail ++ [])) (sym here) (subst (StandsFor c past.config past.channel past.steps) (sym before) h);
      fit = subst (λ r. IsFit past.config past.channel r (past.mail ++ []) inbox from until) (sym here) (subst (λ m. IsFit past.config past.channel past.steps m inbox from until) (sym before) f);
      some = omega arith;
      commands_are = ap (issued_commands past.channel) here ∙ sym (append-nil (commands_after past));
      messages_are = ap (channel_messages past.config past.channel) here ∙ sym (append-nil (channel_messages past.config past.channel past.steps));
    }

none_left : (until : ℕ) (ms : List Message) → Each (λ (m : Message). (until ≤ m.arrival) × (m.arrival < until)) ms → ms ≡ []
none_left until [] h = refl
none_left until (m ∷ ms) h = let a = h.0.0 in let b = h.0.1 in absurd (omega arith)

-- all cycles are over, and all messages have arrived
pub run-ends : (c : Channel) (past : Past) (inbox : List Message) (from until arrived : ℕ) (commands : List IssuedCommand) (messages : List Message)
    → HasRun c past inbox from until until arrived commands messages → StandsFor c past.config past.channel (steps_on past inbox (until - from)) (past.mail ++ inbox)
run-ends c past inbox from until arrived commands messages h =
    let rest : drop arrived inbox ≡ [] = none_left until (drop arrived inbox) h.fit.in_span in
    let all : take arrived inbox ≡ inbox = sym (append-nil (take arrived inbox)) ∙ ap (λ x. take arrived inbox ++ x) (sym rest) ∙ take-append-drop arrived inbox in
    subst (λ m. StandsFor c past.config past.channel (steps_on past inbox (until - from)) (past.mail ++ m)) all h.stands

-- the messages that are left
abbrev pub rest_of : List Message → ℕ → List Message
rest_of inbox arrived = take (length inbox - arrived) (drop arrived inbox)

-- what is left is fit for the next cycle
pub run-fit : (c : Channel) (past : Past) (inbox : List Message) (from now until arrived : ℕ) (commands : List IssuedCommand) (messages : List Message)
    → HasRun c past inbox from now until arrived commands messages
    → IsFit past.config past.channel (steps_on past inbox (now - from)) (past.mail ++ take arrived inbox) (rest_of inbox arrived) now until
run-fit c past inbox from now until arrived commands messages h =
    subst (λ i. IsFit past.config past.channel (steps_on past inbox (now - from)) (past.mail ++ take arrived inbox) i now until) (sym (take_rest inbox arrived)) h.fit

-- the channel may go on
pub run-can_go_on : (c : Channel) (past : Past) (inbox : List Message) (from now until arrived : ℕ) (commands : List IssuedCommand) (messages : List Message)
    → length past.steps ≡ from → from ≤ now → HasRun c past inbox from now until arrived commands messages → CanRun c (rest_of inbox arrived) now until
run-can_go_on c past inbox from now until arrived commands messages at l h =
    record {
      s = past.config;
      channel = past.channel;
      steps = steps_on past inbox (now - from);
      mail = past.mail ++ take arrived inbox;
      stands = h.stands;
      at = run-length past.config past.channel past.steps (past.mail ++ inbox) from now at l;
      fit = run-fit c past inbox from now until arrived commands messages h;
    }

-- when it has gone on, with what is added
pub run-turned : (c d : Channel) (past : Past) (inbox : List Message) (from now until arrived n last : ℕ)
    (commands more_commands : List IssuedCommand) (messages more_messages : List Message) → length past.steps ≡ from → from ≤ now → now ≤ last
    → HasRun c past inbox from now until arrived commands messages
    → HasAdvanced d (past_of past.config past.channel (steps_on past inbox (now - from)) (past.mail ++ take arrived inbox)) (rest_of inbox arrived) now (last + 1) until n
    (Some commands) (Some more_commands) messages more_messages
    → HasRun d past inbox from (last + 1) until (arrived + n) more_commands more_messages
run-turned c d past inbox from now until arrived n last commands more_commands messages more_messages at l m h turned =
    let k = turned.has_run in
    let all = past.mail ++ inbox in
    let there = past.mail ++ take arrived inbox in
    let before = channel_run past.config past.channel past.steps all (now - from) in
    let rest : rest_of inbox arrived ≡ drop arrived inbox = take_rest inbox arrived in
    let whole : there ++ rest_of inbox arrived ≡ all =
    append_assoc past.mail (take arrived inbox) (rest_of inbox arrived) ∙ ap (λ x. past.mail ++ (take arrived inbox ++ x)) rest ∙ ap (λ x. past.mail ++ x) (take-append-drop arrived inbox) in
    let then : last + 1 - from ≡ (now - from) + (last + 1 - now) = omega arith in
    let rows_are : channel_run past.config past.channel past.steps all (last + 1 - from) ≡ channel_run past.config past.channel before (there ++ rest_of inbox arrived) (last + 1 - now) =
    ap (channel_run past.config past.channel past.steps all) then ∙ channel_run-more past.config past.channel past.steps all (now - from) (last + 1 - now) ∙ ap (λ x. channel_run past.config past.channel before x (last + 1 - now)) (sym whole) in
    let arrived_are : past.mail ++ take (arrived + n) inbox ≡ there ++ take n (rest_of inbox arrived) =
    ap (λ x. past.mail ++ x) (take-add arrived n inbox) ∙ sym (append_assoc past.mail (take arrived inbox) (take n (drop arrived inbox))) ∙ ap (λ x. there ++ take n x) (sym rest) in
    let left : drop (arrived + n) inbox ≡ drop n (rest_of inbox arrived) = sym (drop-drop n arrived inbox) ∙ ap (drop n) (sym rest) in
    let some = k.some in
    let added : more_commands ≡ commands ++ turned.issued = let e = turned.commands_are in cc in
    record {
      stands = subst (λ r. StandsFor d past.config past.channel r (past.mail ++ take (arrived + n) inbox)) (sym rows_are)
          (subst (StandsFor d past.config past.channel (channel_run past.config past.channel before (there ++ rest_of inbox arrived) (last + 1 - now))) (sym arrived_are) k.stands);
      fit = subst (λ r. IsFit past.config past.channel r (past.mail ++ take (arrived + n) inbox) (drop (arrived + n) inbox) (last + 1) until) (sym rows_are)
          (subst (λ x. IsFit past.config past.channel (channel_run past.config past.channel before (there ++ rest_of inbox arrived) (last + 1 - now)) x (drop (arrived + n) inbox) (last + 1) until) (sym arrived_are)
          (subst (λ i. IsFit past.config past.channel (channel_run past.config past.channel before (there ++ rest_of inbox arrived) (last + 1 - now)) (there ++ take n (rest_of inbox arrived)) i (last + 1) until) (sym left) k.fit));
      some = omega (arith, h.some, ap length rest, length-drop arrived inbox);
      commands_are =
          ap (issued_commands past.channel) rows_are ∙ k.commands_are
          ∙ ap (λ x. x ++ turned.issued) h.commands_are
          ∙ append_assoc (commands_after past) commands turned.issued
          ∙ ap (λ x. commands_after past ++ x) (sym added);
      messages_are =
          ap (channel_messages past.config past.channel) rows_are ∙ k.messages_are
          ∙ ap (λ x. x ++ turned.sent) h.messages_are
          ∙ append_assoc (channel_messages past.config past.channel past.steps) messages turned.sent
          ∙ ap (λ x. channel_messages past.config past.channel past.steps ++ x) (sym turned.messages_are);
    }

-- nothing more
pub with_more-none : {A : Type 0} (kept : Option (List A)) → with_more kept [] ≡ kept
with_more-none None = refl
with_more-none (Some rows) = ap Some (append-nil rows)

-- more twice
with_more-more : {A : Type 0} (kept : Option (List A)) (more most : List A) → with_more (with_more kept more) most ≡ with_more kept (more ++ most)
with_more-more None more most = refl
with_more-more (Some rows) more most = ap Some (append_assoc rows more most)

-- no cycle is over yet, and nothing was added to the lists
pub turned-none : (c : Channel) (past : Past) (inbox : List Message) (from until : ℕ) (commands : Option (List IssuedCommand)) (messages : List Message)
    → HasPast c past → IsFitAfter past inbox from until → HasAdvanced c past inbox from from until 0 commands commands messages messages
turned-none c past inbox from until commands messages h f =
    record {
      issued = [];
      sent = [];
      has_run = run-begins c past inbox from until h f;
      commands_are = sym (with_more-none commands);
      messages_are = sym (append-nil messages);
    }

-- a run with one step of the loop more
pub turned-more : (c d : Channel) (past : Past) (inbox : List Message) (from now until arrived n last : ℕ)
    (commands more_commands most_commands : Option (List IssuedCommand)) (messages more_messages most_messages : List Message) → length past.steps ≡ from → from ≤ now → now ≤ last
    → HasAdvanced c past inbox from now until arrived commands more_commands messages more_messages
    → HasAdvanced d (past_of past.config past.channel (steps_on past inbox (now - from)) (past.mail ++ take arrived inbox)) (rest_of inbox arrived) now (last + 1) until n
    more_commands most_commands more_messages most_messages
    → HasAdvanced d past inbox from (last + 1) until (arrived + n) commands most_commands messages most_messages
turned-more c d past inbox from now until arrived n last commands more_commands most_commands messages more_messages most_messages at l m h turned =
    record {
      issued = h.issued ++ turned.issued;
      sent = h.sent ++ turned.sent;
      has_run = run-turned c d past inbox from now until arrived n last h.issued (h.issued ++ turned.issued) h.sent (h.sent ++ turned.sent) at l m h.has_run
          (record { issued = turned.issued; sent = turned.sent; has_run = turned.has_run; commands_are = refl; messages_are = refl });
      commands_are = turned.commands_are ∙ ap (λ x. with_more x turned.issued) h.commands_are ∙ with_more-more commands h.issued turned.issued;
      messages_are = turned.messages_are ∙ ap (λ x. x ++ turned.sent) h.messages_are ∙ append_assoc messages h.sent turned.sent;
    }
