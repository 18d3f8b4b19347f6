-- What a session answers, by what it keeps.
use Rattle.std.proofs.Common.{◌≡◌, ℕ, ◌+◌, ◌≤◌, List, [], ◌∷◌, ◌++◌, length, take, drop, Option, Some, None, refl, sym, ap, ap₂, subst, ◌∙◌, arith}
use Rattle.std.specs.Prelude.{take_while, nat_lt, option_to_list, slice_get, Result, Ok, Err, IfErr, IfSome, OnOk, OnErr}
use Rattle.std.proofs.lemmas.Bool.{and_parts, ltb-false, leb-true, leb-false, eqb-true, not-false}
use Rattle.std.proofs.lemmas.List.{append_assoc, length-append, take-append-drop, drop-append-le}
use Rattle.std.proofs.lemmas.List.Folds.{length-prefix_len}
use Rattle.sim_base.proofs.Arrived.{NotBefore}
use Rattle.sim_base.specs.declared.config.Config.{Config}
use Rattle.sim_base.specs.History.{issued_commands, channel_messages}
use Rattle.sim_base.specs.Machine.{channel_run}
use Rattle.sim_base.specs.Scheduling.{queued_requests}
use Rattle.sim_base.specs.declared.command.IssuedCommand.{IssuedCommand}
use Rattle.sim_base.specs.declared.message.Message.{Message}
use Rattle.sim_base.proofs.Each.{Each-last}
use Rattle.sim_base.proofs.Lists.{cond-none}
use Rattle.statistics.specs.Channels.{channel_stats}
use Rattle.statistics.proofs.ChannelCounts.{channel_stats-later}
use Rattle.channel_step.specs.Channels.{StandsFor}
use Rattle.channel_step.specs.Fit.{ComeByAge}
use Rattle.channel_step.specs.Past.{CarriesRequest}
use Rattle.channel_step.specs.Runs.{with_more}
use Rattle.channel_step.proofs.Requests.{carries-stamped}
use Rattle.sessions.specs.Held.{commands_left, HasCommands}
use Rattle.sessions.specs.Keeps.{steps_of, waiting, Keeps}
use Rattle.sessions.specs.Sent.{message_of, firsts_with}
use Rattle.sessions.specs.Sessions.{Past, IsSession, IsOpen, next_command_of, next_reply_of, no_past, with_sent, with_command, with_reply, refusal, IsAnswer, HasTaken}
use Rattle.sessions.specs.declared.channel_session.fault.SessionFault.{SessionFault}
use Rattle.sessions.specs.declared.channel_session.fault.SessionFault.TheVariants.{Memory}
use Rattle.sessions.specs.declared.channel_session.held.HeldCommands.{HeldCommands}
use Rattle.sessions.specs.declared.channel_session.held.HeldReplies.{HeldReplies}
use Rattle.sessions.specs.declared.channel_session.requests.SentRequest.{SentRequest}
use Rattle.sessions.specs.declared.channel_session.session.Session.{Session}
use Rattle.sessions.proofs.Advancing.{IsCut, HasAdvanced, keeps-at, waits-arrived}
use Rattle.sessions.proofs.Lists.{due, due-early, due-late}
use Rattle.sessions.proofs.Sending.{MaySend, steps-late, sent-stamped, keeps-first, keeps-sent}

-- the statistics are those for all that was sent
pub stats-all : (session : Session) (p : Past) → (h : IsSession session p)
    → channel_stats p.config p.channel (steps_of p.config p.channel p.sent session.cycle) h.keeps.mail ≡ channel_stats p.config p.channel (steps_of p.config p.channel p.sent session.cycle) p.sent
stats-all session p h =
    let k = h.keeps in
    let steps = steps_of p.config p.channel p.sent session.cycle in
    sym (ap (channel_stats p.config p.channel steps) k.sent_is
    ∙ channel_stats-later p.config p.channel steps k.mail session.coming.items (carries-stamped p.config p.channel k.mail k.stands.recalls.past.requests)
    (carries-stamped p.config p.channel session.coming.items k.requests)
    (subst (λ t. NotBefore t session.coming.items) (sym (keeps-at p.config p.channel session.cycle p.sent)) k.late))

-- how many requests wait
pub waits-are : (session : Session) (p : Past) → (h : IsSession session p) → (waits : ℕ)
    → waits ≡ length (queued_requests (issued_commands p.channel (steps_of p.config p.channel p.sent session.cycle)) h.keeps.mail (length (steps_of p.config p.channel p.sent session.cycle)))
    → waits ≡ waiting p.config p.channel p.sent session.cycle
waits-are session p h waits e =
    let steps = steps_of p.config p.channel p.sent session.cycle in
    e
    ∙ ap (λ t. length (queued_requests (issued_commands p.channel steps) h.keeps.mail t)) (keeps-at p.config p.channel session.cycle p.sent)
    ∙ sym (waits-arrived session.channel p.config p.channel session.cycle session.firsts.items p.sent session.coming.items h.keeps)

-- a request that is not refused may be sent
may-send : (session : Session) (waits : ℕ) (r : SentRequest) → refusal session waits r ≡ None
    → MaySend session.config session.number session.cycle session.firsts.items waits session.coming.items r
may-send session waits r e =
    let a = cond-none _ _ _ e in
    let b = cond-none _ _ _ a.1 in
    let c = cond-none _ _ _ b.1 in
    let d = cond-none _ _ _ c.1 in
    let f = cond-none _ _ _ d.1 in
    let g = cond-none _ _ _ f.1 in
    let unasked = and_parts _ _ (and_parts _ _ (not-false _ f.0)).0 in
    record {
      core = leb-false _ _ a.0;
      place = eqb-true _ _ (not-false _ b.0);
      arrival = ltb-false _ _ c.0;
      last = not-false _ d.0;
      new = leb-true _ _ unasked.1;
      credit = leb-false _ _ g.0;
    }

-- a request that is refused
pub answer-refused : (A : Type 0) (a : Session) (p : Past) (waits : ℕ) (r : SentRequest) (fault : SessionFault) → waits ≡ waiting p.config p.channel p.sent a.cycle → Some fault ≡ refusal a waits r
    → IsAnswer {A = A} (refusal a (waiting p.config p.channel p.sent a.cycle) r) (Err fault)
answer-refused A a p waits r fault w e =
    subst (λ n. IsAnswer {A = A} (refusal a n r) (Err fault)) w (subst (λ (o : Option SessionFault). IsAnswer {A = A} o (Err fault)) e refl)

-- one that is not
pub answer-taken : (A : Type 0) (a : Session) (p : Past) (waits : ℕ) (r : SentRequest) (result : Result A SessionFault) → waits ≡ waiting p.config p.channel p.sent a.cycle → None ≡ refusal a waits r
    → IfErr result (λ e. e ≡ Memory) → IsAnswer {A = A} (refusal a (waiting p.config p.channel p.sent a.cycle) r) result
answer-taken A a p waits r result w e h =
    subst (λ n. IsAnswer {A = A} (refusal a n r) result) w (subst (λ (o : Option SessionFault). IsAnswer {A = A} o result) e h)

-- the steps so far are the same when one more is sent
same-steps : (a : Session) (p : Past) (m : Message) (firsts : List ℕ) → Keeps a.channel p.config p.channel a.cycle a.firsts.items p.sent a.coming.items
    → Keeps a.channel p.config p.channel a.cycle firsts (p.sent ++ m ∷ []) (a.coming.items ++ m ∷ []) → steps_of p.config p.channel (p.sent ++ m ∷ []) a.cycle ≡ steps_of p.config p.channel p.sent a.cycle
same-steps a p m firsts h k =
    steps-late p.config p.channel p.sent (m ∷ []) a.cycle (sent-stamped a.channel p.config p.channel a.cycle a.firsts.items p.sent a.coming.items h)
    (carries-stamped p.config p.channel (m ∷ []) (Each-last (CarriesRequest p.config p.channel) a.coming.items (m ∷ []) k.requests))
    (Each-last (λ (n : Message). a.cycle ≤ n.arrival) a.coming.items (m ∷ []) k.late)

-- a request that was not refused was sent
pub sent-session : (a b : Session) (p : Past) (waits : ℕ) (r : SentRequest) → IsSession a p → waits ≡ waiting p.config p.channel p.sent a.cycle → None ≡ refusal a waits r → HasTaken a b r
    → IsSession b (with_sent p (message_of p.config p.channel r))
sent-session a b p waits r h w e t =
    let m = message_of p.config p.channel r in
    let may : MaySend p.config p.channel a.cycle a.firsts.items (waiting p.config p.channel p.sent a.cycle) a.coming.items r =
    subst (λ n. MaySend p.config p.channel a.cycle a.firsts.items n a.coming.items r) w
    (subst (λ n. MaySend p.config n a.cycle a.firsts.items waits a.coming.items r) h.number_is
    (subst (λ s. MaySend s a.number a.cycle a.firsts.items waits a.coming.items r) h.config_is (may-send a waits r (sym e)))) in
    let kept = keeps-sent a.channel p.config p.channel a.cycle a.firsts.items p.sent a.coming.items r h.keeps may in
    let steps = same-steps a p m (firsts_with a.firsts.items r.core r.entry) h.keeps kept in
    let coming : b.coming.items ≡ a.coming.items ++ m ∷ [] = t.coming_are ∙ ap₂ (λ s n. a.coming.items ++ message_of s n r ∷ []) h.config_is h.number_is in
    let then : steps_of p.config p.channel (p.sent ++ m ∷ []) b.cycle ≡ steps_of p.config p.channel p.sent a.cycle = ap (steps_of p.config p.channel (p.sent ++ m ∷ [])) t.cycle_is ∙ steps in
    record {
      config_is = t.config_is ∙ h.config_is;
      number_is = t.number_is ∙ h.number_is;
      commands_are = ap (issued_commands p.channel) then ∙ h.commands_are ∙ ap (λ (x : HeldCommands). p.commands ++ commands_left x) (sym t.commands_are);
      replies_are = ap (channel_messages p.config p.channel) then ∙ h.replies_are ∙ ap (λ (x : HeldReplies). p.replies ++ x.all.items) (sym t.replies_are);
      has_commands = subst HasCommands (sym t.commands_are) h.has_commands;
      keeps = subst (λ c. Keeps c p.config p.channel b.cycle b.firsts.items (p.sent ++ m ∷ []) b.coming.items) (sym t.channel_is)
          (subst (λ n. Keeps a.channel p.config p.channel n b.firsts.items (p.sent ++ m ∷ []) b.coming.items) (sym t.cycle_is)
          (subst (λ f. Keeps a.channel p.config p.channel a.cycle f (p.sent ++ m ∷ []) b.coming.items) (sym t.firsts_are)
          (subst (λ x. Keeps a.channel p.config p.channel a.cycle (firsts_with a.firsts.items r.core r.entry) (p.sent ++ m ∷ []) x) (sym coming) kept)));
    }

pub taken-session : (A : Type 0) (a b : Session) (p : Past) (waits : ℕ) (r : SentRequest) (result : Result A SessionFault) → IsSession a p → waits ≡ waiting p.config p.channel p.sent a.cycle
    → None ≡ refusal a waits r → OnOk result (HasTaken a b r) → OnOk result (IsSession b (with_sent p (message_of p.config p.channel r)))
taken-session A a b p waits r (Ok x) h w e t = sent-session a b p waits r h w e t
taken-session A a b p waits r (Err f) h w e t = tt

pub taken-open : (A : Type 0) (a b : Session) (p : Past) (waits : ℕ) (r : SentRequest) (result : Result A SessionFault) → IsSession a p → waits ≡ waiting p.config p.channel p.sent a.cycle
    → None ≡ refusal a waits r → OnOk result (HasTaken a b r) → OnErr result (IsSession b p) → IsOpen b
taken-open A a b p waits r (Ok x) h w e t left = record { past = with_sent p (message_of p.config p.channel r); is_session = sent-session a b p waits r h w e t }
taken-open A a b p waits r (Err f) h w e t left = record { past = p; is_session = left }

-- what is on its way is cut at a cycle
pub cut-at : (until : ℕ) (coming : List Message) (count : ℕ) → ComeByAge coming → count ≡ length (take_while (λ (m : Message). nat_lt m.arrival until) coming)
    → IsCut coming (take count coming) (drop count coming) until
cut-at until coming count h e =
    let at : due until coming ≡ count = sym (e ∙ length-prefix_len (λ (m : Message). nat_lt m.arrival until) coming) in
    subst (λ n. IsCut coming (take n coming) (drop n coming) until) at
    (record { both = sym (take-append-drop (due until coming) coming); early = due-early until coming; late = due-late until coming h })

-- what a run changes
pub record Ran (a b : Session) (until : ℕ) (rest : List Message) (commands : List IssuedCommand) (replies : List Message) : Type 0 where
  pub config_is : b.config ≡ a.config
  pub number_is : b.number ≡ a.number
  pub cycle_is : b.cycle ≡ until
  pub firsts_are : b.firsts.items ≡ a.firsts.items
  pub coming_are : b.coming.items ≡ rest
  pub commands_are : commands_left b.commands ≡ commands_left a.commands ++ commands
  pub replies_are : b.replies.all.items ≡ a.replies.all.items ++ replies
  pub has_commands : HasCommands b.commands

pub ran-session : (a b : Session) (p : Past) (until : ℕ) (rest : List Message) (commands : List IssuedCommand) (replies : List Message) → IsSession a p → Ran a b until rest commands replies
    → HasAdvanced b.channel p.config p.channel a.cycle a.firsts.items p.sent rest until commands replies → IsSession b p
ran-session a b p until rest commands replies h r g =
    record {
      config_is = r.config_is ∙ h.config_is;
      number_is = r.number_is ∙ h.number_is;
      commands_are = ap (λ n. issued_commands p.channel (steps_of p.config p.channel p.sent n)) r.cycle_is ∙ g.commands_are ∙ ap (λ x. x ++ commands) h.commands_are
          ∙ append_assoc p.commands (commands_left a.commands) commands ∙ ap (λ x. p.commands ++ x) (sym r.commands_are);
      replies_are = ap (λ n. channel_messages p.config p.channel (steps_of p.config p.channel p.sent n)) r.cycle_is ∙ g.replies_are ∙ ap (λ x. x ++ replies) h.replies_are
          ∙ append_assoc p.replies a.replies.all.items replies ∙ ap (λ x. p.replies ++ x) (sym r.replies_are);
      has_commands = r.has_commands;
      keeps = subst (λ n. Keeps b.channel p.config p.channel n b.firsts.items p.sent b.coming.items) (sym r.cycle_is)
          (subst (λ f. Keeps b.channel p.config p.channel until f p.sent b.coming.items) (sym r.firsts_are)
          (subst (λ x. Keeps b.channel p.config p.channel until a.firsts.items p.sent x) (sym r.coming_are) g.keeps));
    }

-- what is put behind a list, of which some were taken, stands behind what is left
left-behind : {X : Type 0} (taken : ℕ) (before after left more : List X) → taken ≤ length before → after ≡ before ++ more → drop taken before ≡ left → drop taken after ≡ left ++ more
left-behind taken before after left more l is was = ap (drop taken) is ∙ drop-append-le taken before more l ∙ ap (λ x. x ++ more) was

still-within : {X : Type 0} (taken : ℕ) (before after more : List X) → taken ≤ length before → after ≡ before ++ more → taken ≤ length after
still-within taken before after more l is = let e : length after ≡ length before + length more = ap length is ∙ length-append before more in omega arith

-- a list that was handed out and taken back, with more behind it
pub given-back : (old new : HeldCommands) (lent after : Option (List IssuedCommand)) (left more : List IssuedCommand)
    → lent ≡ Some old.all → after ≡ with_more lent more → IfSome after (λ all. new.all ≡ all) → new.taken ≡ old.taken → HasCommands old → commands_left old ≡ left
    → (commands_left new ≡ left ++ more) × HasCommands new
given-back old new lent after left more out behind back taken within was =
    let whole : after ≡ Some (old.all ++ more) = behind ∙ ap (λ x. with_more x more) out in
    let all : new.all ≡ old.all ++ more = subst (λ x. IfSome x (λ all. new.all ≡ all)) whole back in (
      ap (λ n. drop n new.all) taken ∙ left-behind old.taken old.all new.all left more within all was,
      subst (λ n. n ≤ length new.all) (sym taken) (still-within old.taken old.all new.all more within all),
    )

no-commands : (s : Config) (channel : ℕ) → issued_commands channel (steps_of s channel [] 0) ≡ []
unfolding channel_run issued_commands
no-commands s channel = refl

no-replies : (s : Config) (channel : ℕ) → channel_messages s channel (steps_of s channel [] 0) ≡ []
unfolding channel_run channel_messages
no-replies s channel = refl

-- what a session begins with
pub record Begins (a : Session) (s : Config) (channel : ℕ) : Type 0 where
  pub config_is : a.config ≡ s
  pub number_is : a.number ≡ channel
  pub cycle_is : a.cycle ≡ 0
  pub cores : length a.firsts.items ≡ s.cores
  pub stands : StandsFor a.channel s channel [] []
  pub coming_are : a.coming.items ≡ []
  pub commands_are : commands_left a.commands ≡ []
  pub replies_are : a.replies.all.items ≡ []
  pub has_commands : HasCommands a.commands

pub first-session : (a : Session) (s : Config) (channel : ℕ) → Begins a s channel → IsSession a (no_past s channel)
first-session a s channel h =
    record {
      config_is = h.config_is;
      number_is = h.number_is;
      commands_are = ap (λ n. issued_commands channel (steps_of s channel [] n)) h.cycle_is ∙ no-commands s channel ∙ sym h.commands_are;
      replies_are = ap (λ n. channel_messages s channel (steps_of s channel [] n)) h.cycle_is ∙ no-replies s channel ∙ sym h.replies_are;
      has_commands = h.has_commands;
      keeps = subst (λ n. Keeps a.channel s channel n a.firsts.items [] a.coming.items) (sym h.cycle_is)
          (subst (λ x. Keeps a.channel s channel 0 a.firsts.items [] x) (sym h.coming_are) (keeps-first a.channel s channel a.firsts.items h.stands h.cores));
    }

-- what stands behind a list is the first of the rest
get-behind : {X : Type 0} (front left : List X) → slice_get (front ++ left) (length front) ≡ slice_get left 0
get-behind [] left = refl
get-behind (x ∷ front) left = get-behind front left

-- the first command that a session holds is the next one that was not taken
pub held-command : (a : Session) (p : Past) (o : Option IssuedCommand) → IsSession a p → o ≡ slice_get (commands_left a.commands) 0 → o ≡ next_command_of p a.cycle
held-command a p o h first =
    first ∙ sym (get-behind p.commands (commands_left a.commands)) ∙ ap (λ (cs : List IssuedCommand). slice_get cs (length p.commands)) (sym h.commands_are)

-- the first reply that a session holds is the next one that was not taken
pub held-reply : (a : Session) (p : Past) (o : Option Message) → IsSession a p → o ≡ slice_get a.replies.all.items 0 → o ≡ next_reply_of p a.cycle
held-reply a p o h first =
    first ∙ sym (get-behind p.replies a.replies.all.items) ∙ ap (λ (ms : List Message). slice_get ms (length p.replies)) (sym h.replies_are)

-- a command was taken from those that a session holds, if it is one
pub command-gone : (a : Session) (left : HeldCommands) (p : Past) (o : Option IssuedCommand) → IsSession a p → commands_left a.commands ≡ option_to_list o ++ commands_left left
    → HasCommands left → IsSession (record a { commands = left }) (with_command p o)
command-gone a left p (Some command) h front has = record {
  config_is = h.config_is;
  number_is = h.number_is;
  commands_are = h.commands_are ∙ ap (λ cs. p.commands ++ cs) front ∙ sym (append_assoc p.commands (command ∷ []) (commands_left left));
  replies_are = h.replies_are;
  has_commands = has;
  keeps = h.keeps;
}
command-gone a left p None h front has = record {
  config_is = h.config_is;
  number_is = h.number_is;
  commands_are = h.commands_are ∙ ap (λ cs. p.commands ++ cs) front;
  replies_are = h.replies_are;
  has_commands = has;
  keeps = h.keeps;
}

-- a reply, if there is one, was taken from those that a session holds
pub reply-gone : (a : Session) (left : HeldReplies) (p : Past) (o : Option Message) → IsSession a p → a.replies.all.items ≡ option_to_list o ++ left.all.items
    → IsSession (record a { replies = left }) (with_reply p o)
reply-gone a left p (Some reply) h front = record {
  config_is = h.config_is;
  number_is = h.number_is;
  commands_are = h.commands_are;
  replies_are = h.replies_are ∙ ap (λ ms. p.replies ++ ms) front ∙ sym (append_assoc p.replies (reply ∷ []) left.all.items);
  has_commands = h.has_commands;
  keeps = h.keeps;
}
reply-gone a left p None h front = record {
  config_is = h.config_is;
  number_is = h.number_is;
  commands_are = h.commands_are;
  replies_are = h.replies_are ∙ ap (λ ms. p.replies ++ ms) front;
  has_commands = h.has_commands;
  keeps = h.keeps;
}
