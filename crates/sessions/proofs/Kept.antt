-- What the channels of a memory keep, when one of them is changed or all have run.
use Rattle.std.proofs.Common.{◌≡◌, ℕ, ◌+◌, ◌<◌, ◌≤◌, Bool, true, false, eqb, List, [], ◌++◌, length, take, drop, get_or, Option, Some, None, Result, Ok, Err, refl, sym, ap, subst, ◌∙◌, arith}
use Rattle.std.specs.Prelude.{slice_set, option_map, OnOk, OnErr, if◌then◌else◌}
use Rattle.std.specs.Vec.{with_item}
use Rattle.std.proofs.lemmas.Bool.{ltb-false, eqb-true}
use Rattle.std.proofs.Math.ListN.{drop_of_length-le}
use Rattle.std.proofs.lemmas.List.{append-nil, take_all, get_or_default, get_or-set_same, get_or-set_other, length-set}
use Rattle.sim_base.specs.declared.config.Config.{Config}
use Rattle.sim_base.specs.declared.command.IssuedCommand.{IssuedCommand}
use Rattle.sim_base.specs.declared.message.Message.{Message}
use Rattle.sim_base.proofs.Lists.{cond-none}
use Rattle.sessions.specs.Sessions.{Past, IsSession, waiting_of, with_request, with_command, with_reply, refusal, end_refusal, IsAnswer}
use Rattle.sessions.specs.declared.channel_session.fault.SessionFault.{SessionFault}
use Rattle.sessions.specs.declared.channel_session.requests.SentRequest.{SentRequest}
use Rattle.sessions.specs.declared.channel_session.session.Session.{Session}
use Rattle.sessions.specs.Memories.{Pasts, IsChannelOf, IsMemory, IsOpenMemory, number_of, memory_refusal, with_past, with_request_of, with_command_of, with_reply_of, MayRun, HasRunTo}
use Rattle.sessions.specs.declared.memory_session.memory.MemorySession.{MemorySession}
use Rattle.sessions.proofs.Changed.{AreChannels, one-changed}
use Rattle.sessions.proofs.Earliest.{below-more}

-- the session of a channel
pub channel-at : (m : MemorySession) (pasts : Pasts) (number : ℕ) (other a : Session) → IsMemory m pasts → number < length m.sessions.items → a ≡ get_or m.sessions.items number other
    → IsChannelOf m.config m.cycle (pasts.past number) number a
channel-at m pasts number other a h l e = subst (IsChannelOf m.config m.cycle (pasts.past number) number) (sym e) (h.each number other l)

-- the session of a channel, from a list that is equal to that of the memory's sessions
pub channel-in : (m : MemorySession) (pasts : Pasts) (number : ℕ) (other a : Session) (items : List Session) → IsMemory m pasts → number < length m.sessions.items → items ≡ m.sessions.items
    → a ≡ get_or items number other → IsChannelOf m.config m.cycle (pasts.past number) number a
channel-in m pasts number other a items h l same e = channel-at m pasts number other a h l (e ∙ ap (λ (xs : List Session). get_or xs number other) same)

-- a memory with one session that is another one now
pub memory-with : (m : MemorySession) (pasts : Pasts) (number : ℕ) (new : Session) (p : Past) → IsMemory m pasts → number < length m.sessions.items → IsChannelOf m.config m.cycle p number new
    → IsMemory (record m { sessions = with_item m.sessions number new }) (with_past pasts number p)
memory-with m pasts number new p h l c =
    record {
      count_is = length-set m.sessions.items number new ∙ h.count_is;
      each = one-changed m.config m.cycle pasts m.sessions.items number new p l h.each c;
    }

same-past : (pasts : Pasts) (number k : ℕ) → (with_past pasts number (pasts.past number)).past k ≡ pasts.past k
same-past pasts number k = by (eqb k number) refl
  where
    by : (b : Bool) → eqb k number ≡ b → (if b then pasts.past number else pasts.past k) ≡ pasts.past k
    by true e = ap pasts.past (sym (eqb-true _ _ e))
    by false e = refl

-- where it has the past that it had
pub memory-left : (m : MemorySession) (pasts : Pasts) (number : ℕ) (new : Session) → IsMemory m pasts → number < length m.sessions.items → IsChannelOf m.config m.cycle (pasts.past number) number new
    → IsMemory (record m { sessions = with_item m.sessions number new }) pasts
memory-left m pasts number new h l c =
    let with = memory-with m pasts number new (pasts.past number) h l c in
    record {
      count_is = with.count_is;
      each = λ k other inside. subst (λ p. IsChannelOf m.config m.cycle p k (get_or (slice_set m.sessions.items number new) k other)) (same-past pasts number k) (with.each k other inside);
    }

-- why a request is refused, by the session of its channel
pub answer-of : (A : Type 0) (m : MemorySession) (pasts : Pasts) (number : ℕ) (other some a : Session) (r : SentRequest) (result : Result A SessionFault) → number ≡ number_of m.config r
    → number < length m.sessions.items → a ≡ get_or m.sessions.items number some → IsMemory m pasts
    → ((p : Past) → IsSession a p → IsAnswer {A = A} (refusal a (waiting_of p a.cycle) r) result) → IsAnswer {A = A} (memory_refusal m pasts other r) result
answer-of A m pasts number other some a r result at l e h answer =
    let c = channel-at m pasts number some a h l e in
    let p = pasts.past number in
    let same : a ≡ get_or m.sessions.items number other = e ∙ get_or_default m.sessions.items number some other l in
    let now : IsAnswer {A = A} (refusal a (waiting_of p m.cycle) r) result = subst (λ n. IsAnswer {A = A} (refusal a (waiting_of p n) r) result) c.cycle_is (answer p c.is_session) in
    let of : IsAnswer {A = A} (refusal (get_or m.sessions.items number other) (waiting_of p m.cycle) r) result =
    subst (λ (x : Session). IsAnswer {A = A} (refusal x (waiting_of p m.cycle) r) result) same now in
    subst (λ k. IsAnswer {A = A} (refusal (get_or m.sessions.items k other) (waiting_of (pasts.past k) m.cycle) r) result) at of

-- a request was sent
pub sent-to : (A : Type 0) (m : MemorySession) (pasts : Pasts) (number : ℕ) (some a new : Session) (r : SentRequest) (result : Result A SessionFault) → number ≡ number_of m.config r
    → number < length m.sessions.items → a ≡ get_or m.sessions.items number some → IsMemory m pasts → new.cycle ≡ a.cycle
    → ((p : Past) → IsSession a p → OnOk result (IsSession new (with_request p r)))
    → OnOk result (IsMemory (record m { sessions = with_item m.sessions number new }) (with_request_of m.config pasts r))
sent-to A m pasts number some a new r (Err e) at l is h stays sent = tt
sent-to A m pasts number some a new r (Ok x) at l is h stays sent =
    let c = channel-at m pasts number some a h l is in
    let p = pasts.past number in
    let there : IsChannelOf m.config m.cycle (with_request p r) number new =
    record {
      is_session = sent p c.is_session;
      cycle_is = stays ∙ c.cycle_is;
      config_is = c.config_is;
      number_is = c.number_is;
    } in
    subst (λ k. IsMemory (record m { sessions = with_item m.sessions number new }) (with_past pasts k (with_request (pasts.past k) r))) at
    (memory-with m pasts number new (with_request p r) h l there)

-- it was refused
pub left-at : (A : Type 0) (m : MemorySession) (pasts : Pasts) (number : ℕ) (some a new : Session) (result : Result A SessionFault)
    → number < length m.sessions.items → a ≡ get_or m.sessions.items number some → IsMemory m pasts → new.cycle ≡ a.cycle
    → ((p : Past) → IsSession a p → OnErr result (IsSession new p))
    → OnErr result (IsMemory (record m { sessions = with_item m.sessions number new }) pasts)
left-at A m pasts number some a new (Ok x) l is h stays left = tt
left-at A m pasts number some a new (Err e) l is h stays left =
    let c = channel-at m pasts number some a h l is in
    memory-left m pasts number new h l (record { is_session = left (pasts.past number) c.is_session; cycle_is = stays ∙ c.cycle_is; config_is = c.config_is; number_is = c.number_is })

-- each channel may run up to a cycle that is not refused
pub may-run : (m : MemorySession) (until : ℕ) → IsOpenMemory m → end_refusal m.cycle until ≡ None → (k : ℕ) (other : Session) → k < length m.sessions.items → MayRun until (get_or m.sessions.items k other)
may-run m until h e k other l =
    let c = h.is_memory.each k other l in
    let first = cond-none _ _ _ e in
    let second = cond-none _ _ _ first.1 in
    record {
      is_open = record { past = h.pasts.past k; is_session = c.is_session };
      span = let at = c.cycle_is in let early : m.cycle ≤ until = ltb-false _ _ first.0 in omega arith;
      in_time = ltb-false _ _ second.0;
    }

-- all have run
pub memory-ran : (m : MemorySession) (pasts : Pasts) (until : ℕ) (sessions : List Session) → IsMemory m pasts → length sessions ≡ length m.sessions.items
    → ((k : ℕ) (other : Session) → k < length m.sessions.items → HasRunTo until (get_or m.sessions.items k other) (get_or sessions k other)) → AreChannels m.config until pasts sessions
memory-ran m pasts until sessions h same ran k other l =
    let inside : k < length m.sessions.items = omega arith in
    let c = h.each k other inside in
    let r = ran k other inside in
    record { is_session = r.past (pasts.past k) c.is_session; cycle_is = r.now; config_is = c.config_is; number_is = c.number_is }

-- one channel more has run
pub ran-more : (until : ℕ) (before now : List Session) (index : ℕ) (new : Session) → index < length now
    → ((k : ℕ) (other : Session) → k < index → HasRunTo until (get_or before k other) (get_or now k other))
    → ((k : ℕ) (other : Session) → index ≤ k → get_or now k other ≡ get_or before k other)
    → ((other : Session) → HasRunTo until (get_or before index other) new)
    → (k : ℕ) (other : Session) → k < index + 1 → HasRunTo until (get_or before k other) (get_or (slice_set now index new) k other)
ran-more until before now index new l ran left last k other m =
    below-more (λ j. HasRunTo until (get_or before j other) (get_or (slice_set now index new) j other)) index
    (λ j b. subst (HasRunTo until (get_or before j other)) (sym (get_or-set_other now index j new other (λ e. let f : j ≡ index = e in omega arith))) (ran j other b))
    (subst (HasRunTo until (get_or before index other)) (sym (get_or-set_same now index new other l)) (last other)) k m

pub left-more : (before now : List Session) (index : ℕ) (new : Session)
    → ((k : ℕ) (other : Session) → index ≤ k → get_or now k other ≡ get_or before k other)
    → (k : ℕ) (other : Session) → index + 1 ≤ k → get_or (slice_set now index new) k other ≡ get_or before k other
left-more before now index new left k other l =
    get_or-set_other now index k new other (λ e. let f : k ≡ index = e in omega arith) ∙ left k other (omega arith)

-- a command was taken from a channel
pub command-taken : (m : MemorySession) (pasts : Pasts) (number : ℕ) (some a new : Session) (command : IssuedCommand) → number < length m.sessions.items → a ≡ get_or m.sessions.items number some
    → IsMemory m pasts → new.cycle ≡ a.cycle → ((p : Past) → IsSession a p → IsSession new (with_command p (Some command)))
    → IsMemory (record m { sessions = with_item m.sessions number new }) (with_command_of pasts (Some (number, command)))
command-taken m pasts number some a new command l is h stays taken =
    let c = channel-at m pasts number some a h l is in
    memory-with m pasts number new (with_command (pasts.past number) (Some command)) h l
    (record { is_session = taken (pasts.past number) c.is_session; cycle_is = stays ∙ c.cycle_is; config_is = c.config_is; number_is = c.number_is })

-- or a reply
pub reply-taken : (m : MemorySession) (pasts : Pasts) (number : ℕ) (some a new : Session) (reply : Message) → number < length m.sessions.items → a ≡ get_or m.sessions.items number some
    → IsMemory m pasts → new.cycle ≡ a.cycle → ((p : Past) → IsSession a p → IsSession new (with_reply p (Some reply)))
    → IsMemory (record m { sessions = with_item m.sessions number new }) (with_reply_of pasts (Some (number, reply)))
reply-taken m pasts number some a new reply l is h stays taken =
    let c = channel-at m pasts number some a h l is in
    memory-with m pasts number new (with_reply (pasts.past number) (Some reply)) h l
    (record { is_session = taken (pasts.past number) c.is_session; cycle_is = stays ∙ c.cycle_is; config_is = c.config_is; number_is = c.number_is })

-- or nothing
pub none-taken : (m : MemorySession) (pasts : Pasts) (number : ℕ) (some a new : Session) → number < length m.sessions.items → a ≡ get_or m.sessions.items number some
    → IsMemory m pasts → new.cycle ≡ a.cycle → ((p : Past) → IsSession a p → IsSession new p) → IsMemory (record m { sessions = with_item m.sessions number new }) pasts
none-taken m pasts number some a new l is h stays taken =
    let c = channel-at m pasts number some a h l is in
    memory-left m pasts number new h l
    (record { is_session = taken (pasts.past number) c.is_session; cycle_is = stays ∙ c.cycle_is; config_is = c.config_is; number_is = c.number_is })

-- what is next in a channel, at the cycle of the memory
pub next-now : {X Y : Type 0} (m : MemorySession) (pasts : Pasts) (number : ℕ) (some a : Session) (of : Past → ℕ → Option X) (f : X → Y) (o : Option X) → number < length m.sessions.items
    → a ≡ get_or m.sessions.items number some → IsMemory m pasts → ((p : Past) → IsSession a p → o ≡ of p a.cycle) → option_map f o ≡ option_map f (of (pasts.past number) m.cycle)
next-now m pasts number some a of f o l is h next =
    let c = channel-at m pasts number some a h l is in
    ap (option_map f) (next (pasts.past number) c.is_session ∙ ap (of (pasts.past number)) c.cycle_is)

-- a channel's number is one of 32 bits
pub few-channels : (m : MemorySession) (number : ℕ) → IsOpenMemory m → number < length m.sessions.items → number < 4294967296
few-channels m number h l = let c = h.is_memory.count_is in let few = m.config.machine_in_range.channels_in.0 in omega arith

-- one that is the same in all that it keeps
pub same-memory : (a b : MemorySession) (pasts : Pasts) → b.sessions.items ≡ a.sessions.items → b.config ≡ a.config → b.cycle ≡ a.cycle → IsMemory a pasts → IsMemory b pasts
same-memory a b pasts sessions config cycle h =
    record {
      count_is = ap length sessions ∙ h.count_is ∙ ap (λ (s : Config). s.channels) (sym config);
      each = subst (λ (xs : List Session). AreChannels b.config b.cycle pasts xs) (sym sessions)
          (subst (λ n. AreChannels b.config n pasts a.sessions.items) (sym cycle) (subst (λ s. AreChannels s a.cycle pasts a.sessions.items) (sym config) h.each));
    }

-- a list that was lent whole and came back as long as it was
pub lent-back : {X : Type 0} (len : ℕ) (items now : List X) → len ≡ length items → length now ≡ length items → take len (now ++ drop (length now) items) ≡ now
lent-back len items now is same =
    let none : drop (length now) items ≡ [] = drop_of_length-le items (let l : length items ≤ length now = omega arith in l) in
    ap (λ xs. take len (now ++ xs)) none ∙ ap (take len) (append-nil now) ∙ take_all len now (omega arith)

-- after a request was sent or refused, the channels have some pasts
pub sent-open : (A : Type 0) (b : MemorySession) (p q : Pasts) (result : Result A SessionFault) → OnOk result (IsMemory b q) → OnErr result (IsMemory b p) → IsOpenMemory b
sent-open A b p q (Ok x) sent left = record { pasts = q; is_memory = sent }
sent-open A b p q (Err e) sent left = record { pasts = p; is_memory = left }

-- and after a run that was done
pub ran-open : (A : Type 0) (b : MemorySession) (p : Pasts) (result : Result A SessionFault) → OnOk result (IsMemory b p) → OnOk result (IsOpenMemory b)
ran-open A b p (Ok x) done = record { pasts = p; is_memory = done }
ran-open A b p (Err e) done = tt
