-- Lists of messages that go on with later ones, what a channel of a run does, and that each message of a run goes to a
-- unit of the machine.
use Rattle.std.proofs.Common.{◌≡◌, ℕ, zero, suc, ◌<◌, ◌≤◌, List, [], ◌++◌, length, Option, Some, None, sym, ap, subst, ◌∙◌, append_assoc}
use Rattle.std.specs.Option.{IfSome}
use Rattle.std.specs.List.{AllByRecursion as Each}
use Rattle.std.proofs.lemmas.List.{append-nil, append_cancel_left}
use Rattle.sim_base.specs.declared.config.Config.{Config}
use Rattle.sim_base.specs.Places.{place_of}
use Rattle.sim_base.specs.MachineStep.{step_of_channel}
use Rattle.sim_base.specs.History.{inbox, request, request_of, reply, credit, messages_of, messages_at, messages, receiver}
use Rattle.sim_base.specs.Machine.{run, next_step}
use Rattle.sim_base.specs.Sends.{channel_sends}
use Rattle.sim_base.specs.declared.command.Command.{Command}
use Rattle.sim_base.specs.declared.command.Command.TheVariants.{Act, Rd, Wr, Pre, Prea, Ref}
use Rattle.sim_base.specs.declared.message.Message.{Message}
use Rattle.sim_base.specs.declared.message.Unit.TheVariants.{Channel}
use Rattle.sim_base.specs.declared.trace.Entry.{Entry}
use Rattle.sim_base.specs.declared.trace.Entry.TheVariants.{Plain, Read, Write}
use Rattle.sim_base.proofs.Added.{ServesCoreBelow}
use Rattle.sim_base.proofs.Arrived.{NotBefore}
use Rattle.sim_base.proofs.Each.{Each-append}
use Rattle.sim_base.proofs.Served.{choice-below, inbox-below}
use Rattle.sim_base.proofs.Spans.{step_of_channel-next}
use Rattle.units.specs.SpanLaws.Units.{Exists}
use Rattle.laws.specs.Commands.{channel_steps_of}
use Rattle.laws.proofs.Legal.{chosen}
use Rattle.laws.proofs.Receivers.{receiver_request, receiver_reply, receiver_credit, place_in}
use Rattle.laws.proofs.Sent.{Each-messages, issues-each, sends-each, messages-none}

-- what a channel does serves a core of the machine
pub chosen-below : (s : Config) (traces : List (List Entry)) (n channel : ℕ) → IfSome (chosen s traces n channel) (ServesCoreBelow s.cores)
chosen-below s traces n channel =
    choice-below s channel (channel_steps_of s traces n channel) (inbox s traces (run s traces n) (Channel channel)) (inbox-below s traces (run s traces n) (Channel channel))

-- a list is one with more, which arrives no sooner than a cycle
pub record GrowsLate (u : ℕ) (old all : List Message) : Type 0 where
  pub more : List Message
  pub is_more : all ≡ old ++ more
  pub late : NotBefore u more

pub grows-none : (u : ℕ) (old all : List Message) → all ≡ old → GrowsLate u old all
grows-none u old all e = record { more = []; is_more = e ∙ sym (append-nil old); late = tt }

pub grows-again : (u : ℕ) (old mid all next : List Message) → GrowsLate u old mid → all ≡ mid ++ next → NotBefore u next → GrowsLate u old all
grows-again u old mid all next g e h =
    record {
      more = g.more ++ next;
      is_more = e ∙ ap (λ x. x ++ next) g.is_more ∙ append_assoc old g.more next;
      late = Each-append (λ (m : Message). u ≤ m.arrival) g.more next g.late h;
    }

-- where a list has more at its end that arrives no sooner than a cycle, anything by which it grows to the same list
-- arrives no sooner
pub grows-late : (u : ℕ) (old all more : List Message) → GrowsLate u old all → all ≡ old ++ more → NotBefore u more
grows-late u old all more g e = subst (NotBefore u) (append_cancel_left old g.more more (sym g.is_more ∙ e)) g.late

-- a message goes to a unit of the machine
abbrev pub IsReceived : Config → Message → Type 0
IsReceived s m = Exists s (receiver s m.link)

request-received : (s : Config) (core cycle entry : ℕ) (e : Entry) → IfSome (request_of s core cycle entry e) (IsReceived s)
unfolding request
request-received s core cycle entry Plain = tt
request-received s core cycle entry (Read address) = subst (Exists s) (sym (receiver_request s core (place_of s address).channel (place_in s address))) (place_in s address)
request-received s core cycle entry (Write address) = subst (Exists s) (sym (receiver_request s core (place_of s address).channel (place_in s address))) (place_in s address)

command-received : (s : Config) (channel cycle : ℕ) → channel < s.channels → (o : Option Command) → IfSome o (ServesCoreBelow s.cores) → Each (IsReceived s) (messages_at s channel cycle o)
unfolding messages_of reply credit
command-received s channel cycle l None h = tt
command-received s channel cycle l (Some (Rd bank row column source)) h =
    (subst (Exists s) (sym (receiver_reply s source.core channel l)) h, (subst (Exists s) (sym (receiver_credit s source.core channel l)) h, tt))
command-received s channel cycle l (Some (Wr bank row column source)) h = (subst (Exists s) (sym (receiver_credit s source.core channel l)) h, tt)
command-received s channel cycle l (Some (Act bank row source)) h = tt
command-received s channel cycle l (Some (Pre bank source)) h = tt
command-received s channel cycle l (Some (Prea rank)) h = tt
command-received s channel cycle l (Some (Ref rank)) h = tt

-- each message of a run does
pub messages-received : (s : Config) (traces : List (List Entry)) (n : ℕ) → Each (IsReceived s) (messages s traces (run s traces n))
unfolding run channel_sends
messages-received s traces zero = subst (Each (IsReceived s)) (sym (messages-none s traces)) tt
messages-received s traces (suc n) =
    let history = run s traces n in
    let machine_step = next_step s traces history in
    Each-messages (IsReceived s) s traces history machine_step (messages-received s traces n)
    (sends-each (IsReceived s) s traces history machine_step
    (λ c l. issues-each (IsReceived s) s traces history c l (λ j e b f g. request-received s c (length history) _ e))
    (λ k l. command-received s k (length history) l (step_of_channel k machine_step) (subst (λ o. IfSome o (ServesCoreBelow s.cores)) (sym (step_of_channel-next s traces history k l)) (chosen-below s traces n k))))
