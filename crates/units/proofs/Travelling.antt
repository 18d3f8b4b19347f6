-- What units send from a cycle of a run on.
use Rattle.std.proofs.Common.{◌≡◌, ℕ, zero, suc, ◌+◌, ◌-◌, ◌<◌, ◌≤◌, List, [], ◌∷◌, ◌++◌, length, Option, sym, ap, subst, ◌∙◌, append_assoc, append-nil, add-zero, arith}
use Rattle.std.specs.Option.{IfSome}
use Rattle.std.specs.List.{AllByRecursion as Each}
use Rattle.std.proofs.lemmas.List.{map-append}
use Rattle.sim_base.specs.declared.config.Config.{Config}
use Rattle.std.specs.Prelude.{filter}
use Rattle.sim_base.specs.Counts.{is_in_flight, in_flight}
use Rattle.sim_base.specs.History.{trace_of, steps_of_core, steps_of_channel, core_messages, requests_in, channel_messages, messages_at, messages_of_core, messages_of_channel, by_age}
use Rattle.sim_base.specs.Locality.{TravelsFor}
use Rattle.sim_base.specs.Machine.{run, next_step}
use Rattle.sim_base.specs.MachineStep.{MachineStep, step_of_core, step_of_channel}
use Rattle.sim_base.specs.declared.command.Command.{Command}
use Rattle.sim_base.specs.declared.history.CoreStep.{CoreStep}
use Rattle.sim_base.specs.declared.message.Message.{Message}
use Rattle.sim_base.specs.declared.message.Unit.TheVariants as unit
use Rattle.sim_base.specs.declared.message.Unit.{Unit as MachineUnit}
use Rattle.sim_base.specs.declared.trace.Entry.{Entry}
use Rattle.sim_base.proofs.Added.{core_messages-push, channel_messages-push, requests_late, channel_late, ServesCoreBelow}
use Rattle.sim_base.proofs.Each.{Each-append}
use Rattle.sim_base.proofs.Served.{choice-below, inbox-below}
use Rattle.sim_base.proofs.Spans.{length_run, step_of_channel-next, run-next}
use Rattle.sim_base.proofs.Grows.{has_channels}
use Rattle.statistics.proofs.Replies.{length-steps_of_core}
use Rattle.laws.proofs.Legal.{length-channel_steps_of}
use Rattle.laws.proofs.Sent.{messages-none}
use Rattle.units.specs.SpanLaws.Units.{Exists, sent_of}

-- what was sent more, and holds of each
pub record Added (P : Message → Type 0) (old new : List Message) : Type 0 where
  pub more : List Message
  pub are : new ≡ old ++ more
  pub each : Each P more

added-none : (P : Message → Type 0) (ms : List Message) → Added P ms ms
added-none P ms = record { more = []; are = sym (append-nil ms); each = tt }

added-then : (P : Message → Type 0) (a b c xs : List Message) → Added P a b → c ≡ b ++ xs → Each P xs → Added P a c
added-then P a b c xs h e k =
    record {
      more = h.more ++ xs;
      are = e ∙ ap (λ z. z ++ xs) h.are ∙ append_assoc a h.more xs;
      each = Each-append P h.more xs h.each k;
    }

-- a command is in the name of a core of the machine
serves : (s : Config) (traces : List (List Entry)) (n channel : ℕ) → channel < s.channels
    → IfSome (step_of_channel channel (next_step s traces (run s traces n))) (ServesCoreBelow s.cores)
serves s traces n channel l =
    let history = run s traces n in
    subst (λ o. IfSome o (ServesCoreBelow s.cores)) (sym (step_of_channel-next s traces history channel l))
    (choice-below s channel (steps_of_channel channel history) _ (inbox-below s traces history (unit.Channel channel)))

core-pushed : (s : Config) (traces : List (List Entry)) (core : ℕ) (history : List MachineStep) (machine_step : MachineStep) → messages_of_core s traces (history ++ machine_step ∷ []) core
    ≡ messages_of_core s traces history core ++ requests_in s core (trace_of traces core) (steps_of_core core history ++ step_of_core core machine_step ∷ []) (length (steps_of_core core history))
unfolding messages_of_core steps_of_core
core-pushed s traces core history machine_step =
    ap (core_messages s core (trace_of traces core)) (map-append (step_of_core core) history (machine_step ∷ []))
    ∙ core_messages-push s core (trace_of traces core) (steps_of_core core history) (step_of_core core machine_step)

pub core-added : (s : Config) (traces : List (List Entry)) (P : Message → Type 0) (from core : ℕ)
    → ((rows : List CoreStep) (cycle : ℕ) → from ≤ cycle → Each P (requests_in s core (trace_of traces core) rows cycle))
    → (m : ℕ) → Added P (messages_of_core s traces (run s traces from) core) (messages_of_core s traces (run s traces (from + m)) core)
core-added s traces P from core h zero =
    subst (λ i. Added P (messages_of_core s traces (run s traces from) core) (messages_of_core s traces (run s traces i) core)) (sym (add-zero from)) (added-none P _)
core-added s traces P from core h (suc m) =
    let history = run s traces (from + m) in
    let machine_step = next_step s traces history in
    let rows = steps_of_core core history in
    let e : length rows ≡ from + m = length-steps_of_core core history ∙ length_run s traces (from + m) in
    added-then P _ _ _ (requests_in s core (trace_of traces core) (rows ++ step_of_core core machine_step ∷ []) (length rows)) (core-added s traces P from core h m)
    (ap (λ x. messages_of_core s traces x core) (run-next s traces from m) ∙ core-pushed s traces core history machine_step)
    (h (rows ++ step_of_core core machine_step ∷ []) (length rows) (omega (arith, e)))

channel-pushed : (s : Config) (channel : ℕ) (history : List MachineStep) (machine_step : MachineStep) → messages_of_channel s (history ++ machine_step ∷ []) channel
    ≡ messages_of_channel s history channel ++ messages_at s channel (length (steps_of_channel channel history)) (step_of_channel channel machine_step)
unfolding messages_of_channel steps_of_channel
channel-pushed s channel history machine_step =
    ap (channel_messages s channel) (map-append (step_of_channel channel) history (machine_step ∷ []))
    ∙ channel_messages-push s channel (steps_of_channel channel history) (step_of_channel channel machine_step)

pub channel-added : (s : Config) (traces : List (List Entry)) (P : Message → Type 0) (from channel : ℕ) → channel < s.channels
    → ((cycle : ℕ) (o : Option Command) → from ≤ cycle → IfSome o (ServesCoreBelow s.cores) → Each P (messages_at s channel cycle o))
    → (m : ℕ) → Added P (messages_of_channel s (run s traces from) channel) (messages_of_channel s (run s traces (from + m)) channel)
channel-added s traces P from channel l h zero =
    subst (λ i. Added P (messages_of_channel s (run s traces from) channel) (messages_of_channel s (run s traces i) channel)) (sym (add-zero from)) (added-none P _)
channel-added s traces P from channel l h (suc m) =
    let history = run s traces (from + m) in
    let machine_step = next_step s traces history in
    let steps = steps_of_channel channel history in
    let e : length steps ≡ from + m = length-channel_steps_of s traces (from + m) channel in
    added-then P _ _ _ (messages_at s channel (length steps) (step_of_channel channel machine_step)) (channel-added s traces P from channel l h m)
    (ap (λ x. messages_of_channel s x channel) (run-next s traces from m) ∙ channel-pushed s channel history machine_step)
    (h (length steps) (step_of_channel channel machine_step) (omega (arith, e)) (serves s traces (from + m) channel l))

-- what a unit sends in a span that is no longer than each message travels arrives after it
pub late-added : (s : Config) (traces : List (List Entry)) (from until : ℕ) (u : MachineUnit) → Exists s u → from ≤ until → TravelsFor s (until - from)
    → Added (λ m. until ≤ m.arrival) (sent_of s traces from u) (sent_of s traces until u)
late-added s traces from until (unit.Core core) l k t =
    let e : from + (until - from) ≡ until = omega arith in
    subst (λ i. Added (λ m. until ≤ m.arrival) (messages_of_core s traces (run s traces from) core) (messages_of_core s traces (run s traces i) core)) e
    (core-added s traces (λ m. until ≤ m.arrival) from core (λ rows cycle h. requests_late s core (trace_of traces core) rows cycle (until - from) until l (has_channels s) t (omega arith)) (until - from))
late-added s traces from until (unit.Channel channel) l k t =
    let e : from + (until - from) ≡ until = omega arith in
    subst (λ i. Added (λ m. until ≤ m.arrival) (messages_of_channel s (run s traces from) channel) (messages_of_channel s (run s traces i) channel)) e
    (channel-added s traces (λ m. until ≤ m.arrival) from channel l (λ cycle o h c. channel_late s channel cycle (until - from) until l t (omega arith) o c) (until - from))

pub none_in_flight : (s : Config) (traces : List (List Entry)) → in_flight s traces (run s traces 0) ≡ []
unfolding run in_flight by_age
none_in_flight s traces = ap (λ ms. by_age (filter (is_in_flight []) ms)) (messages-none s traces)
