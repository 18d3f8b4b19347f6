-- The requests of a run come from its traces.
use Rattle.std.proofs.Common.{◌≡◌, ℕ, zero, suc, ◌+◌, ◌<◌, ◌≤◌, true, false, eqb, ltb, List, [], ◌∷◌, ◌++◌, length, Option, Some, None, refl, sym, ap, subst, ◌∙◌, arith}
use Rattle.std.specs.Prelude.{filter_map, slice_get, not}
use Rattle.std.specs.Option.{IfSome}
use Rattle.std.specs.List.{AllByRecursion as Each, Contains}
use Rattle.std.proofs.lemmas.Bool.{cond_both, and_parts, eqb-true, ltb-true, not-true}
use Rattle.std.proofs.Math.Seq.{take-length}
use Rattle.std.proofs.lemmas.List.{map-append}
use Rattle.std.proofs.lemmas.List.Elements.{All-contains_itself, recursion_from_All}
use Rattle.sim_base.specs.declared.message.Access.{Access}
use Rattle.sim_base.specs.declared.message.Access.TheVariants as access
use Rattle.sim_base.specs.declared.config.Config.{Config}
use Rattle.sim_base.specs.Config.{request_link}
use Rattle.sim_base.specs.Places.{place_of}
use Rattle.sim_base.specs.MachineStep.{MachineStep, step_of_core, step_of_channel}
use Rattle.sim_base.specs.History.{trace_of, steps_of_core, issued_before, request, request_of, reply, credit, messages, receiver, is_unit, is_to, inbox, issued_commands}
use Rattle.sim_base.specs.Sends.{sends, channel_sends}
use Rattle.sim_base.specs.Scheduling.{request_in, is_served, is_queued, queued_requests, queue_in, source_of, needed_at, column_command}
use Rattle.sim_base.specs.Machine.{next_step, run}
use Rattle.sim_base.specs.declared.command.Command.{Command}
use Rattle.sim_base.specs.declared.command.Command.TheVariants.{Act, Rd, Wr, Pre, Prea, Ref}
use Rattle.sim_base.specs.declared.place.Place.{Place}
use Rattle.sim_base.specs.declared.message.Message.{Message}
use Rattle.sim_base.specs.declared.message.Request.{Request}
use Rattle.sim_base.specs.declared.message.Unit.TheVariants.{Channel}
use Rattle.sim_base.specs.declared.trace.Entry.{Entry}
use Rattle.sim_base.specs.declared.trace.Entry.TheVariants.{Plain, Read, Write}
use Rattle.sim_base.proofs.Arrived.{Each-by_age}
use Rattle.sim_base.proofs.Each.{Each-both, Each-filter_map}
use Rattle.sim_base.proofs.Grows.{issued_before-push}
use Rattle.sim_base.proofs.Ordered.{Each-weaker}
use Rattle.sim_base.proofs.Accesses.{column_both}
use Rattle.laws.specs.Messages.{memory_entry}
use Rattle.laws.specs.Commands.{channel_steps_of, history_of}
use Rattle.laws.proofs.Chosen.{choice-needed}
use Rattle.laws.proofs.Legal.{chosen, length-channel_steps_of}
use Rattle.laws.proofs.Receivers.{receiver_request, place_in, Each-filter_passes}
use Rattle.laws.proofs.Sent.{Each-messages, messages-none, issues-each, commands-each, sends-each}
use Rattle.std.proofs.lemmas.Option.{IfSome_then}

-- a request is that of an entry which its core has issued
pub record Traced (s : Config) (traces : List (List Entry)) (history : List MachineStep) (r : Request) : Type 0 where
  pub core : r.core < s.cores
  pub entry : slice_get (trace_of traces r.core) r.entry ≡ Some (memory_entry r.access r.address)
  pub place : r.place ≡ place_of s r.address
  pub issued : r.entry < issued_before (steps_of_core r.core history)

-- the request of a message is traced, and travels on its link
pub record TracedIn (s : Config) (traces : List (List Entry)) (history : List MachineStep) (m : Message) (r : Request) : Type 0 where
  pub traced : Traced s traces history r
  pub link : m.link ≡ request_link s r.core r.place.channel

abbrev pub IsTraced : Config → List (List Entry) → List MachineStep → Message → Type 0
IsTraced s traces history m = IfSome (request_in m.payload) (TracedIn s traces history m)

-- entries issued stay issued
issued-more : (history : List MachineStep) (machine_step : MachineStep) (c : ℕ) → issued_before (steps_of_core c (history ++ machine_step ∷ [])) ≡ issued_before (steps_of_core c history) + (step_of_core c machine_step).issued
unfolding steps_of_core
issued-more history machine_step c = ap issued_before (map-append (step_of_core c) history (machine_step ∷ [])) ∙ issued_before-push (steps_of_core c history) (step_of_core c machine_step)

traced-more : (s : Config) (traces : List (List Entry)) (history : List MachineStep) (machine_step : MachineStep) (m : Message) → IsTraced s traces history m → IsTraced s traces (history ++ machine_step ∷ []) m
traced-more s traces history machine_step m h = IfSome_then (request_in m.payload) h (λ r k. more r k)
  where
    more : (r : Request) → TracedIn s traces history m r → TracedIn s traces (history ++ machine_step ∷ []) m r
    more r k =
        let e = issued-more history machine_step r.core in
        let i = k.traced.issued in
        record {
          traced = record { core = k.traced.core; entry = k.traced.entry; place = k.traced.place; issued = omega arith };
          link = k.link;
        }

request-traced : (s : Config) (traces : List (List Entry)) (history : List MachineStep) (c cycle entry : ℕ) (access : Access) (address : ℕ) → c < s.cores
    → entry < issued_before (steps_of_core c history) → slice_get (trace_of traces c) entry ≡ Some (memory_entry access address) → IsTraced s traces history (request s c cycle entry access address)
unfolding request
request-traced s traces history c cycle entry access address l i e = record { traced = record { core = l; entry = e; place = refl; issued = i }; link = refl }

request_of-traced : (s : Config) (traces : List (List Entry)) (history : List MachineStep) (c cycle entry : ℕ) (e : Entry) → c < s.cores
    → entry < issued_before (steps_of_core c history) → slice_get (trace_of traces c) entry ≡ Some e → IfSome (request_of s c cycle entry e) (IsTraced s traces history)
request_of-traced s traces history c cycle entry Plain l i f = tt
request_of-traced s traces history c cycle entry (Read address) l i f = request-traced s traces history c cycle entry access.Read address l i f
request_of-traced s traces history c cycle entry (Write address) l i f = request-traced s traces history c cycle entry access.Write address l i f

sends-traced : (s : Config) (traces : List (List Entry)) (history : List MachineStep) → Each (IsTraced s traces (history ++ next_step s traces history ∷ [])) (sends s traces history (next_step s traces history))
unfolding channel_sends reply credit
sends-traced s traces history =
    let machine_step = next_step s traces history in
    let P = IsTraced s traces (history ++ machine_step ∷ []) in
    sends-each P s traces history machine_step
    (λ c l. issues-each P s traces history c l
    (λ j e b f g.
    let more = issued-more history machine_step c in
    request_of-traced s traces (history ++ machine_step ∷ []) c (length history) _ e l (omega arith) f))
    (λ k l. commands-each P s k (length history) (λ source. tt) (λ access source. tt) (step_of_channel k machine_step))

pub messages-traced : (s : Config) (traces : List (List Entry)) (n : ℕ) → Each (IsTraced s traces (run s traces n)) (messages s traces (run s traces n))
unfolding run
messages-traced s traces zero = subst (Each (IsTraced s traces [])) (sym (messages-none s traces)) tt
messages-traced s traces (suc n) =
    let history = run s traces n in
    let machine_step = next_step s traces history in
    Each-messages (IsTraced s traces (history ++ machine_step ∷ [])) s traces history machine_step
    (Each-weaker (IsTraced s traces history) _ (traced-more s traces history machine_step) (messages s traces history) (messages-traced s traces n))
    (sends-traced s traces history)

-- a request that was sent to this channel
abbrev IsTracedTo : Config → List (List Entry) → List MachineStep → ℕ → Request → Type 0
IsTracedTo s traces history k r = Traced s traces history r × r.place.channel ≡ k

inbox-traced : (s : Config) (traces : List (List Entry)) (n k : ℕ)
    → Each (λ (m : Message). IfSome (request_in m.payload) (IsTracedTo s traces (run s traces n) k)) (inbox s traces (run s traces n) (Channel k))
unfolding inbox
inbox-traced s traces n k =
    let history = run s traces n in
    Each-by_age _ _
    (Each-weaker _ (λ (m : Message). IfSome (request_in m.payload) (IsTracedTo s traces history k))
    (λ m h. IfSome_then (request_in m.payload) h.1 (λ r i. (i.traced, to m r h.0 i)))
    _ (Each-filter_passes (IsTraced s traces history) (is_to s (Channel k)) (messages s traces history) (messages-traced s traces n)))
  where
    to : (m : Message) (r : Request) → is_to s (Channel k) m ≡ true → TracedIn s traces (run s traces n) m r → r.place.channel ≡ k
    to m r h i =
        let inside : r.place.channel < s.channels = subst (λ (p : Place). p.channel < s.channels) (sym i.traced.place) (place_in s r.address) in
        let e : receiver s m.link ≡ Channel r.place.channel = ap (receiver s) i.link ∙ receiver_request s r.core r.place.channel inside in
        let f : eqb r.place.channel k ≡ true = ap (λ u. is_unit u (Channel k)) (sym e) ∙ h in
        eqb-true _ _ f

-- the requests that were sent to a channel before a cycle
abbrev pub requests_to : Config → List (List Entry) → ℕ → ℕ → List Request
requests_to s traces n k = filter_map (λ m. request_in m.payload) (inbox s traces (run s traces n) (Channel k))

pub requests-traced : (s : Config) (traces : List (List Entry)) (n k : ℕ) → Each (IsTracedTo s traces (run s traces n) k) (requests_to s traces n k)
requests-traced s traces n k = Each-filter_map (IsTracedTo s traces (run s traces n) k) (λ m. request_in m.payload) _ (inbox-traced s traces n k)

-- a request in the queue of a channel in a cycle
pub record Queued (s : Config) (traces : List (List Entry)) (n k : ℕ) (r : Request) : Type 0 where
  pub traced : Traced s traces (run s traces n) r
  pub channel : r.place.channel ≡ k
  pub arrived : r.arrival ≤ n
  pub unserved : is_served (history_of s traces n k) r ≡ false
  pub among : Contains (requests_to s traces n k) r

queued_requests-queued : (s : Config) (traces : List (List Entry)) (n k : ℕ) → Each (Queued s traces n k) (queued_requests (history_of s traces n k) (inbox s traces (run s traces n) (Channel k)) (n + 1))
unfolding queued_requests
queued_requests-queued s traces n k =
    let requests = requests_to s traces n k in
    let P = λ (r : Request). IsTracedTo s traces (run s traces n) k r × Contains requests r in
    Each-weaker _ (Queued s traces n k)
    (λ r h.
    let both = and_parts (ltb r.arrival (n + 1)) (not (is_served (history_of s traces n k) r)) h.0 in
    let soon = ltb-true _ _ both.0 in
    record { traced = h.1.0.0; channel = h.1.0.1; arrived = omega arith; unserved = not-true _ both.1; among = h.1.1 })
    _ (Each-filter_passes P (is_queued (history_of s traces n k) (n + 1)) requests
    (Each-both _ (Contains requests) requests (requests-traced s traces n k) (recursion_from_All (Contains requests) requests (All-contains_itself requests))))

pub queue-queued : (s : Config) (traces : List (List Entry)) (n k : ℕ)
    → Each (Queued s traces n k) (queue_in k (channel_steps_of s traces n k) (inbox s traces (run s traces n) (Channel k)) (length (channel_steps_of s traces n k)))
unfolding queue_in
queue-queued s traces n k =
    let steps = channel_steps_of s traces n k in
    let long : length steps ≡ n = length-channel_steps_of s traces n k in
    subst (λ x. Each (Queued s traces n k) (queued_requests (issued_commands k x) (inbox s traces (run s traces n) (Channel k)) (length steps + 1))) (sym (take-length steps))
    (subst (λ i. Each (Queued s traces n k) (queued_requests (issued_commands k steps) (inbox s traces (run s traces n) (Channel k)) (i + 1))) (sym long) (queued_requests-queued s traces n k))

-- a command, if it is a column command, is one for a request of the queue
abbrev pub ServesQueued : Config → List (List Entry) → ℕ → ℕ → Command → Type 0
ServesQueued s traces n k (Rd bank row column source) = (r : Request) × Queued s traces n k r × (r.access ≡ access.Read) × (source ≡ source_of r)
ServesQueued s traces n k (Wr bank row column source) = (r : Request) × Queued s traces n k r × (r.access ≡ access.Write) × (source ≡ source_of r)
ServesQueued s traces n k (Act bank row source) = Unit {0}
ServesQueued s traces n k (Pre bank source) = Unit {0}
ServesQueued s traces n k (Prea rank) = Unit {0}
ServesQueued s traces n k (Ref rank) = Unit {0}

needed_at-serves : (s : Config) (traces : List (List Entry)) (n k : ℕ) (r : Request) (o : Option ℕ) → Queued s traces n k r → ServesQueued s traces n k (needed_at o r)
needed_at-serves s traces n k r None h = tt
needed_at-serves s traces n k r (Some row) h =
    cond_both (eqb row r.place.row) (column_command r) _ (ServesQueued s traces n k)
    (λ e. column_both (ServesQueued s traces n k) r.access _ _ _ _ (λ f. (r, h, f, refl)) (λ f. (r, h, f, refl)))
    (λ e. tt)

pub chosen-serves : (s : Config) (traces : List (List Entry)) (n k : ℕ) → IfSome (chosen s traces n k) (ServesQueued s traces n k)
chosen-serves s traces n k =
    choice-needed (Queued s traces n k) (ServesQueued s traces n k) s k (channel_steps_of s traces n k) (inbox s traces (run s traces n) (Channel k))
    (needed_at-serves s traces n k) (λ rank. tt) (λ rank. tt) (queue-queued s traces n k)
