-- A request is sent in the cycle in which its entry issues.
use Rattle.std.proofs.Common.{◌≡◌, ℕ, zero, suc, ◌+◌, ◌<◌, ◌≤◌, true, List, [], ◌∷◌, ◌++◌, length, refl, sym, ap, subst, ◌∙◌, arith}
use Rattle.std.specs.Prelude.{filter}
use Rattle.std.specs.Option.{IfSome}
use Rattle.std.specs.List.{AllByRecursion as Each}
use Rattle.std.proofs.lemmas.Bool.{eqb-true}
use Rattle.std.proofs.lemmas.List.Elements.{All-from_recursion}
use Rattle.sim_base.specs.declared.message.Access.{Access}
use Rattle.sim_base.specs.declared.config.Config.{Config}
use Rattle.sim_base.specs.Config.{request_link, latency}
use Rattle.sim_base.specs.Counts.{issue_cycle}
use Rattle.sim_base.specs.Places.{place_of}
use Rattle.sim_base.specs.MachineStep.{MachineStep, step_of_core, step_of_channel}
use Rattle.sim_base.specs.History.{steps_of_core, issued_before, request, request_of, reply, credit, messages, receiver, is_unit, is_to, by_age, inbox}
use Rattle.sim_base.specs.Sends.{sends, channel_sends}
use Rattle.sim_base.specs.Scheduling.{request_in, source_of}
use Rattle.sim_base.specs.Machine.{next_step, run}
use Rattle.sim_base.specs.declared.message.Message.{Message}
use Rattle.sim_base.specs.declared.message.Request.{Request}
use Rattle.sim_base.specs.declared.message.Unit.TheVariants.{Channel}
use Rattle.sim_base.specs.declared.place.Place.{Place}
use Rattle.sim_base.specs.declared.trace.Entry.{Entry}
use Rattle.sim_base.specs.declared.trace.Entry.TheVariants.{Plain, Read, Write}
use Rattle.sim_base.proofs.Arrived.{Each-by_age}
use Rattle.sim_base.proofs.Ordered.{Each-weaker}
use Rattle.sim_base.specs.declared.message.Access.TheVariants as access
use Rattle.sim_base.proofs.Grows.{issued_before-push}
use Rattle.statistics.proofs.CoreCounts.{issue_cycle-push, issue_cycle-last}
use Rattle.statistics.proofs.Replies.{length-steps_of_core, steps_of_core-push}
use Rattle.laws.proofs.Receivers.{receiver_request, place_in, Each-filter_passes}
use Rattle.laws.proofs.Sent.{Each-messages, messages-none, issues-each, commands-each, sends-each}
use Rattle.request_table.specs.Requests.{arrival_of}
use Rattle.laws.specs.Arrivals.{RequestsArriveAsIssued}
use Rattle.std.proofs.lemmas.Option.{IfSome_then}

-- a request says when its entry was issued, and travels on its link
record DatedIn (s : Config) (history : List MachineStep) (m : Message) (r : Request) : Type 0 where
  issued : r.entry < issued_before (steps_of_core r.core history)
  arrival : r.arrival ≡ issue_cycle (steps_of_core r.core history) r.entry + latency s (request_link s r.core r.place.channel)
  place : r.place ≡ place_of s r.address
  link : m.link ≡ request_link s r.core r.place.channel

abbrev IsDated : Config → List MachineStep → Message → Type 0
IsDated s history m = IfSome (request_in m.payload) (DatedIn s history m)

dated-more : (s : Config) (history : List MachineStep) (machine_step : MachineStep) (m : Message) → IsDated s history m → IsDated s (history ++ machine_step ∷ []) m
dated-more s history machine_step m h = IfSome_then (request_in m.payload) h (λ r k. more r k)
  where
    more : (r : Request) → DatedIn s history m r → DatedIn s (history ++ machine_step ∷ []) m r
    more r k =
        let steps = steps_of_core r.core history in
        let one = step_of_core r.core machine_step in
        let e = steps_of_core-push r.core history machine_step in
        let grown : issued_before (steps ++ one ∷ []) ≡ issued_before steps + one.issued = issued_before-push steps one in
        let old : r.entry < issued_before steps = k.issued in
        let later : r.entry < issued_before (steps ++ one ∷ []) = omega (arith, grown, old) in
        record {
          issued = subst (λ x. r.entry < issued_before x) (sym e) later;
          arrival = k.arrival
              ∙ ap (λ t. t + latency s (request_link s r.core r.place.channel)) (sym (issue_cycle-push steps one r.entry old) ∙ ap (λ x. issue_cycle x r.entry) (sym e));
          place = k.place;
          link = k.link;
        }

request-dated : (s : Config) (history : List MachineStep) (c cycle entry : ℕ) (access : Access) (address : ℕ)
    → entry < issued_before (steps_of_core c history) → issue_cycle (steps_of_core c history) entry ≡ cycle → IsDated s history (request s c cycle entry access address)
unfolding request
request-dated s history c cycle entry access address l e =
    record { issued = l; arrival = ap (λ t. t + latency s (request_link s c (place_of s address).channel)) (sym e); place = refl; link = refl }

request_of-dated : (s : Config) (history : List MachineStep) (c cycle entry : ℕ) (e : Entry)
    → entry < issued_before (steps_of_core c history) → issue_cycle (steps_of_core c history) entry ≡ cycle → IfSome (request_of s c cycle entry e) (IsDated s history)
request_of-dated s history c cycle entry Plain l i = tt
request_of-dated s history c cycle entry (Read address) l i = request-dated s history c cycle entry access.Read address l i
request_of-dated s history c cycle entry (Write address) l i = request-dated s history c cycle entry access.Write address l i

sends-dated : (s : Config) (traces : List (List Entry)) (history : List MachineStep) → Each (IsDated s (history ++ next_step s traces history ∷ [])) (sends s traces history (next_step s traces history))
unfolding channel_sends reply credit
sends-dated s traces history =
    let machine_step = next_step s traces history in
    let P = IsDated s (history ++ machine_step ∷ []) in
    sends-each P s traces history machine_step
    (λ c l. issues-each P s traces history c l
    (λ j e b f g.
    let steps = steps_of_core c history in
    let one = step_of_core c machine_step in
    let entry = issued_before steps + j in
    let more = steps_of_core-push c history machine_step in
    let grown : issued_before (steps ++ one ∷ []) ≡ issued_before steps + one.issued = issued_before-push steps one in
    let until : entry < issued_before (steps ++ one ∷ []) = omega (arith, grown, b) in
    let from : issued_before steps ≤ entry = omega arith in
    request_of-dated s (history ++ machine_step ∷ []) c (length history) entry e
    (subst (λ x. entry < issued_before x) (sym more) until)
    (ap (λ x. issue_cycle x entry) more ∙ issue_cycle-last steps one entry from until ∙ length-steps_of_core c history)))
    (λ k l. commands-each P s k (length history) (λ source. tt) (λ access source. tt) (step_of_channel k machine_step))

messages-dated : (s : Config) (traces : List (List Entry)) (n : ℕ) → Each (IsDated s (run s traces n)) (messages s traces (run s traces n))
unfolding run
messages-dated s traces zero = subst (Each (IsDated s [])) (sym (messages-none s traces)) tt
messages-dated s traces (suc n) =
    let history = run s traces n in
    let machine_step = next_step s traces history in
    Each-messages (IsDated s (history ++ machine_step ∷ [])) s traces history machine_step
    (Each-weaker (IsDated s history) _ (dated-more s history machine_step) (messages s traces history) (messages-dated s traces n))
    (sends-dated s traces history)

-- a request that is sent to a channel
abbrev ArrivesAsIssued : Config → List MachineStep → ℕ → Request → Type 0
ArrivesAsIssued s history k r = r.arrival ≡ arrival_of s history k (source_of r)

to_channel : (s : Config) (history : List MachineStep) (k : ℕ) (m : Message) (r : Request) → is_to s (Channel k) m ≡ true → DatedIn s history m r → ArrivesAsIssued s history k r
to_channel s history k m r to made =
    let inside : r.place.channel < s.channels = subst (λ (p : Place). p.channel < s.channels) (sym made.place) (place_in s r.address) in
    let e : receiver s m.link ≡ Channel r.place.channel = ap (receiver s) made.link ∙ receiver_request s r.core r.place.channel inside in
    let f : r.place.channel ≡ k = eqb-true _ _ (ap (λ u. is_unit u (Channel k)) (sym e) ∙ to) in
    made.arrival ∙ ap (λ x. issue_cycle (steps_of_core r.core history) r.entry + latency s (request_link s r.core x)) f

pub requests_arrive_as_issued : (s : Config) (traces : List (List Entry)) (n : ℕ) → RequestsArriveAsIssued s traces n
unfolding inbox
requests_arrive_as_issued s traces n k l =
    let history = run s traces n in
    let P = λ (m : Message). IfSome (request_in m.payload) (ArrivesAsIssued s history k) in
    let ms = filter (is_to s (Channel k)) (messages s traces history) in
    All-from_recursion P (by_age ms)
    (Each-by_age P ms
    (Each-weaker _ P (λ m h. IfSome_then (request_in m.payload) h.1 (λ r i. to_channel s history k m r h.0 i))
    _ (Each-filter_passes (IsDated s history) (is_to s (Channel k)) (messages s traces history) (messages-dated s traces n))))
