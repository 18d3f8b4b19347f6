-- The requests of a run that come to a channel: each is of another entry, and no command names one before it arrives.
use Rattle.std.proofs.Common.{◌≡◌, ℕ, zero, suc, ◌+◌, ◌<◌, ◌≤◌, Bool, true, false, eqb, ltb, ◌&&◌, List, [], ◌∷◌, ◌++◌, get_or, take, Option, Some, None, refl, sym, ap, subst, ◌∙◌, arith}
use Rattle.std.specs.Prelude.{Contains, count_by, IsSomeAnd}
use Rattle.std.specs.Option.{IfSome}
use Rattle.std.specs.List.{AllByRecursion as Each, cons_option}
use Rattle.std.proofs.lemmas.Bool.Decides.{nat_tests}
use Rattle.std.proofs.lemmas.List.Elements.{recursion_from_All, All-from_recursion, All-contains}
use Rattle.sim_base.specs.declared.config.Config.{Config}
use Rattle.sim_base.specs.MachineStep.{MachineStep}
use Rattle.sim_base.specs.Counts.{source_in}
use Rattle.sim_base.specs.History.{inbox, issued_commands, steps_of_channel}
use Rattle.sim_base.specs.Machine.{run}
use Rattle.sim_base.specs.Scheduling.{request_in, is_source, source_of, is_queued, queued_requests, queue_in}
use Rattle.sim_base.specs.declared.command.Command.{Command}
use Rattle.sim_base.specs.declared.command.IssuedCommand.{IssuedCommand}
use Rattle.sim_base.specs.declared.command.Source.{Source}
use Rattle.sim_base.specs.declared.message.Payload.{Payload}
use Rattle.sim_base.specs.declared.message.Payload.TheVariants as payload
use Rattle.sim_base.specs.declared.message.Message.{Message}
use Rattle.sim_base.specs.declared.message.Request.{Request}
use Rattle.sim_base.specs.declared.message.Unit.TheVariants.{Channel}
use Rattle.sim_base.specs.declared.trace.Entry.{Entry}
use Rattle.sim_base.proofs.Arrived.{arrived}
use Rattle.sim_base.proofs.Each.{Each-filter, Each-filter_map, Each-turned}
use Rattle.sim_base.proofs.Ordered.{Each-weaker}
use Rattle.sim_base.proofs.Same.{Stamped, AgreeUpTo, queue-same}
use Rattle.sim_base.proofs.Spans.{inbox-stamped}
use Rattle.statistics.proofs.Messages.{arrived-arrived}
use Rattle.laws.specs.Commands.{channel_steps_of, history_of}
use Rattle.laws.specs.Messages.{is_request_of, IsRequestTo}
use Rattle.laws.proofs.Fitting.{requests_fit, requests_are_sent_once}
use Rattle.laws.proofs.Legal.{channel_steps_of-at, Each-history_of}
use Rattle.laws.proofs.Named.{commands_name_the_queue}
use Rattle.channel_step.specs.Past.{carried_requests, IsRequestIn, CarriesRequest, IsOther, Differ}
use Rattle.channel_step.specs.Fit.{comes_from, is_issued_for, NoneIssuedFor}
use Rattle.channel_step.proofs.Fits.{split-differ}
use Rattle.channel_step.proofs.Requests.{requests-append}
use Rattle.units.specs.SpanLaws.Mail.{mail_before, mail_in}
use Rattle.units.proofs.SpanLaws.Arrivals.{count-mine, spans-join, mail-settled}
use Rattle.units.proofs.SpanLaws.Lists.{each-none, count-tail, count-others, count-kept}

carried : (s : Config) (traces : List (List Entry)) (history : List MachineStep) (channel : ℕ) (m : Message) (o : Option Request)
    → IsSomeAnd o (IsRequestTo s traces history channel m) → IsRequestIn s channel m o
carried s traces history channel m None h = h
carried s traces history channel m (Some r) h = record { core = h.core; link = h.link_of; same_link = h.link; arrival = h.arrival; place = h.place; channel_is = h.channel_of }

-- each message to a channel carries a request for it
pub all-carry : (s : Config) (traces : List (List Entry)) (n channel : ℕ) → channel < s.channels → Each (CarriesRequest s channel) (inbox s traces (run s traces n) (Channel channel))
all-carry s traces n channel l =
    let fits = λ (m : Message). IsSomeAnd (request_in m.payload) (IsRequestTo s traces (run s traces n) channel m) in
    let all = inbox s traces (run s traces n) (Channel channel) in
    Each-weaker fits (CarriesRequest s channel) (λ m h. carried s traces (run s traces n) channel m (request_in m.payload) h) all
    (recursion_from_All fits all (requests_fit s traces n channel l))

-- a request of an entry of a core
abbrev asks : ℕ → ℕ → Message → Bool
asks core entry m = is_request_of core entry m.payload

other_in : (r : Request) (l : Payload) → is_request_of r.core r.entry l ≡ false → IfSome (request_in l) (IsOther r)
other_in r (payload.Request q) h = h
other_in r (payload.Reply entry) h = tt
other_in r (payload.Credit access entry) h = tt

others : (r : Request) (ms : List Message) → count_by (asks r.core r.entry) ms ≡ 0 → Each (IsOther r) (carried_requests ms)
others r ms h =
    Each-filter_map (IsOther r) (λ (m : Message). request_in m.payload) ms
    (Each-weaker (λ (m : Message). asks r.core r.entry m ≡ false) (λ (m : Message). IfSome (request_in m.payload) (IsOther r)) (λ m k. other_in r m.payload k) ms
    (each-none (asks r.core r.entry) ms h))

own_entry : (r : Request) → (eqb r.core r.core && eqb r.entry r.entry) ≡ true
own_entry r = grind (arith, nat_tests)

-- where no entry is requested twice, the requests are of different entries
pub differ-once : (ms : List Message) → ((core entry : ℕ) → count_by (asks core entry) ms ≤ 1) → Differ (carried_requests ms)
differ-once [] h = tt
differ-once (m ∷ ms) h = by m.payload refl (differ-once ms (λ core entry. let e = count-tail (asks core entry) m ms in let f = h core entry in omega arith))
  where
    by : (l : Payload) → m.payload ≡ l → Differ (carried_requests ms) → Differ (cons_option (request_in l) (carried_requests ms))
    by (payload.Request r) e rest = (others r ms (count-others (asks r.core r.entry) m ms (ap (is_request_of r.core r.entry) e ∙ own_entry r) (h r.core r.entry)), rest)
    by (payload.Reply entry) e rest = rest
    by (payload.Credit access entry) e rest = rest

-- the requests that arrive at a channel are of different entries
pub mail-differ : (s : Config) (traces : List (List Entry)) (n channel cycle : ℕ) → Differ (carried_requests (mail_before s traces n (Channel channel) cycle))
mail-differ s traces n channel cycle =
    let all = inbox s traces (run s traces n) (Channel channel) in
    differ-once (mail_before s traces n (Channel channel) cycle)
    (λ core entry.
    let a = count-kept (λ (m : Message). ltb m.arrival cycle) (asks core entry) all in
    let b = count-mine (asks core entry) s traces (run s traces n) (Channel channel) in
    let c = requests_are_sent_once s traces n core entry in
    omega arith)

-- the requests of a span are of other entries than those before it
pub span-differ : (s : Config) (traces : List (List Entry)) (from until channel : ℕ) → from ≤ until
    → Differ (carried_requests (mail_before s traces until (Channel channel) from ++ mail_in s traces until (Channel channel) from until))
span-differ s traces from until channel l =
    subst (λ ms. Differ (carried_requests ms)) (sym (spans-join s traces from until (Channel channel) l)) (mail-differ s traces until channel until)

-- each of these requests is of another entry than each of those
abbrev AreOther : List Request → Request → Type 0
AreOther new r = Each (IsOther r) new

-- a command that stands in the name of none of these requests
abbrev NamesNone : List Request → Command → Type 0
NamesNone new command = Each (λ r. is_issued_for command r ≡ false) new

named-none : (new : List Request) → Each (λ (r : Request). comes_from None r ≡ false) new
named-none [] = tt
named-none (r ∷ rs) = (refl, named-none rs)

-- a command that is named by a request of a queue stands in the name of no request that is not in the queue
names-other : (queue new : List Request) → Each (AreOther new) queue → (o : Option Source) → IfSome o (λ source. (r : Request) × Contains queue r × (source ≡ source_of r))
    → Each (λ (r : Request). comes_from o r ≡ false) new
names-other queue new h None k = named-none new
names-other queue new h (Some source) k =
    subst (λ x. Each (λ (r : Request). is_source r x ≡ false) new) (sym k.2) (All-contains (AreOther new) queue k.0 (All-from_recursion (AreOther new) queue h) k.1)

-- before a span the run knows what arrived
settled-agree : (s : Config) (traces : List (List Entry)) (from until channel cycle : ℕ) → from ≤ until → cycle < from
    → AgreeUpTo (cycle + 1) (mail_before s traces until (Channel channel) from) (inbox s traces (run s traces from) (Channel channel))
settled-agree s traces from until channel cycle l b =
    let mail = mail_before s traces until (Channel channel) from in
    let now = inbox s traces (run s traces from) (Channel channel) in
    record {
      one = Each-filter Stamped (λ (m : Message). ltb m.arrival from) (inbox s traces (run s traces until) (Channel channel)) (inbox-stamped s traces (run s traces until) (Channel channel));
      other = inbox-stamped s traces (run s traces from) (Channel channel);
      same = λ u h. ap (λ x. arrived x u) (mail-settled s traces from until (Channel channel) l) ∙ arrived-arrived u from (omega arith) now;
    }

-- the requests that are in the queue in a cycle before a span are others than those of the span
queue-other : (s : Config) (traces : List (List Entry)) (from until channel cycle : ℕ) → from ≤ until → cycle < from
    → Each (AreOther (carried_requests (mail_in s traces until (Channel channel) from until)))
    (queue_in channel (channel_steps_of s traces from channel) (inbox s traces (run s traces from) (Channel channel)) cycle)
unfolding queue_in queued_requests
queue-other s traces from until channel cycle l b =
    let new = mail_in s traces until (Channel channel) from until in
    let mail = mail_before s traces until (Channel channel) from in
    let steps = channel_steps_of s traces from channel in
    let P = AreOther (carried_requests new) in
    let apart : Each P (carried_requests mail) =
    (split-differ (carried_requests mail) (carried_requests new) (subst Differ (requests-append mail new) (span-differ s traces from until channel l))).1 in
    subst (Each P)
    (queue-same channel steps mail (inbox s traces (run s traces from) (Channel channel)) cycle (settled-agree s traces from until channel cycle l b))
    (Each-filter P (is_queued (issued_commands channel (take cycle steps)) (cycle + 1)) (carried_requests mail) apart)

-- a command of a cycle before a span
command-names : (s : Config) (traces : List (List Entry)) (from until channel cycle : ℕ) → channel < s.channels → from ≤ until → cycle < from → (o : Option Command)
    → get_or (channel_steps_of s traces from channel) cycle None ≡ o → IfSome o (NamesNone (carried_requests (mail_in s traces until (Channel channel) from until)))
command-names s traces from until channel cycle k l b None e = tt
command-names s traces from until channel cycle k l b (Some command) e =
    names-other (queue_in channel (channel_steps_of s traces from channel) (inbox s traces (run s traces from) (Channel channel)) cycle)
    (carried_requests (mail_in s traces until (Channel channel) from until)) (queue-other s traces from until channel cycle l b) (source_in command)
    (commands_name_the_queue s traces from channel cycle command k b e)

-- the commands of the first cycles
history-names : (s : Config) (traces : List (List Entry)) (from until channel : ℕ) → channel < s.channels → from ≤ until → (n : ℕ) → n ≤ from
    → Each (λ (i : IssuedCommand). NamesNone (carried_requests (mail_in s traces until (Channel channel) from until)) i.command) (history_of s traces n channel)
unfolding run steps_of_channel issued_commands
history-names s traces from until channel k l zero h = tt
history-names s traces from until channel k l (suc n) h =
    let none = NamesNone (carried_requests (mail_in s traces until (Channel channel) from until)) in
    Each-history_of (λ (i : IssuedCommand). none i.command) s traces n channel k (history-names s traces from until channel k l n (omega arith))
    (subst (λ o. IfSome o none) (channel_steps_of-at s traces channel k from n (omega arith))
    (command-names s traces from until channel n k l (omega arith) (get_or (channel_steps_of s traces from channel) n None) refl))

-- no command before a span stands in the name of a request that arrives in it
pub span-none_issued : (s : Config) (traces : List (List Entry)) (from until channel : ℕ) → channel < s.channels → from ≤ until
    → Each (NoneIssuedFor (history_of s traces from channel)) (carried_requests (mail_in s traces until (Channel channel) from until))
span-none_issued s traces from until channel k l =
    Each-turned (λ i r. is_issued_for i.command r ≡ false) (history_of s traces from channel) (carried_requests (mail_in s traces until (Channel channel) from until))
    (history-names s traces from until channel k l from (omega arith))
