-- Each message is what its link is for, and each entry is requested once.
use Rattle.std.proofs.Common.{◌≡◌, ℕ, zero, suc, ◌+◌, ◌<◌, ◌≤◌, true, false, ◌&&◌, eqb, List, ◌++◌, length, refl, sym, ap, subst, ◌∙◌, ◌⊎◌, inl, inr, arith}
use Rattle.std.specs.Prelude.{All, count_by, filter, flat_map, IsSomeAnd}
use Rattle.std.specs.Option.{IfSome}
use Rattle.std.specs.List.{AllByRecursion as Each}
use Rattle.std.proofs.lemmas.Bool.{false≢true, and_parts, eqb-true, cases_lt, false_from_ne_true}
use Rattle.std.proofs.lemmas.List.Elements.{All-from_recursion}
use Rattle.std.proofs.lemmas.List.Sums.{count_by-le-length}
use Rattle.sim_base.specs.declared.config.Config.{Config}
use Rattle.sim_base.specs.Config.{request_link, reply_link, credit_link}
use Rattle.sim_base.specs.MachineStep.{MachineStep, step_of_channel}
use Rattle.sim_base.specs.History.{below, steps_of_core, issued_before, request, request_of, reply, credit, messages, receiver, is_unit, is_to, by_age, inbox}
use Rattle.sim_base.specs.Sends.{core_sends, channel_sends, sends}
use Rattle.sim_base.specs.Scheduling.{request_in}
use Rattle.sim_base.specs.Machine.{next_step, run}
use Rattle.sim_base.specs.declared.message.Payload.{Payload}
use Rattle.sim_base.specs.declared.message.Payload.TheVariants as payload
use Rattle.sim_base.specs.declared.message.Message.{Message}
use Rattle.sim_base.specs.declared.message.Unit.{Unit as MachineUnit}
use Rattle.sim_base.specs.declared.message.Unit.TheVariants.{Core, Channel}
use Rattle.sim_base.specs.declared.place.Place.{Place}
use Rattle.sim_base.specs.declared.trace.Entry.{Entry}
use Rattle.sim_base.specs.declared.trace.Entry.TheVariants.{Plain, Read, Write}
use Rattle.sim_base.proofs.Arrived.{Each-by_age}
use Rattle.sim_base.proofs.Made.{messages-each}
use Rattle.sim_base.proofs.Ordered.{Each-weaker}
use Rattle.sim_base.proofs.Each.{Each-both}
use Rattle.laws.specs.Messages.{is_request_of, RequestsAreSentOnce, IsRequestTo, RequestsFit, FitsCore, AnswersFit}
use Rattle.laws.proofs.Counting.{count-append, count-none, count-flat_map-none, count-flat_map-bound}
use Rattle.laws.proofs.Receivers.{receiver_request, receiver_reply, receiver_credit, place_in, Each-filter_passes}
use Rattle.laws.proofs.Sent.{count-messages, messages-none, issues-each, issues-one, commands-each}
use Rattle.laws.proofs.Traced.{TracedIn, IsTraced, messages-traced}

-- a message travels on a link of its kind, and a request says how
abbrev IsLinkedAs : Config → Message → Payload → Type 0
IsLinkedAs s m (payload.Request r) = (r.link ≡ m.link) × (r.arrival ≡ m.arrival)
IsLinkedAs s m (payload.Reply entry) = (core : ℕ) × (channel : ℕ) × (channel < s.channels) × (m.link ≡ reply_link s core channel)
IsLinkedAs s m (payload.Credit access entry) = (core : ℕ) × (channel : ℕ) × (channel < s.channels) × (m.link ≡ credit_link s core channel)

messages-linked : (s : Config) (traces : List (List Entry)) (history : List MachineStep) → Each (λ (m : Message). IsLinkedAs s m m.payload) (messages s traces history)
unfolding request reply credit
messages-linked s traces history =
    messages-each s (λ (m : Message). IsLinkedAs s m m.payload) (λ core cycle entry access address l. (refl, refl))
    ((λ channel cycle source l. (source.core, channel, l, refl)), (λ channel cycle access source l. (source.core, channel, l, refl))) traces history

-- a message to a channel
to_channel : (s : Config) (traces : List (List Entry)) (history : List MachineStep) (k : ℕ) (m : Message) (l : Payload) → is_unit (receiver s m.link) (Channel k) ≡ true
    → IsLinkedAs s m l → IfSome (request_in l) (TracedIn s traces history m) → IsSomeAnd (request_in l) (IsRequestTo s traces history k m)
to_channel s traces history k m (payload.Request r) to linked made =
    let inside : r.place.channel < s.channels = subst (λ (p : Place). p.channel < s.channels) (sym made.traced.place) (place_in s r.address) in
    let e : receiver s m.link ≡ Channel r.place.channel = ap (receiver s) made.link ∙ receiver_request s r.core r.place.channel inside in
    let f : r.place.channel ≡ k = eqb-true _ _ (ap (λ u. is_unit u (Channel k)) (sym e) ∙ to) in
    record {
      core = made.traced.core;
      entry = made.traced.entry;
      issued = made.traced.issued;
      place = made.traced.place;
      channel_of = f;
      link_of = made.link ∙ ap (request_link s r.core) f;
      link = linked.0;
      arrival = linked.1;
    }
to_channel s traces history k m (payload.Reply entry) to linked made =
    absurd (false≢true (ap (λ u. is_unit u (Channel k)) (sym (ap (receiver s) linked.3 ∙ receiver_reply s linked.0 linked.1 linked.2)) ∙ to))
to_channel s traces history k m (payload.Credit access entry) to linked made =
    absurd (false≢true (ap (λ u. is_unit u (Channel k)) (sym (ap (receiver s) linked.3 ∙ receiver_credit s linked.0 linked.1 linked.2)) ∙ to))

-- and one to a core
to_core : (s : Config) (traces : List (List Entry)) (history : List MachineStep) (c : ℕ) (m : Message) (l : Payload) → is_unit (receiver s m.link) (Core c) ≡ true
    → IsLinkedAs s m l → IfSome (request_in l) (TracedIn s traces history m) → FitsCore s c m.link l
to_core s traces history c m (payload.Request r) to linked made =
    let inside : r.place.channel < s.channels = subst (λ (p : Place). p.channel < s.channels) (sym made.traced.place) (place_in s r.address) in
    let e : receiver s m.link ≡ Channel r.place.channel = ap (receiver s) made.link ∙ receiver_request s r.core r.place.channel inside in
    false≢true (ap (λ u. is_unit u (Core c)) (sym e) ∙ to)
to_core s traces history c m (payload.Reply entry) to linked made =
    let f : linked.0 ≡ c = eqb-true _ _ (ap (λ u. is_unit u (Core c)) (sym (ap (receiver s) linked.3 ∙ receiver_reply s linked.0 linked.1 linked.2)) ∙ to) in
    (linked.1, linked.2, linked.3 ∙ ap (λ x. reply_link s x linked.1) f)
to_core s traces history c m (payload.Credit access entry) to linked made =
    let f : linked.0 ≡ c = eqb-true _ _ (ap (λ u. is_unit u (Core c)) (sym (ap (receiver s) linked.3 ∙ receiver_credit s linked.0 linked.1 linked.2)) ∙ to) in
    (linked.1, linked.2, linked.3 ∙ ap (λ x. credit_link s x linked.1) f)

inbox-fits : (P : Message → Type 0) (s : Config) (traces : List (List Entry)) (n : ℕ) (unit : MachineUnit)
    → ((m : Message) → is_to s unit m ≡ true → IsLinkedAs s m m.payload → IsTraced s traces (run s traces n) m → P m) → All P (inbox s traces (run s traces n) unit)
unfolding inbox
inbox-fits P s traces n unit h =
    let history = run s traces n in
    let ms = messages s traces history in
    All-from_recursion P (by_age (filter (is_to s unit) ms))
    (Each-by_age P (filter (is_to s unit) ms)
    (Each-weaker _ P (λ m k. h m k.0 k.1.0 k.1.1) _
    (Each-filter_passes (λ (m : Message). IsLinkedAs s m m.payload × IsTraced s traces history m) (is_to s unit) ms
    (Each-both _ (IsTraced s traces history) ms (messages-linked s traces history) (messages-traced s traces n)))))

pub requests_fit : (s : Config) (traces : List (List Entry)) (n : ℕ) → RequestsFit s traces n
requests_fit s traces n k l =
    inbox-fits (λ (m : Message). IsSomeAnd (request_in m.payload) (IsRequestTo s traces (run s traces n) k m)) s traces n (Channel k)
    (λ m to linked made. to_channel s traces (run s traces n) k m m.payload to linked made)

pub answers_fit : (s : Config) (traces : List (List Entry)) (n : ℕ) → AnswersFit s traces n
answers_fit s traces n c l =
    inbox-fits (λ (m : Message). FitsCore s c m.link m.payload) s traces n (Core c) (λ m to linked made. to_core s traces (run s traces n) c m m.payload to linked made)

-- an entry is not requested before it is issued
not_issued : (s : Config) (traces : List (List Entry)) (n core entry : ℕ) → issued_before (steps_of_core core (run s traces n)) ≤ entry
    → count_by (λ (m : Message). is_request_of core entry m.payload) (messages s traces (run s traces n)) ≡ 0
not_issued s traces n core entry h =
    let history = run s traces n in
    count-none (λ (m : Message). is_request_of core entry m.payload) (messages s traces history)
    (Each-weaker (IsTraced s traces history) (λ (m : Message). is_request_of core entry m.payload ≡ false) (λ m made. other m m.payload made) (messages s traces history) (messages-traced s traces n))
  where
    other : (m : Message) (l : Payload) → IfSome (request_in l) (TracedIn s traces (run s traces n) m) → is_request_of core entry l ≡ false
    other m (payload.Request r) made =
        false_from_ne_true _ (λ e.
        let both = and_parts (eqb r.core core) (eqb r.entry entry) e in
        let a : r.core ≡ core = eqb-true _ _ both.0 in
        let b : r.entry ≡ entry = eqb-true _ _ both.1 in
        let c : r.entry < issued_before (steps_of_core core (run s traces n)) = subst (λ x. r.entry < issued_before (steps_of_core x (run s traces n))) a made.traced.issued in
        omega arith)
    other m (payload.Reply e) made = refl
    other m (payload.Credit access e) made = refl

-- nor again
request_of-later : (s : Config) (core entry c cycle i : ℕ) (e : Entry) → ((c ≡ core) → entry < i) → IfSome (request_of s c cycle i e) (λ (m : Message). is_request_of core entry m.payload ≡ false)
unfolding request
request_of-later s core entry c cycle i Plain h = tt
request_of-later s core entry c cycle i (Read address) h =
    false_from_ne_true (eqb c core && eqb i entry) (λ e. let both = and_parts (eqb c core) (eqb i entry) e in let l = h (eqb-true _ _ both.0) in let f = eqb-true _ _ both.1 in omega arith)
request_of-later s core entry c cycle i (Write address) h =
    false_from_ne_true (eqb c core && eqb i entry) (λ e. let both = and_parts (eqb c core) (eqb i entry) e in let l = h (eqb-true _ _ both.0) in let f = eqb-true _ _ both.1 in omega arith)

channels_request : (s : Config) (traces : List (List Entry)) (history : List MachineStep) (core entry k : ℕ)
    → count_by (λ (m : Message). is_request_of core entry m.payload) (channel_sends s history (next_step s traces history) k) ≡ 0
unfolding channel_sends reply credit
channels_request s traces history core entry k =
    count-none (λ (m : Message). is_request_of core entry m.payload) _
    (commands-each (λ (m : Message). is_request_of core entry m.payload ≡ false) s k (length history) (λ source. refl) (λ access source. refl) (step_of_channel k (next_step s traces history)))

-- what is sent in a cycle are requests of entries that were not issued before, at most one of a core
sends-request : (s : Config) (traces : List (List Entry)) (history : List MachineStep) (core entry b : ℕ)
    → (core < s.cores → count_by (λ (m : Message). is_request_of core entry m.payload) (core_sends s traces history (next_step s traces history) core) ≤ b)
    → count_by (λ (m : Message). is_request_of core entry m.payload) (sends s traces history (next_step s traces history)) ≤ b
unfolding sends
sends-request s traces history core entry b h =
    let p = λ (m : Message). is_request_of core entry m.payload in
    let machine_step = next_step s traces history in
    let f = core_sends s traces history machine_step in
    let g = channel_sends s history machine_step in
    let a : count_by p (flat_map f (below s.cores) ++ flat_map g (below s.channels)) ≡ count_by p (flat_map f (below s.cores)) + count_by p (flat_map g (below s.channels)) = count-append p (flat_map f (below s.cores)) _ in
    let z : count_by p (flat_map g (below s.channels)) ≡ 0 = count-flat_map-none p g s.channels (λ k l. channels_request s traces history core entry k) in
    let d : count_by p (flat_map f (below s.cores)) ≤ b =
    count-flat_map-bound p f s.cores core b
    (λ i l ne. count-none p (f i) (issues-each (λ (m : Message). p m ≡ false) s traces history i l (λ j e x y v. request_of-later s core entry i (length history) _ e (λ c. absurd (ne c))))) h in
    omega arith

sends-one_request : (s : Config) (traces : List (List Entry)) (history : List MachineStep) (core entry : ℕ) → count_by (λ (m : Message). is_request_of core entry m.payload) (sends s traces history (next_step s traces history)) ≤ 1
sends-one_request s traces history core entry =
    sends-request s traces history core entry 1
    (λ l. let a = issues-one s traces history core l in let b = count_by-le-length (λ (m : Message). is_request_of core entry m.payload) (core_sends s traces history (next_step s traces history) core) in omega arith)

sends-issued : (s : Config) (traces : List (List Entry)) (history : List MachineStep) (core entry : ℕ) → entry < issued_before (steps_of_core core history)
    → count_by (λ (m : Message). is_request_of core entry m.payload) (sends s traces history (next_step s traces history)) ≤ 0
sends-issued s traces history core entry h =
    sends-request s traces history core entry 0
    (λ l.
    let e = count-none (λ (m : Message). is_request_of core entry m.payload) _
    (issues-each (λ (m : Message). is_request_of core entry m.payload ≡ false) s traces history core l (λ j e x y v. request_of-later s core entry core (length history) _ e (λ c. omega arith))) in
    omega arith)

once : (s : Config) (traces : List (List Entry)) (core entry n : ℕ)
    → (count_by (λ (m : Message). is_request_of core entry m.payload) (messages s traces (run s traces n)) ≤ 0)
    ⊎ (count_by (λ (m : Message). is_request_of core entry m.payload) (sends s traces (run s traces n) (next_step s traces (run s traces n))) ≤ 0)
once s traces core entry n = go (cases_lt entry (issued_before (steps_of_core core (run s traces n))))
  where
    go : (entry < issued_before (steps_of_core core (run s traces n))) ⊎ (issued_before (steps_of_core core (run s traces n)) ≤ entry)
        → (count_by (λ (m : Message). is_request_of core entry m.payload) (messages s traces (run s traces n)) ≤ 0)
        ⊎ (count_by (λ (m : Message). is_request_of core entry m.payload) (sends s traces (run s traces n) (next_step s traces (run s traces n))) ≤ 0)
    go (inl l) = inr (sends-issued s traces (run s traces n) core entry l)
    go (inr l) = inl (let e = not_issued s traces n core entry l in omega arith)

one_request_of : (s : Config) (traces : List (List Entry)) (core entry n : ℕ) → count_by (λ (m : Message). is_request_of core entry m.payload) (messages s traces (run s traces n)) ≤ 1
unfolding run
one_request_of s traces core entry zero = let e = ap (count_by (λ (m : Message). is_request_of core entry m.payload)) (messages-none s traces) in omega arith
one_request_of s traces core entry (suc n) =
    let e = count-messages (λ (m : Message). is_request_of core entry m.payload) s traces (run s traces n) (next_step s traces (run s traces n)) in
    let before : count_by (λ (m : Message). is_request_of core entry m.payload) (messages s traces (run s traces n)) ≤ 1 = one_request_of s traces core entry n in
    let now = sends-one_request s traces (run s traces n) core entry in
    let apart = once s traces core entry n in
    omega arith

pub requests_are_sent_once : (s : Config) (traces : List (List Entry)) (n : ℕ) → RequestsAreSentOnce s traces n
requests_are_sent_once s traces n core entry = one_request_of s traces core entry n
