-- In a run each reply is of an entry that was issued before it came.
use Rattle.std.proofs.Common.{◌≡◌, ℕ, zero, suc, ◌+◌, ◌-◌, ◌*◌, ◌/◌, ◌%◌, ◌<◌, ◌≤◌, Bool, true, false, cond, eqb, List, [], ◌∷◌, ◌++◌, length, take, drop, get_or, Option, Some, None, refl, sym, ap, ap₂, subst, ◌∙◌, ⊎_elim, add-zero, arith}
use Rattle.std.specs.Prelude.{filter, find, flat_map, option_map, unwrap_or}
use Rattle.std.specs.List.{AllByRecursion as Each, enumerate_from}
use Rattle.std.specs.Option.{IfSome}
use Rattle.std.proofs.Math.ListN.{get_or-append}
use Rattle.std.proofs.Math.Seq.{get_or-append_seam}
use Rattle.std.proofs.lemmas.Bool.{cond_both, cases_lt, and_parts, ltb-true, eqb-true, false≢true}
use Rattle.std.proofs.lemmas.List.{map_push, length-map, take-take}
use Rattle.std.proofs.lemmas.Nat.{div-mul-add}
use Rattle.std.proofs.lemmas.Option.{IfSome_then}
use Rattle.sim_base.proofs.Arrived.{Each-by_age}
use Rattle.sim_base.proofs.Each.{Each-append, Each-filter_map, Each-flat_map_below, IfSome-find}
use Rattle.sim_base.proofs.LinkNumbers.{override_in_range}
use Rattle.sim_base.proofs.Made.{requests-each, channel-each}
use Rattle.sim_base.proofs.Ordered.{Each-weaker}
use Rattle.sim_base.proofs.Served.{candidates-each, or_else-each}
use Rattle.sim_base.proofs.Spans.{step_of_channel-next}
use Rattle.sim_base.specs.declared.config.Config.{Config}
use Rattle.sim_base.specs.declared.overrides.Override.{Override}
use Rattle.sim_base.specs.Config.{request_link, reply_link, usual_latency, latency}
use Rattle.sim_base.specs.Counts.{replied_entry}
use Rattle.sim_base.specs.History.{below, trace_of, steps_of_core, steps_of_channel, issued_before, request, request_of, requests_between, requests_in, core_messages, reply, credit, messages_of, messages_at, messages_in, channel_messages, messages_of_core, messages_of_channel, messages, is_unit, is_to, inbox, issued_commands}
use Rattle.sim_base.specs.Machine.{next_step, run}
use Rattle.sim_base.specs.MachineStep.{MachineStep, step_of_core, step_of_channel}
use Rattle.sim_base.specs.Rules.{is_legal, has_open_bank, open_row}
use Rattle.sim_base.specs.Places.{place_of, bank_in}
use Rattle.sim_base.specs.Scheduling.{request_in, source_of, is_queued, queued_requests, queue_in, column_command, needed_at, needed, ready_hit, ready_row, first_ready, refresh_command, if_legal, choice_between, drains, lowest_due, choice}
use Rattle.sim_base.specs.declared.command.Command.{Command}
use Rattle.sim_base.specs.declared.command.Command.TheVariants.{Act, Rd, Wr, Pre, Prea, Ref}
use Rattle.sim_base.specs.declared.command.IssuedCommand.{IssuedCommand}
use Rattle.sim_base.specs.declared.command.Source.{Source}
use Rattle.sim_base.specs.declared.history.CoreStep.{CoreStep}
use Rattle.sim_base.specs.declared.message.Message.{Message}
use Rattle.sim_base.specs.declared.message.Request.{Request}
use Rattle.sim_base.specs.declared.message.Unit.{Unit as MachineUnit}
use Rattle.sim_base.specs.declared.message.Unit.TheVariants.{Core, Channel}
use Rattle.sim_base.specs.declared.trace.Entry.{Entry}
use Rattle.sim_base.specs.declared.trace.Entry.TheVariants.{Plain, Read, Write}
use Rattle.sim_base.specs.declared.message.Access.{Access}
use Rattle.sim_base.proofs.Accesses.{column_both}
use Rattle.sim_base.proofs.Added.{length-push_suc}
use Rattle.statistics.specs.Cores.{FollowsItsRead, RepliesFollowReads}
use Rattle.statistics.proofs.CoreCounts.{issued_before-take-le}
use Rattle.statistics.proofs.Lists.{take-push}

-- each message travels for a cycle at least
pub latency_positive : (s : Config) (link : ℕ) → 1 ≤ latency s link
unfolding latency
latency_positive s link = by (find (λ o. eqb o.link link) s.overrides) refl
  where
    usual : 1 ≤ usual_latency s link
    usual =
        cond_both (eqb (link % 3) 0) s.request_latency _ (λ n. 1 ≤ n) (λ e. s.latencies_in_range.request_in.0)
        (λ e. cond_both (eqb (link % 3) 1) s.reply_latency s.credit_latency (λ n. 1 ≤ n) (λ f. s.latencies_in_range.reply_in.0) (λ f. s.latencies_in_range.credit_in.0))

    by : (r : Option Override) → find (λ o. eqb o.link link) s.overrides ≡ r → 1 ≤ unwrap_or (option_map (λ o. o.latency) r) (usual_latency s link)
    by None e = usual
    by (Some o) e = (override_in_range s.overrides link o s.overrides_in_range e).0

pub issued_before-take-later : (steps : List CoreStep) (a b : ℕ) → a ≤ b → issued_before (take a steps) ≤ issued_before (take b steps)
issued_before-take-later steps a b l =
    let e : issued_before (take a (take b steps)) ≡ issued_before (take a steps) = ap issued_before (take-take a b steps l) in
    omega (arith, issued_before-take-le (take b steps) a)

-- what passes a test, with what holds of it
Each-filter_with : {X : Type 0} (P Q : X → Type 0) (p : X → Bool) → ((x : X) → p x ≡ true → P x → Q x) → (xs : List X) → Each P xs → Each Q (filter p xs)
Each-filter_with P Q p f [] h = tt
Each-filter_with P Q p f (x ∷ xs) h =
    cond_both (p x) (x ∷ filter p xs) (filter p xs) (Each Q) (λ e. (f x e h.0, Each-filter_with P Q p f xs h.1)) (λ e. Each-filter_with P Q p f xs h.1)

-- the numbers of the entries below end
numbered : {X : Type 0} (end k a : ℕ) (xs : List X) → a + k ≤ end → Each (λ (e : ℕ × X). e.0 < end) (take k (enumerate_from a xs))
numbered end zero a xs h = tt
numbered end (suc k) a [] h = tt
numbered end (suc k) a (x ∷ xs) h = (omega arith, numbered end k (a + 1) xs (omega arith))

pub drop-enumerate_from : {X : Type 0} (n a : ℕ) (xs : List X) → drop n (enumerate_from a xs) ≡ enumerate_from (a + n) (drop n xs)
drop-enumerate_from zero a xs = ap (λ k. enumerate_from k xs) (sym (add-zero a))
drop-enumerate_from (suc n) a [] = refl
drop-enumerate_from (suc n) a (x ∷ xs) =
    let e : a + 1 + n ≡ a + suc n = omega arith in
    drop-enumerate_from n (a + 1) xs ∙ ap (λ k. enumerate_from k (drop n xs)) e

numbered_between : {X : Type 0} (first end : ℕ) (xs : List X) → Each (λ (e : ℕ × X). e.0 < end) (take (end - first) (drop first (enumerate_from 0 xs)))
numbered_between first end xs =
    ⊎_elim
    (λ l. let e : end - first ≡ 0 = omega arith in subst (λ k. Each (λ e. e.0 < end) (take k (drop first (enumerate_from 0 xs)))) (sym e) tt)
    (λ l. subst (λ x. Each (λ e. e.0 < end) (take (end - first) x)) (sym (drop-enumerate_from first 0 xs)) (numbered end (end - first) (0 + first) (drop first xs) (omega arith)))
    (cases_lt end first)

-- the entry of a request was issued before the request arrived
abbrev pub RequestIssued : List MachineStep → Request → Type 0
RequestIssued history r = r.entry < issued_before (take r.arrival (steps_of_core r.core history))

abbrev pub CarriesIssued : List MachineStep → Message → Type 0
CarriesIssued history m = IfSome (request_in m.payload) (RequestIssued history)

request-issued : (s : Config) (history : List MachineStep) (core cycle entry : ℕ) (access : Access) (address : ℕ)
    → entry < issued_before (take (cycle + 1) (steps_of_core core history)) → CarriesIssued history (request s core cycle entry access address)
unfolding request
request-issued s history core cycle entry access address h =
    let link = request_link s core (place_of s address).channel in
    let l : 1 ≤ latency s link = latency_positive s link in
    let m : issued_before (take (cycle + 1) (steps_of_core core history)) ≤ issued_before (take (cycle + latency s link) (steps_of_core core history)) =
    issued_before-take-later (steps_of_core core history) (cycle + 1) (cycle + latency s link) (omega arith) in
    omega arith

request_of-issued : (s : Config) (history : List MachineStep) (core cycle : ℕ) (e : ℕ × Entry)
    → e.0 < issued_before (take (cycle + 1) (steps_of_core core history)) → IfSome (request_of s core cycle e.0 e.1) (CarriesIssued history)
request_of-issued s history core cycle (entry, Plain) h = tt
request_of-issued s history core cycle (entry, Read address) h = request-issued s history core cycle entry _ address h
request_of-issued s history core cycle (entry, Write address) h = request-issued s history core cycle entry _ address h

of_core-issued : (s : Config) (traces : List (List Entry)) (history : List MachineStep) (core : ℕ) → Each (CarriesIssued history) (messages_of_core s traces history core)
unfolding messages_of_core core_messages requests_in requests_between
of_core-issued s traces history core =
    let steps = steps_of_core core history in
    let trace = trace_of traces core in
    Each-flat_map_below (CarriesIssued history) (requests_in s core trace steps) (length steps)
    (λ cycle l.
    let first = issued_before (take cycle steps) in
    let end = issued_before (take (cycle + 1) steps) in
    let es = take (end - first) (drop first (enumerate_from 0 trace)) in
    Each-filter_map (CarriesIssued history) (λ e. request_of s core cycle e.0 e.1) es
    (Each-weaker (λ (e : ℕ × Entry). e.0 < end) (λ e. IfSome (request_of s core cycle e.0 e.1) (CarriesIssued history)) (request_of-issued s history core cycle) es
    (numbered_between first end trace)))

of_channel-issued : (s : Config) (history : List MachineStep) (channel : ℕ) → channel < s.channels → Each (CarriesIssued history) (messages_of_channel s history channel)
unfolding messages_of_channel reply credit
of_channel-issued s history channel l =
    channel-each s (CarriesIssued history) ((λ k cycle source b. tt), (λ k cycle access source b. tt)) channel l (steps_of_channel channel history)

pub inbox-issued : (s : Config) (traces : List (List Entry)) (history : List MachineStep) (unit : MachineUnit) → Each (CarriesIssued history) (inbox s traces history unit)
unfolding inbox messages
inbox-issued s traces history unit =
    Each-by_age (CarriesIssued history) _
    (Each-filter_with (CarriesIssued history) (CarriesIssued history) (is_to s unit) (λ m e h. h) (messages s traces history)
    (Each-append (CarriesIssued history) (flat_map (messages_of_core s traces history) (below s.cores)) _
    (Each-flat_map_below (CarriesIssued history) (messages_of_core s traces history) s.cores (λ core l. of_core-issued s traces history core))
    (Each-flat_map_below (CarriesIssued history) (messages_of_channel s history) s.channels (λ channel l. of_channel-issued s history channel l))))

-- the entry for which a channel issues a column command in a cycle, if it issues one
abbrev pub column_source : Option Command → Option Source
column_source (Some (Rd bank row column source)) = Some source
column_source (Some (Wr bank row column source)) = Some source
column_source (Some (Act bank row source)) = None
column_source (Some (Pre bank source)) = None
column_source (Some (Prea rank)) = None
column_source (Some (Ref rank)) = None
column_source None = None

-- what holds of the entries of all requests holds of the one that is served
needed_at-column : (P : Source → Type 0) (r : Request) → P (source_of r) → (row : Option ℕ) → IfSome (column_source (Some (needed_at row r))) P
needed_at-column P r h None = tt
needed_at-column P r h (Some row) =
    cond_both (eqb row r.place.row) (column_command r) (Pre (bank_in r.place) (source_of r)) (λ c. IfSome (column_source (Some c)) P)
    (λ e. column_both (λ c. IfSome (column_source (Some c)) P) r.access _ _ _ _ (λ f. h) (λ f. h))
    (λ e. tt)

needed-column : (P : Source → Type 0) (history : List IssuedCommand) (o : Option Request) → IfSome o (λ r. P (source_of r)) → IfSome (column_source (option_map (needed history) o)) P
unfolding needed
needed-column P history None h = tt
needed-column P history (Some r) h = needed_at-column P r h (open_row (bank_in r.place) history)

between-column : (P : Source → Type 0) (s : Config) (history : List IssuedCommand) (now : ℕ) (requests : List Request) → Each (λ (r : Request). P (source_of r)) requests
    → (due : Option ℕ) → IfSome (column_source (choice_between s history now requests due)) P
unfolding choice_between first_ready if_legal refresh_command
between-column P s history now requests h None =
    needed-column P history _
    (or_else-each (λ r. P (source_of r)) _ _ (IfSome-find _ (ready_hit s history now) requests h) (IfSome-find _ (ready_row s history now requests) requests h))
between-column P s history now requests h (Some rank) =
    cond_both (is_legal s history now (refresh_command s history rank)) _ _ (λ o. IfSome (column_source o) P)
    (λ e. cond_both (has_open_bank s history rank) _ _ (λ c. IfSome (column_source (Some c)) P) (λ f. tt) (λ f. tt))
    (λ e. tt)

pub choice-column : (P : Source → Type 0) (s : Config) (channel : ℕ) (steps : List (Option Command)) (inbox : List Message)
    → Each (λ (r : Request). P (source_of r)) (queue_in channel steps inbox (length steps)) → IfSome (column_source (choice s channel steps inbox)) P
unfolding choice
choice-column P s channel steps inbox h =
    let history = issued_commands channel steps in
    between-column P s history (length steps) _
    (candidates-each (λ r. P (source_of r)) s (drains s channel steps inbox (length steps)) (queue_in channel steps inbox (length steps)) h)
    (lowest_due s history (length steps))

-- an entry was issued before a cycle
abbrev pub IssuedBefore : List MachineStep → ℕ → Source → Type 0
IssuedBefore history cycle source = source.entry < issued_before (take cycle (steps_of_core source.core history))

queued_requests-issued : (s : Config) (traces : List (List Entry)) (history : List MachineStep) (channel : ℕ) (steps : List (Option Command)) → length steps ≡ length history
    → Each (λ (r : Request). IssuedBefore history (length history) (source_of r)) (queue_in channel steps (inbox s traces history (Channel channel)) (length steps))
unfolding queue_in queued_requests
queued_requests-issued s traces history channel steps e =
    Each-filter_with (RequestIssued history) (λ r. IssuedBefore history (length history) (source_of r)) _ in_time _
    (Each-filter_map (RequestIssued history) (λ m. request_in m.payload) (inbox s traces history (Channel channel)) (inbox-issued s traces history (Channel channel)))
  where
    in_time : (r : Request) → is_queued (issued_commands channel (take (length steps) steps)) (length steps + 1) r ≡ true → RequestIssued history r
        → IssuedBefore history (length history) (source_of r)
    in_time r p h =
        let l : r.arrival < length steps + 1 = ltb-true r.arrival (length steps + 1) (and_parts _ _ p).0 in
        let m : issued_before (take r.arrival (steps_of_core r.core history)) ≤ issued_before (take (length history) (steps_of_core r.core history)) =
        issued_before-take-later (steps_of_core r.core history) r.arrival (length history) (omega arith) in
        omega arith

-- each entry for which a channel issued a column command was issued in an earlier cycle
abbrev pub ServesIssued : List MachineStep → ℕ → Type 0
ServesIssued history channel = (cycle : ℕ) → cycle < length history → IfSome (column_source (get_or (steps_of_channel channel history) cycle None)) (IssuedBefore history cycle)

pub length-steps_of_core : (core : ℕ) (history : List MachineStep) → length (steps_of_core core history) ≡ length history
unfolding steps_of_core
length-steps_of_core core history = length-map history (step_of_core core)

pub length-steps_of_channel : (channel : ℕ) (history : List MachineStep) → length (steps_of_channel channel history) ≡ length history
unfolding steps_of_channel
length-steps_of_channel channel history = length-map history (step_of_channel channel)

pub steps_of_core-push : (core : ℕ) (history : List MachineStep) (machine_step : MachineStep) → steps_of_core core (history ++ machine_step ∷ []) ≡ steps_of_core core history ++ step_of_core core machine_step ∷ []
unfolding steps_of_core
steps_of_core-push core history machine_step = map_push (step_of_core core) history machine_step

pub steps_of_channel-push : (channel : ℕ) (history : List MachineStep) (machine_step : MachineStep) → steps_of_channel channel (history ++ machine_step ∷ []) ≡ steps_of_channel channel history ++ step_of_channel channel machine_step ∷ []
unfolding steps_of_channel
steps_of_channel-push channel history machine_step = map_push (step_of_channel channel) history machine_step

-- a machine_step more does not change what was issued before
IssuedBefore-push : (history : List MachineStep) (machine_step : MachineStep) (cycle : ℕ) → cycle ≤ length history → (source : Source) → IssuedBefore history cycle source → IssuedBefore (history ++ machine_step ∷ []) cycle source
IssuedBefore-push history machine_step cycle l source h =
    let len : length (steps_of_core source.core history) ≡ length history = length-steps_of_core source.core history in
    let e : issued_before (take cycle (steps_of_core source.core (history ++ machine_step ∷ []))) ≡ issued_before (take cycle (steps_of_core source.core history)) =
    ap (λ x. issued_before (take cycle x)) (steps_of_core-push source.core history machine_step)
    ∙ ap issued_before (take-push (steps_of_core source.core history) (step_of_core source.core machine_step) cycle (omega arith)) in
    omega arith

serves-next : (s : Config) (traces : List (List Entry)) (history : List MachineStep) (channel : ℕ) → channel < s.channels → ServesIssued history channel
    → ServesIssued (history ++ next_step s traces history ∷ []) channel
serves-next s traces history channel l h cycle b =
    let machine_step = next_step s traces history in
    let steps = steps_of_channel channel history in
    let len : length steps ≡ length history = length-steps_of_channel channel history in
    let more : length (history ++ machine_step ∷ []) ≡ suc (length history) = length-push_suc history machine_step in
    ⊎_elim
    (λ (earlier : cycle < length history).
    subst (λ o. IfSome (column_source o) (IssuedBefore (history ++ machine_step ∷ []) cycle))
    (sym (ap (λ x. get_or x cycle None) (steps_of_channel-push channel history machine_step) ∙ get_or-append steps (step_of_channel channel machine_step ∷ []) None cycle (omega arith)))
    (IfSome_then _ (h cycle earlier) (IssuedBefore-push history machine_step cycle (omega arith))))
    (λ (last : length history ≤ cycle).
    let now : cycle ≡ length steps = omega arith in
    subst (λ o. IfSome (column_source o) (IssuedBefore (history ++ machine_step ∷ []) cycle))
    (sym (ap₂ (λ x i. get_or x i None) (steps_of_channel-push channel history machine_step) now
    ∙ get_or-append_seam steps (step_of_channel channel machine_step) [] None ∙ step_of_channel-next s traces history channel l))
    (IfSome_then (column_source (choice s channel steps (inbox s traces history (Channel channel))))
    (choice-column (IssuedBefore history (length history)) s channel steps (inbox s traces history (Channel channel)) (queued_requests-issued s traces history channel steps len))
    (λ source k. subst (λ i. IssuedBefore (history ++ machine_step ∷ []) i source) (sym (now ∙ len)) (IssuedBefore-push history machine_step (length history) (omega arith) source k))))
    (cases_lt cycle (length history))

pub serves-run : (s : Config) (traces : List (List Entry)) (n channel : ℕ) → channel < s.channels → ServesIssued (run s traces n) channel
unfolding run
serves-run s traces zero channel l = λ cycle b. absurd (omega arith)
serves-run s traces (suc n) channel l = serves-next s traces (run s traces n) channel l (serves-run s traces n channel l)

-- the entry of a reply was issued before it came to the core at the end of its link
abbrev pub AnswersIssued : Config → List MachineStep → Message → Type 0
AnswersIssued s history m = IfSome (replied_entry m.payload) (λ entry. entry < issued_before (take m.arrival (steps_of_core (m.link / 3 / s.channels) history)))

reply-answers : (s : Config) (history : List MachineStep) (channel cycle : ℕ) → channel < s.channels → (source : Source) → IssuedBefore history cycle source
    → AnswersIssued s history (reply s channel cycle source)
unfolding reply
reply-answers s history channel cycle l source h =
    let link = reply_link s source.core channel in
    let x = source.core * s.channels + channel in
    let third : (3 * x + 1) / 3 ≡ x = omega arith in
    let e : link / 3 / s.channels ≡ source.core = ap (λ y. y / s.channels) third ∙ div-mul-add source.core s.channels channel l in
    let arrival = cycle + s.timing.n_cl + 4 + latency s link in
    let m : issued_before (take cycle (steps_of_core source.core history)) ≤ issued_before (take arrival (steps_of_core source.core history)) =
    issued_before-take-later (steps_of_core source.core history) cycle arrival (omega arith) in
    subst (λ c. source.entry < issued_before (take arrival (steps_of_core c history))) (sym e) (omega arith)

messages_at-answer : (s : Config) (history : List MachineStep) (channel cycle : ℕ) → channel < s.channels → (o : Option Command) → IfSome (column_source o) (IssuedBefore history cycle)
    → Each (AnswersIssued s history) (messages_at s channel cycle o)
unfolding messages_of credit
messages_at-answer s history channel cycle l None h = tt
messages_at-answer s history channel cycle l (Some (Rd bank row column source)) h = (reply-answers s history channel cycle l source h, (tt, tt))
messages_at-answer s history channel cycle l (Some (Wr bank row column source)) h = (tt, tt)
messages_at-answer s history channel cycle l (Some (Act bank row source)) h = tt
messages_at-answer s history channel cycle l (Some (Pre bank source)) h = tt
messages_at-answer s history channel cycle l (Some (Prea rank)) h = tt
messages_at-answer s history channel cycle l (Some (Ref rank)) h = tt

of_channel-answer : (s : Config) (history : List MachineStep) (channel : ℕ) → channel < s.channels → ServesIssued history channel
    → Each (AnswersIssued s history) (messages_of_channel s history channel)
unfolding messages_of_channel channel_messages messages_in
of_channel-answer s history channel l h =
    let steps = steps_of_channel channel history in
    let len : length steps ≡ length history = length-steps_of_channel channel history in
    Each-flat_map_below (AnswersIssued s history) (messages_in s channel steps) (length steps)
    (λ cycle b. messages_at-answer s history channel cycle l (get_or steps cycle None) (h cycle (omega arith)))

of_core-answer : (s : Config) (traces : List (List Entry)) (history : List MachineStep) (core : ℕ) → core < s.cores → Each (AnswersIssued s history) (messages_of_core s traces history core)
unfolding messages_of_core request
of_core-answer s traces history core l =
    requests-each s (AnswersIssued s history) (λ c cycle entry access address b. tt) core l (trace_of traces core) (steps_of_core core history)

messages-answer : (s : Config) (traces : List (List Entry)) (n : ℕ) → Each (AnswersIssued s (run s traces n)) (messages s traces (run s traces n))
unfolding messages
messages-answer s traces n =
    let history = run s traces n in
    Each-append (AnswersIssued s history) (flat_map (messages_of_core s traces history) (below s.cores)) _
    (Each-flat_map_below (AnswersIssued s history) (messages_of_core s traces history) s.cores (λ core l. of_core-answer s traces history core l))
    (Each-flat_map_below (AnswersIssued s history) (messages_of_channel s history) s.channels (λ channel l. of_channel-answer s history channel l (serves-run s traces n channel l)))

core_of_link : (s : Config) (core : ℕ) (m : Message) → is_to s (Core core) m ≡ true → m.link / 3 / s.channels ≡ core
core_of_link s core m h = by (eqb (m.link % 3) 0) h
  where
    by : (b : Bool) → is_unit (cond b (Channel (m.link / 3 % s.channels)) (Core (m.link / 3 / s.channels))) (Core core) ≡ true → m.link / 3 / s.channels ≡ core
    by true k = absurd (false≢true k)
    by false k = eqb-true (m.link / 3 / s.channels) core k

answers-follow : (s : Config) (history : List MachineStep) (core : ℕ) (m : Message) → is_to s (Core core) m ≡ true → AnswersIssued s history m → FollowsItsRead (steps_of_core core history) m
answers-follow s history core m h k =
    IfSome_then (replied_entry m.payload) (subst (λ c. IfSome (replied_entry m.payload) (λ entry. entry < issued_before (take m.arrival (steps_of_core c history)))) (core_of_link s core m h) k)
    (λ entry i l. i)

-- in a run each reply is of an entry that was issued before it came
pub RepliesFollowReads-run : (s : Config) (traces : List (List Entry)) (n core : ℕ) → RepliesFollowReads (steps_of_core core (run s traces n)) (inbox s traces (run s traces n) (Core core))
unfolding inbox
RepliesFollowReads-run s traces n core =
    let history = run s traces n in
    Each-by_age (FollowsItsRead (steps_of_core core history)) _
    (Each-filter_with (AnswersIssued s history) (FollowsItsRead (steps_of_core core history)) (is_to s (Core core)) (answers-follow s history core) (messages s traces history)
    (messages-answer s traces n))
