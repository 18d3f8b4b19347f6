-- Replies are those of Reads, one for each at most.
use Rattle.std.proofs.Common.{◌≡◌, ℕ, zero, suc, ◌+◌, ◌<◌, ◌≤◌, Bool, true, false, ◌&&◌, cond, eqb, List, [], ◌∷◌, ◌++◌, length, take, Option, Some, None, refl, sym, ap, ap₂, subst, ◌∙◌, ◌⊎◌, inl, inr, arith, add-zero}
use Rattle.std.specs.Prelude.{count_by, filter, flat_map, slice_get}
use Rattle.std.specs.Option.{IfSome}
use Rattle.std.specs.List.{AllByRecursion as Each}
use Rattle.std.proofs.lemmas.Bool.{and_parts, eqb-true, cases_lt, and_right, and_from, eq-eqb}
use Rattle.std.proofs.lemmas.List.{map-append, length-map, take-append-le, take_all}
use Rattle.std.proofs.lemmas.List.Elements.{All-from_recursion}
use Rattle.sim_base.specs.declared.message.Access.{Access}
use Rattle.sim_base.specs.declared.message.Access.TheVariants as access
use Rattle.sim_base.specs.declared.config.Config.{Config}
use Rattle.sim_base.specs.Config.{reply_link, latency}
use Rattle.sim_base.specs.MachineStep.{MachineStep, step_of_core, step_of_channel}
use Rattle.sim_base.specs.History.{below, trace_of, steps_of_core, issued_before, request, request_of, reply, credit, messages_of, messages_at, messages, is_unit, is_to, by_age, inbox}
use Rattle.sim_base.specs.Sends.{core_sends, channel_sends, sends}
use Rattle.sim_base.specs.Scheduling.{source_of}
use Rattle.sim_base.specs.Machine.{next_step, run}
use Rattle.sim_base.specs.Windows.{is_reply_to}
use Rattle.sim_base.specs.declared.history.CoreStep.{CoreStep}
use Rattle.sim_base.specs.declared.command.Command.{Command}
use Rattle.sim_base.specs.declared.command.Command.TheVariants.{Act, Rd, Wr, Pre, Prea, Ref}
use Rattle.sim_base.specs.declared.command.Source.{Source}
use Rattle.sim_base.specs.declared.message.Payload.{Payload}
use Rattle.sim_base.specs.declared.message.Payload.TheVariants as payload
use Rattle.sim_base.specs.declared.message.Message.{Message}
use Rattle.sim_base.specs.declared.message.Request.{Request}
use Rattle.sim_base.specs.declared.message.Unit.TheVariants.{Core}
use Rattle.sim_base.specs.declared.trace.Entry.{Entry}
use Rattle.sim_base.specs.declared.trace.Entry.TheVariants.{Plain, Read, Write}
use Rattle.sim_base.proofs.Arrived.{Each-by_age}
use Rattle.sim_base.proofs.Below.{flat_map_below_more}
use Rattle.sim_base.proofs.Ordered.{Each-weaker}
use Rattle.sim_base.proofs.Spans.{length_run, step_of_channel-next}
use Rattle.sim_base.proofs.Lists.{bit, count-cons}
use Rattle.laws.specs.Messages.{memory_entry}
use Rattle.laws.specs.Requests.{serves_entry_in, AnswersReadAs, AnswersRead, RepliesAnswerReads, ReadsAreAnsweredOnce}
use Rattle.laws.proofs.Counting.{count-append, count-none, count-filter, count-flat_map-none, count-flat_map-bound}
use Rattle.laws.proofs.Legal.{chosen}
use Rattle.laws.proofs.Once.{ServesAt, one_channel, served_once}
use Rattle.laws.proofs.Receivers.{receiver_reply, Each-filter_passes}
use Rattle.laws.proofs.Sent.{count-by_age, count-messages, Each-messages, messages-none, issues-each, sends-each}
use Rattle.laws.proofs.Traced.{Queued, ServesQueued, chosen-serves}
use Rattle.statistics.proofs.Replies.{issued_before-take-later}

-- and is issued whatever comes after
issued-kept : (steps : List CoreStep) (core_step : CoreStep) (a : ℕ) → issued_before (take a steps) ≤ issued_before (take a (steps ++ core_step ∷ []))
issued-kept steps core_step a = go (cases_lt a (length steps))
  where
    whole : issued_before (take (length steps) (steps ++ core_step ∷ [])) ≡ issued_before steps
    whole = ap issued_before (take-append-le (length steps) steps (core_step ∷ []) (omega arith) ∙ take_all (length steps) steps (omega arith))

    go : (a < length steps) ⊎ (length steps ≤ a) → issued_before (take a steps) ≤ issued_before (take a (steps ++ core_step ∷ []))
    go (inl b) = let e = ap issued_before (take-append-le a steps (core_step ∷ []) (omega arith)) in omega arith
    go (inr b) =
        let e = ap issued_before (take_all a steps b) in
        let l = issued_before-take-later (steps ++ core_step ∷ []) (length steps) a b in
        omega (arith, whole)

-- a message that goes to this core is a reply to a Read that it issued before
abbrev Answers : List (List Entry) → List MachineStep → Config → ℕ → Message → Type 0
Answers traces history s c m = is_to s (Core c) m ≡ true → AnswersRead (trace_of traces c) (steps_of_core c history) m

answers-kept : (trace : List Entry) (steps : List CoreStep) (core_step : CoreStep) (cycle : ℕ) (l : Payload) → AnswersReadAs trace steps cycle l → AnswersReadAs trace (steps ++ core_step ∷ []) cycle l
answers-kept trace steps core_step cycle (payload.Reply entry) h = (h.0, let k = issued-kept steps core_step cycle in omega arith)
answers-kept trace steps core_step cycle (payload.Request r) h = tt
answers-kept trace steps core_step cycle (payload.Credit access entry) h = tt

request-answers : (s : Config) (traces : List (List Entry)) (history : List MachineStep) (c core cycle entry : ℕ) (e : Entry) → IfSome (request_of s core cycle entry e) (Answers traces history s c)
unfolding request
request-answers s traces history c core cycle entry Plain = tt
request-answers s traces history c core cycle entry (Read address) = λ h. tt
request-answers s traces history c core cycle entry (Write address) = λ h. tt

-- a reply goes to the core whose entry it is
reply-to : (s : Config) (c k cycle : ℕ) (source : Source) → k < s.channels → is_to s (Core c) (reply s k cycle source) ≡ true → source.core ≡ c
unfolding reply
reply-to s c k cycle source l h =
    let f : eqb source.core c ≡ true = ap (λ u. is_unit u (Core c)) (sym (receiver_reply s source.core k l)) ∙ h in
    eqb-true _ _ f

reply-answers : (s : Config) (traces : List (List Entry)) (n c k : ℕ) (source : Source) (machine_step : MachineStep) → k < s.channels
    → ((r : Request) × Queued s traces n k r × (r.access ≡ access.Read) × (source ≡ source_of r))
    → Answers traces (run s traces n ++ machine_step ∷ []) s c (reply s k (length (run s traces n)) source)
unfolding reply steps_of_core
reply-answers s traces n c k source machine_step l q h =
    let history = run s traces n in
    let steps = steps_of_core c history in
    let arrival = length history + s.timing.n_cl + 4 + latency s (reply_link s source.core k) in
    let e : source.core ≡ c = reply-to s c k (length history) source l h in
    let a : q.0.core ≡ c = sym (ap (λ (x : Source). x.core) q.3) ∙ e in
    let b : q.0.entry ≡ source.entry = sym (ap (λ (x : Source). x.entry) q.3) in
    let read : slice_get (trace_of traces c) source.entry ≡ Some (Read q.0.address) =
    sym (ap₂ (λ y z. slice_get (trace_of traces y) z) a b) ∙ q.1.traced.entry ∙ ap (λ w. Some (memory_entry w q.0.address)) q.2 in
    let soon : source.entry < issued_before steps =
    subst (λ z. z < issued_before steps) b (subst (λ y. q.0.entry < issued_before (steps_of_core y history)) a q.1.traced.issued) in
    let long : length steps ≡ length history = length-map history (step_of_core c) in
    let full : issued_before (take arrival steps) ≡ issued_before steps = ap issued_before (take_all arrival steps (omega arith)) in
    let kept : issued_before (take arrival steps) ≤ issued_before (take arrival (steps ++ step_of_core c machine_step ∷ [])) = issued-kept steps (step_of_core c machine_step) arrival in
    let same : issued_before (take arrival (steps_of_core c (history ++ machine_step ∷ []))) ≡ issued_before (take arrival (steps ++ step_of_core c machine_step ∷ [])) =
    ap (λ x. issued_before (take arrival x)) (map-append (step_of_core c) history (machine_step ∷ [])) in
    ((q.0.address, read), omega arith)

credit-answers : (s : Config) (traces : List (List Entry)) (history : List MachineStep) (c k cycle : ℕ) (access : Access) (source : Source) → Answers traces history s c (credit s k cycle access source)
unfolding credit
credit-answers s traces history c k cycle access source = λ h. tt

command-answers : (s : Config) (traces : List (List Entry)) (n c k : ℕ) (row : MachineStep) → k < s.channels → (o : Option Command) → IfSome o (ServesQueued s traces n k)
    → Each (Answers traces (run s traces n ++ row ∷ []) s c) (messages_at s k (length (run s traces n)) o)
unfolding messages_of
command-answers s traces n c k row l None h = tt
command-answers s traces n c k row l (Some (Rd bank r column source)) h =
    (reply-answers s traces n c k source row l h, (credit-answers s traces (run s traces n ++ row ∷ []) c k (length (run s traces n)) access.Read source, tt))
command-answers s traces n c k row l (Some (Wr bank r column source)) h = (credit-answers s traces (run s traces n ++ row ∷ []) c k (length (run s traces n)) access.Write source, tt)
command-answers s traces n c k row l (Some (Act bank r source)) h = tt
command-answers s traces n c k row l (Some (Pre bank source)) h = tt
command-answers s traces n c k row l (Some (Prea rank)) h = tt
command-answers s traces n c k row l (Some (Ref rank)) h = tt

sends-answers : (s : Config) (traces : List (List Entry)) (n c : ℕ)
    → Each (Answers traces (run s traces n ++ next_step s traces (run s traces n) ∷ []) s c) (sends s traces (run s traces n) (next_step s traces (run s traces n)))
unfolding channel_sends
sends-answers s traces n c =
    let history = run s traces n in
    let machine_step = next_step s traces history in
    let P = Answers traces (history ++ machine_step ∷ []) s c in
    sends-each P s traces history machine_step
    (λ i l. issues-each P s traces history i l (λ j e b f g. request-answers s traces (history ++ machine_step ∷ []) c i (length history) _ e))
    (λ k l. command-answers s traces n c k machine_step l (step_of_channel k machine_step)
    (subst (λ o. IfSome o (ServesQueued s traces n k)) (sym (step_of_channel-next s traces history k l)) (chosen-serves s traces n k)))

messages-answer : (s : Config) (traces : List (List Entry)) (c n : ℕ) → Each (Answers traces (run s traces n) s c) (messages s traces (run s traces n))
unfolding run steps_of_core
messages-answer s traces c zero = subst (Each (Answers traces [] s c)) (sym (messages-none s traces)) tt
messages-answer s traces c (suc n) =
    let history = run s traces n in
    let machine_step = next_step s traces history in
    Each-messages (Answers traces (history ++ machine_step ∷ []) s c) s traces history machine_step
    (Each-weaker (Answers traces history s c) (Answers traces (history ++ machine_step ∷ []) s c)
    (λ m h k. subst (λ steps. AnswersRead (trace_of traces c) steps m) (sym (map-append (step_of_core c) history (machine_step ∷ [])))
    (answers-kept (trace_of traces c) (steps_of_core c history) (step_of_core c machine_step) m.arrival m.payload (h k)))
    (messages s traces history) (messages-answer s traces c n))
    (sends-answers s traces n c)

pub replies_answer_reads : (s : Config) (traces : List (List Entry)) (n : ℕ) → RepliesAnswerReads s traces n
unfolding inbox
replies_answer_reads s traces n c l =
    let history = run s traces n in
    let P = AnswersRead (trace_of traces c) (steps_of_core c history) in
    All-from_recursion P (by_age (filter (is_to s (Core c)) (messages s traces history)))
    (Each-by_age P (filter (is_to s (Core c)) (messages s traces history))
    (Each-weaker _ P (λ m h. h.1 h.0) _
    (Each-filter_passes (Answers traces history s c) (is_to s (Core c)) (messages s traces history) (messages-answer s traces c n))))

-- a reply to this entry of this core
abbrev replies_to : Config → ℕ → ℕ → Message → Bool
replies_to s c entry m = is_to s (Core c) m && is_reply_to entry m.payload

abbrev Served : Config → List (List Entry) → ℕ → ℕ → ℕ → Type 0
Served s traces c entry n = (k : ℕ) × (k < s.channels) × ServesAt s traces c entry k n

credit-no_reply : (s : Config) (c entry k cycle : ℕ) (access : Access) (source : Source) → replies_to s c entry (credit s k cycle access source) ≡ false
unfolding credit
credit-no_reply s c entry k cycle access source = and_right (is_to s (Core c) (credit s k cycle access source)) false refl

-- what a channel sends for a command is a reply to an entry at most where it serves the entry
count-read : (s : Config) (c entry k cycle : ℕ) (source : Source)
    → count_by (replies_to s c entry) (reply s k cycle source ∷ credit s k cycle access.Read source ∷ []) ≡ cond (replies_to s c entry (reply s k cycle source)) 1 0
count-read s c entry k cycle source =
    count-cons (replies_to s c entry) (reply s k cycle source) (credit s k cycle access.Read source ∷ [])
    ∙ ap (λ n. cond (replies_to s c entry (reply s k cycle source)) 1 0 + n) (count-none (replies_to s c entry) (credit s k cycle access.Read source ∷ []) (credit-no_reply s c entry k cycle access.Read source, tt))
    ∙ add-zero _

count-write : (s : Config) (c entry k cycle : ℕ) (source : Source) → count_by (replies_to s c entry) (credit s k cycle access.Write source ∷ []) ≡ 0
count-write s c entry k cycle source = count-none (replies_to s c entry) (credit s k cycle access.Write source ∷ []) (credit-no_reply s c entry k cycle access.Write source, tt)

reply-entry : (s : Config) (c entry k cycle : ℕ) (source : Source) → k < s.channels → replies_to s c entry (reply s k cycle source) ≡ true
    → (eqb c source.core && eqb entry source.entry) ≡ true
unfolding reply
reply-entry s c entry k cycle source l h =
    let both = and_parts (is_to s (Core c) (reply s k cycle source)) (eqb entry source.entry) h in
    and_from (eqb c source.core) (eqb entry source.entry) (eq-eqb c source.core (sym (reply-to s c k cycle source l both.0))) both.1

positive : (b : Bool) (n : ℕ) → n ≡ cond b 1 0 → 0 < n → b ≡ true
positive true n e h = refl
positive false n e h = absurd (omega arith)

command-replies : (s : Config) (c entry k cycle : ℕ) → k < s.channels → (o : Option Command) → 0 < count_by (replies_to s c entry) (messages_at s k cycle o) → serves_entry_in c entry o ≡ true
unfolding messages_of
command-replies s c entry k cycle l None h = absurd (omega arith)
command-replies s c entry k cycle l (Some (Rd bank r column source)) h =
    reply-entry s c entry k cycle source l (positive (replies_to s c entry (reply s k cycle source)) _ (count-read s c entry k cycle source) h)
command-replies s c entry k cycle l (Some (Wr bank r column source)) h = let e = count-write s c entry k cycle source in absurd (omega arith)
command-replies s c entry k cycle l (Some (Act bank r source)) h = absurd (omega arith)
command-replies s c entry k cycle l (Some (Pre bank source)) h = absurd (omega arith)
command-replies s c entry k cycle l (Some (Prea rank)) h = absurd (omega arith)
command-replies s c entry k cycle l (Some (Ref rank)) h = absurd (omega arith)

command-one_reply : (s : Config) (c entry k cycle : ℕ) (o : Option Command) → count_by (replies_to s c entry) (messages_at s k cycle o) ≤ 1
unfolding messages_of
command-one_reply s c entry k cycle None = omega arith
command-one_reply s c entry k cycle (Some (Rd bank r column source)) = let e = count-read s c entry k cycle source in let b = bit (replies_to s c entry (reply s k cycle source)) in omega arith
command-one_reply s c entry k cycle (Some (Wr bank r column source)) = let e = count-write s c entry k cycle source in omega arith
command-one_reply s c entry k cycle (Some (Act bank r source)) = omega arith
command-one_reply s c entry k cycle (Some (Pre bank source)) = omega arith
command-one_reply s c entry k cycle (Some (Prea rank)) = omega arith
command-one_reply s c entry k cycle (Some (Ref rank)) = omega arith

-- what a channel sends in the cycle after n
channel-sends : (s : Config) (traces : List (List Entry)) (n k : ℕ) → k < s.channels
    → channel_sends s (run s traces n) (next_step s traces (run s traces n)) k ≡ messages_at s k n (chosen s traces n k)
unfolding channel_sends
channel-sends s traces n k l = ap₂ (λ i o. messages_at s k i o) (length_run s traces n) (step_of_channel-next s traces (run s traces n) k l)

channel-replies : (s : Config) (traces : List (List Entry)) (c entry n k : ℕ) → k < s.channels
    → 0 < count_by (replies_to s c entry) (channel_sends s (run s traces n) (next_step s traces (run s traces n)) k) → ServesAt s traces c entry k n
channel-replies s traces c entry n k l h =
    command-replies s c entry k n l (chosen s traces n k) (subst (λ ms. 0 < count_by (replies_to s c entry) ms) (channel-sends s traces n k l) h)

-- no request is a reply
request-no_reply : (s : Config) (c entry core cycle i : ℕ) (e : Entry) → IfSome (request_of s core cycle i e) (λ (m : Message). replies_to s c entry m ≡ false)
unfolding request
request-no_reply s c entry core cycle i Plain = tt
request-no_reply s c entry core cycle i (Read address) = and_right (is_to s (Core c) (request s core cycle i access.Read address)) false refl
request-no_reply s c entry core cycle i (Write address) = and_right (is_to s (Core c) (request s core cycle i access.Write address)) false refl

cores-no_reply : (s : Config) (traces : List (List Entry)) (c entry n i : ℕ) → i < s.cores
    → count_by (replies_to s c entry) (core_sends s traces (run s traces n) (next_step s traces (run s traces n)) i) ≡ 0
cores-no_reply s traces c entry n i l =
    count-none (replies_to s c entry) _
    (issues-each (λ (m : Message). replies_to s c entry m ≡ false) s traces (run s traces n) i l (λ j e b f g. request-no_reply s c entry i (length (run s traces n)) _ e))

-- some part of what is counted passes
some_part : (p : Message → Bool) (f : ℕ → List Message) (n : ℕ) → 0 < count_by p (flat_map f (below n)) → (i : ℕ) × (i < n) × (0 < count_by p (f i))
some_part p f zero h = absurd (omega arith)
some_part p f (suc n) h = go (cases_lt 0 (count_by p (f n))) (some_part p f n)
  where
    e : count_by p (flat_map f (below (suc n))) ≡ count_by p (flat_map f (below n)) + count_by p (f n)
    e = ap (count_by p) (flat_map_below_more f n) ∙ count-append p (flat_map f (below n)) (f n)

    go : (0 < count_by p (f n)) ⊎ (count_by p (f n) ≤ 0) → (0 < count_by p (flat_map f (below n)) → (i : ℕ) × (i < n) × (0 < count_by p (f i))) → (i : ℕ) × (i < suc n) × (0 < count_by p (f i))
    go (inl b) rest = (n, omega arith, b)
    go (inr b) rest = let r = rest (omega (arith, e)) in (r.0, omega arith, r.2)

cycle-replies : (s : Config) (traces : List (List Entry)) (c entry n : ℕ) → 0 < count_by (replies_to s c entry) (sends s traces (run s traces n) (next_step s traces (run s traces n)))
    → Served s traces c entry n
unfolding sends
cycle-replies s traces c entry n h =
    let p = replies_to s c entry in
    let machine_step = next_step s traces (run s traces n) in
    let f = core_sends s traces (run s traces n) machine_step in
    let g = channel_sends s (run s traces n) machine_step in
    let a : count_by p (flat_map f (below s.cores) ++ flat_map g (below s.channels)) ≡ count_by p (flat_map f (below s.cores)) + count_by p (flat_map g (below s.channels)) = count-append p (flat_map f (below s.cores)) _ in
    let b : count_by p (flat_map f (below s.cores)) ≡ 0 = count-flat_map-none p f s.cores (cores-no_reply s traces c entry n) in
    let r = some_part p g s.channels (omega arith) in
    (r.0, r.1, channel-replies s traces c entry n r.0 r.1 r.2)

-- in a cycle an entry is answered once at most
other-channels : (s : Config) (traces : List (List Entry)) (c entry n k : ℕ) → ServesAt s traces c entry k n → (i : ℕ) → i < s.channels → (i ≡ k → ⊥)
    → count_by (replies_to s c entry) (channel_sends s (run s traces n) (next_step s traces (run s traces n)) i) ≡ 0
other-channels s traces c entry n k a i l ne = go (cases_lt 0 (count_by (replies_to s c entry) (channel_sends s (run s traces n) (next_step s traces (run s traces n)) i)))
  where
    go : (0 < count_by (replies_to s c entry) (channel_sends s (run s traces n) (next_step s traces (run s traces n)) i)) ⊎ (count_by (replies_to s c entry) (channel_sends s (run s traces n) (next_step s traces (run s traces n)) i) ≤ 0)
        → count_by (replies_to s c entry) (channel_sends s (run s traces n) (next_step s traces (run s traces n)) i) ≡ 0
    go (inl b) = absurd (ne (one_channel s traces c entry i k n n (channel-replies s traces c entry n i l b) a))
    go (inr b) = omega arith

cycle-bound : (s : Config) (traces : List (List Entry)) (c entry n k : ℕ) → ServesAt s traces c entry k n
    → count_by (replies_to s c entry) (sends s traces (run s traces n) (next_step s traces (run s traces n))) ≤ 1
unfolding sends channel_sends
cycle-bound s traces c entry n k a =
    let p = replies_to s c entry in
    let machine_step = next_step s traces (run s traces n) in
    let f = core_sends s traces (run s traces n) machine_step in
    let g = channel_sends s (run s traces n) machine_step in
    let e : count_by p (flat_map f (below s.cores) ++ flat_map g (below s.channels)) ≡ count_by p (flat_map f (below s.cores)) + count_by p (flat_map g (below s.channels)) = count-append p (flat_map f (below s.cores)) _ in
    let b : count_by p (flat_map f (below s.cores)) ≡ 0 = count-flat_map-none p f s.cores (cores-no_reply s traces c entry n) in
    let d : count_by p (flat_map g (below s.channels)) ≤ 1 =
    count-flat_map-bound p g s.channels k 1 (other-channels s traces c entry n k a) (λ l. command-one_reply s c entry k (length (run s traces n)) (step_of_channel k machine_step)) in
    omega arith

cycle-one_reply : (s : Config) (traces : List (List Entry)) (c entry n : ℕ) → count_by (replies_to s c entry) (sends s traces (run s traces n) (next_step s traces (run s traces n))) ≤ 1
cycle-one_reply s traces c entry n = go (cases_lt 0 (count_by (replies_to s c entry) (sends s traces (run s traces n) (next_step s traces (run s traces n)))))
  where
    go : (0 < count_by (replies_to s c entry) (sends s traces (run s traces n) (next_step s traces (run s traces n)))) ⊎ (count_by (replies_to s c entry) (sends s traces (run s traces n) (next_step s traces (run s traces n))) ≤ 0)
        → count_by (replies_to s c entry) (sends s traces (run s traces n) (next_step s traces (run s traces n))) ≤ 1
    go (inl b) = let at = cycle-replies s traces c entry n b in cycle-bound s traces c entry n at.0 at.2
    go (inr b) = omega arith

-- an entry that was answered was served before
past-replies : (s : Config) (traces : List (List Entry)) (c entry n : ℕ) → 0 < count_by (replies_to s c entry) (messages s traces (run s traces n)) → (t : ℕ) × (t < n) × Served s traces c entry t
unfolding run
past-replies s traces c entry zero h = absurd (let e = ap (count_by (replies_to s c entry)) (messages-none s traces) in omega arith)
past-replies s traces c entry (suc n) h = go (cases_lt 0 (count_by (replies_to s c entry) (sends s traces (run s traces n) (next_step s traces (run s traces n))))) (past-replies s traces c entry n)
  where
    go : (0 < count_by (replies_to s c entry) (sends s traces (run s traces n) (next_step s traces (run s traces n))))
        ⊎ (count_by (replies_to s c entry) (sends s traces (run s traces n) (next_step s traces (run s traces n))) ≤ 0)
        → (0 < count_by (replies_to s c entry) (messages s traces (run s traces n)) → (t : ℕ) × (t < n) × Served s traces c entry t)
        → (t : ℕ) × (t < suc n) × Served s traces c entry t
    go (inl b) rest = (n, omega arith, cycle-replies s traces c entry n b)
    go (inr b) rest =
        let e = count-messages (replies_to s c entry) s traces (run s traces n) (next_step s traces (run s traces n)) in
        let r = rest (omega arith) in
        (r.0, omega arith, r.2)

-- an entry that was answered is not answered again
past_or_now : (s : Config) (traces : List (List Entry)) (c entry n : ℕ)
    → (count_by (replies_to s c entry) (messages s traces (run s traces n)) ≤ 0) ⊎ (count_by (replies_to s c entry) (sends s traces (run s traces n) (next_step s traces (run s traces n))) ≤ 0)
past_or_now s traces c entry n =
    go (cases_lt 0 (count_by (replies_to s c entry) (messages s traces (run s traces n)))) (cases_lt 0 (count_by (replies_to s c entry) (sends s traces (run s traces n) (next_step s traces (run s traces n)))))
  where
    never : 0 < count_by (replies_to s c entry) (messages s traces (run s traces n)) → 0 < count_by (replies_to s c entry) (sends s traces (run s traces n) (next_step s traces (run s traces n))) → ⊥
    never a b =
        let past = past-replies s traces c entry n a in
        let now = cycle-replies s traces c entry n b in
        let same = (served_once s traces c entry past.2.0 now.0 past.0 n past.2.1 past.2.2 now.2).1 in
        let soon = past.1 in
        omega arith

    go : (0 < count_by (replies_to s c entry) (messages s traces (run s traces n))) ⊎ (count_by (replies_to s c entry) (messages s traces (run s traces n)) ≤ 0)
        → (0 < count_by (replies_to s c entry) (sends s traces (run s traces n) (next_step s traces (run s traces n)))) ⊎ (count_by (replies_to s c entry) (sends s traces (run s traces n) (next_step s traces (run s traces n))) ≤ 0)
        → (count_by (replies_to s c entry) (messages s traces (run s traces n)) ≤ 0) ⊎ (count_by (replies_to s c entry) (sends s traces (run s traces n) (next_step s traces (run s traces n))) ≤ 0)
    go (inr a) b = inl a
    go (inl a) (inr b) = inr b
    go (inl a) (inl b) = absurd (never a b)

one_reply : (s : Config) (traces : List (List Entry)) (c entry n : ℕ) → count_by (replies_to s c entry) (messages s traces (run s traces n)) ≤ 1
unfolding run
one_reply s traces c entry zero = let e = ap (count_by (replies_to s c entry)) (messages-none s traces) in omega arith
one_reply s traces c entry (suc n) =
    let e = count-messages (replies_to s c entry) s traces (run s traces n) (next_step s traces (run s traces n)) in
    let before : count_by (replies_to s c entry) (messages s traces (run s traces n)) ≤ 1 = one_reply s traces c entry n in
    let now = cycle-one_reply s traces c entry n in
    let apart = past_or_now s traces c entry n in
    omega arith

pub reads_are_answered_once : (s : Config) (traces : List (List Entry)) (n : ℕ) → ReadsAreAnsweredOnce s traces n
unfolding inbox
reads_are_answered_once s traces n c entry l =
    let ms = messages s traces (run s traces n) in
    let e : count_by (λ (m : Message). is_reply_to entry m.payload) (by_age (filter (is_to s (Core c)) ms)) ≡ count_by (replies_to s c entry) ms =
    count-by_age (λ (m : Message). is_reply_to entry m.payload) (filter (is_to s (Core c)) ms) ∙ count-filter (is_to s (Core c)) (λ (m : Message). is_reply_to entry m.payload) ms in
    let b = one_reply s traces c entry n in
    omega arith
