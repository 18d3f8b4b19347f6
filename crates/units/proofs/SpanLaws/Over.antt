-- A run that is over does no more than refresh, so it stays over.
use Rattle.std.proofs.Common.{◌≡◌, ℕ, zero, suc, ◌+◌, ◌-◌, ◌<◌, ◌≤◌, Bool, true, false, cond, ltb, ◌&&◌, List, [], ◌∷◌, ◌++◌, length, take, drop, Option, Some, None, refl, sym, ap, ap₂, subst, ◌∙◌, ◌⊎◌, inl, inr, add-zero, add-suc, arith}
use Rattle.std.specs.Prelude.{filter, filter_map, fold}
use Rattle.std.specs.Option.{IfSome}
use Rattle.std.specs.List.{AllByRecursion as Each, list_all, cons_option, enumerate_from}
use Rattle.std.proofs.lemmas.Bool.{and_parts, and_from, eqb-true, eq-eqb, ltb-true, lt-ltb, cases_lt, false≢true, false_from_ne_true}
use Rattle.std.proofs.lemmas.List.{append-nil, nil_from_length}
use Rattle.std.proofs.lemmas.List.Folds.{list_all-append}
use Rattle.sim_base.specs.declared.config.Config.{Config}
use Rattle.sim_base.specs.MachineStep.{step_of_core}
use Rattle.sim_base.specs.History.{below, trace_of, steps_of_core, retired_before, issued_before, issued_at, request_of, requests_between, messages_of, messages_at, messages, is_to, by_age, inbox, insert_by_age}
use Rattle.sim_base.specs.Machine.{run, next_step, is_retired, has_served, is_delivered, is_over, cycles_run, ends_before}
use Rattle.sim_base.specs.Scheduling.{queued_requests, queue_in}
use Rattle.sim_base.specs.Sends.{core_sends, channel_sends, sends}
use Rattle.sim_base.specs.Windows.{step}
use Rattle.sim_base.specs.declared.command.Command.{Command}
use Rattle.sim_base.specs.declared.command.IssuedCommand.{IssuedCommand}
use Rattle.sim_base.specs.declared.history.CoreStep.{CoreStep}
use Rattle.sim_base.specs.declared.message.Message.{Message}
use Rattle.sim_base.specs.declared.message.Request.{Request}
use Rattle.sim_base.specs.declared.message.Unit.{Unit as MachineUnit}
use Rattle.sim_base.specs.declared.message.Unit.TheVariants.{Core, Channel}
use Rattle.sim_base.specs.declared.trace.Entry.{Entry}
use Rattle.sim_base.proofs.Arrived.{Each-by_age}
use Rattle.sim_base.proofs.Below.{below_more}
use Rattle.sim_base.proofs.Cycles.{cycles-stay}
use Rattle.sim_base.proofs.Each.{Each-filter, list_all-each}
use Rattle.sim_base.proofs.Grows.{issued_before-push, inbox-grows}
use Rattle.sim_base.proofs.Ordered.{Each-weaker}
use Rattle.sim_base.proofs.Spans.{length_run, step_of_core-next, step_of_channel-next}
use Rattle.statistics.proofs.CoreCounts.{retired_before-push}
use Rattle.statistics.proofs.KeepsToTrace.{KeepsToTrace-run}
use Rattle.statistics.proofs.RunSteps.{steps_of_core-next}
use Rattle.laws.specs.Commands.{channel_steps_of, history_of}
use Rattle.laws.proofs.Chosen.{choice-needed}
use Rattle.laws.proofs.Counting.{Each-list_all}
use Rattle.laws.proofs.Legal.{chosen, length-channel_steps_of, history_of-more}
use Rattle.laws.proofs.Sent.{Each-messages, sends-each}
use Rattle.channel_step.specs.Past.{carried_requests}
use Rattle.channel_step.proofs.Requests.{requests-arrived, ArrivedBefore, queued_requests-until, queued_requests-command, unserved_by}
use Rattle.channel_step.proofs.Spans.{queue-next}
use Rattle.units.specs.SpanLaws.Cores.{core_steps_of}
use Rattle.units.specs.SpanLaws.Ends.{RunsStayOver, OverIsSeen, CyclesAreCounted}
use Rattle.units.specs.SpanLaws.Mail.{mail_before}
use Rattle.units.proofs.SpanLaws.ChannelsOn.{queue-alike}
use Rattle.units.proofs.SpanLaws.Flights.{not_before, in_flight-late}
use Rattle.units.proofs.SpanLaws.Lists.{each-none}
use Rattle.sim_base.specs.Counts.{in_flight}
use Rattle.sim_base.specs.Final.{queue_left}
use Rattle.sim_base.proofs.Spans.{inbox-stamped}
use Rattle.laws.proofs.Counting.{count-filter}
use Rattle.laws.proofs.Sent.{count-by_age}
use Rattle.std.specs.Prelude.{count_by}
use Rattle.std.proofs.lemmas.Bool.{cond-false, lt-leb, leb-false}
use Rattle.units.proofs.SpanLaws.Requests.{all-carry}

-- a test of each number below n
below-each : (p : ℕ → Bool) (n : ℕ) → list_all p (below n) ≡ true → (k : ℕ) → k < n → p k ≡ true
below-each p zero h k l = absurd (omega arith)
below-each p (suc n) h k l =
    let both = and_parts (list_all p (below n)) (p n && true) (sym (ap (list_all p) (below_more n) ∙ list_all-append p (below n) (n ∷ [])) ∙ h) in
    go (cases_lt k n) both.0 (and_parts (p n) true both.1).0 (below-each p n both.0 k)
  where
    go : (k < n) ⊎ (n ≤ k) → list_all p (below n) ≡ true → p n ≡ true → (k < n → p k ≡ true) → p k ≡ true
    go (inl a) e f rest = rest a
    go (inr a) e f rest = let same : k ≡ n = omega arith in ap p same ∙ f

each-below : (p : ℕ → Bool) (n : ℕ) → ((k : ℕ) → k < n → p k ≡ true) → list_all p (below n) ≡ true
each-below p zero h = refl
each-below p (suc n) h =
    ap (list_all p) (below_more n) ∙ list_all-append p (below n) (n ∷ [])
    ∙ and_from (list_all p (below n)) (p n && true) (each-below p n (λ k l. h k (omega arith))) (and_from (p n) true (h n (omega arith)) refl)

-- what it means that a run is over before cycle n
record Over (s : Config) (traces : List (List Entry)) (n : ℕ) : Type 0 where
  retired : (core : ℕ) → core < s.cores → retired_before (core_steps_of s traces n core) ≡ length (trace_of traces core)
  delivered : Each (λ (m : Message). m.arrival < n) (messages s traces (run s traces n))
  served : (channel : ℕ) → channel < s.channels → queued_requests (history_of s traces n channel) (inbox s traces (run s traces n) (Channel channel)) n ≡ []

over-parts : (s : Config) (traces : List (List Entry)) (n : ℕ) → is_over s traces (run s traces n) ≡ true → Over s traces n
unfolding is_over is_retired is_delivered has_served
over-parts s traces n h =
    let history = run s traces n in
    let long : length history ≡ n = length_run s traces n in
    let outer = and_parts (list_all (is_retired traces history) (below s.cores) && is_delivered s traces history) (list_all (has_served s traces history) (below s.channels)) h in
    let inner = and_parts (list_all (is_retired traces history) (below s.cores)) (is_delivered s traces history) outer.0 in
    record {
      retired = λ core l. eqb-true _ _ (below-each (is_retired traces history) s.cores inner.0 core l);
      delivered = Each-weaker (λ (m : Message). ltb m.arrival (length history) ≡ true) (λ (m : Message). m.arrival < n) (λ m e. let a = ltb-true m.arrival (length history) e in omega arith)
          (messages s traces history) (Each-list_all (λ (m : Message). ltb m.arrival (length history)) (messages s traces history) inner.1);
      served = λ channel l.
          nil_from_length (queued_requests (history_of s traces n channel) (inbox s traces history (Channel channel)) n)
          (subst (λ u. length (queued_requests (history_of s traces n channel) (inbox s traces history (Channel channel)) u) ≡ 0) long
          (eqb-true _ _ (below-each (has_served s traces history) s.channels outer.1 channel l)));
    }

over-from : (s : Config) (traces : List (List Entry)) (n : ℕ) → Over s traces n → is_over s traces (run s traces n) ≡ true
unfolding is_over is_retired is_delivered has_served
over-from s traces n h =
    let history = run s traces n in
    let long : length history ≡ n = length_run s traces n in
    and_from (list_all (is_retired traces history) (below s.cores) && is_delivered s traces history) (list_all (has_served s traces history) (below s.channels))
    (and_from (list_all (is_retired traces history) (below s.cores)) (is_delivered s traces history)
    (each-below (is_retired traces history) s.cores (λ core l. eq-eqb _ _ (h.retired core l)))
    (list_all-each (λ (m : Message). ltb m.arrival (length history)) (messages s traces history)
    (Each-weaker (λ (m : Message). m.arrival < n) (λ (m : Message). ltb m.arrival (length history) ≡ true) (λ m a. lt-ltb m.arrival (length history) (omega arith)) (messages s traces history) h.delivered)))
    (each-below (has_served s traces history) s.channels
    (λ channel l. eq-eqb _ 0
    (subst (λ u. length (queued_requests (history_of s traces n channel) (inbox s traces history (Channel channel)) u) ≡ 0) (sym long) (ap length (h.served channel l)))))

-- what a core does then: nothing
record IsIdleCore (s : Config) (traces : List (List Entry)) (n core : ℕ) : Type 0 where
  retired : retired_before (core_steps_of s traces (suc n) core) ≡ length (trace_of traces core)
  issued : (step s core (trace_of traces core) (core_steps_of s traces n core) (inbox s traces (run s traces n) (Core core))).0.issued ≡ 0

core-idle : (s : Config) (traces : List (List Entry)) (n core : ℕ) → core < s.cores → Over s traces n → IsIdleCore s traces n core
core-idle s traces n core l h =
    let steps = core_steps_of s traces n core in
    let row = (step s core (trace_of traces core) steps (inbox s traces (run s traces n) (Core core))).0 in
    let now = KeepsToTrace-run s traces core l n in
    let then = KeepsToTrace-run s traces core l (suc n) in
    let next : core_steps_of s traces (suc n) core ≡ steps ++ row ∷ [] = steps_of_core-next s traces n core l in
    let issued : issued_before (core_steps_of s traces (suc n) core) ≡ issued_before steps + row.issued = ap issued_before next ∙ issued_before-push steps row in
    let retired : retired_before (core_steps_of s traces (suc n) core) ≡ retired_before steps + row.retired = ap retired_before next ∙ retired_before-push steps row in
    let whole = h.retired core l in
    record { retired = omega (arith, now.retired, then.issued, then.retired); issued = omega (arith, now.retired, then.issued) }

pub nothing-between : (s : Config) (core : ℕ) (trace : List Entry) (cycle first end : ℕ) → end ≡ first → requests_between s core trace cycle first end ≡ []
unfolding requests_between
nothing-between s core trace cycle first end e =
    let z : end - first ≡ 0 = omega arith in
    ap (λ k. filter_map (λ (x : ℕ × Entry). request_of s core cycle x.0 x.1) (take k (drop first (enumerate_from 0 trace)))) z

core-silent : (s : Config) (traces : List (List Entry)) (n core : ℕ) → core < s.cores → Over s traces n → core_sends s traces (run s traces n) (next_step s traces (run s traces n)) core ≡ []
unfolding core_sends
core-silent s traces n core l h =
    let history = run s traces n in
    let first = issued_before (steps_of_core core history) in
    let none : (step_of_core core (next_step s traces history)).issued ≡ 0 = ap (λ (r : CoreStep). r.issued) (step_of_core-next s traces history core l) ∙ (core-idle s traces n core l h).issued in
    nothing-between s core (trace_of traces core) (length history) first (first + (step_of_core core (next_step s traces history)).issued) (omega arith)

-- nothing waits at a channel
all-arrived : (s : Config) (traces : List (List Entry)) (n channel : ℕ) → channel < s.channels → Over s traces n
    → Each (ArrivedBefore n) (carried_requests (inbox s traces (run s traces n) (Channel channel)))
unfolding inbox
all-arrived s traces n channel l h =
    let sent = messages s traces (run s traces n) in
    let mine = filter (is_to s (Channel channel)) sent in
    requests-arrived s channel n (by_age mine) (all-carry s traces n channel l)
    (Each-by_age (λ (m : Message). m.arrival < n) mine (Each-filter (λ (m : Message). m.arrival < n) (is_to s (Channel channel)) sent h.delivered))

none-waits : (s : Config) (traces : List (List Entry)) (n channel u : ℕ) → channel < s.channels → Over s traces n → n ≤ u
    → queued_requests (history_of s traces n channel) (inbox s traces (run s traces n) (Channel channel)) u ≡ []
none-waits s traces n channel u l h m =
    queued_requests-until (history_of s traces n channel) (inbox s traces (run s traces n) (Channel channel)) n u m (all-arrived s traces n channel l h) ∙ h.served channel l

-- a command that sends nothing
abbrev IsSilent : Config → ℕ → ℕ → Command → Type 0
IsSilent s channel cycle command = messages_of s channel cycle command ≡ []

-- where a run is over, what a channel chooses is no column command
chosen-silent : (s : Config) (traces : List (List Entry)) (n channel cycle : ℕ) → channel < s.channels → Over s traces n → IfSome (chosen s traces n channel) (IsSilent s channel cycle)
unfolding messages_of
chosen-silent s traces n channel cycle l h =
    let steps = channel_steps_of s traces n channel in
    let mail = inbox s traces (run s traces n) (Channel channel) in
    let long : length steps ≡ n = length-channel_steps_of s traces n channel in
    let empty : queue_in channel steps mail (length steps) ≡ [] = queue-next channel steps mail ∙ none-waits s traces n channel (length steps + 1) l h (omega arith) in
    choice-needed (λ (r : Request). ⊥) (IsSilent s channel cycle) s channel steps mail (λ r o wrong. absurd wrong) (λ rank. refl) (λ rank. refl)
    (subst (Each (λ (r : Request). ⊥)) (sym empty) tt)

channel-silent : (s : Config) (traces : List (List Entry)) (n channel : ℕ) → channel < s.channels → Over s traces n → channel_sends s (run s traces n) (next_step s traces (run s traces n)) channel ≡ []
unfolding channel_sends
channel-silent s traces n channel l h =
    let history = run s traces n in
    ap (messages_at s channel (length history)) (step_of_channel-next s traces history channel l) ∙ go (chosen s traces n channel) (chosen-silent s traces n channel (length history) l h)
  where
    go : (o : Option Command) → IfSome o (IsSilent s channel (length (run s traces n))) → messages_at s channel (length (run s traces n)) o ≡ []
    go None e = refl
    go (Some command) e = e

none-each : (ms : List Message) → Each (λ (m : Message). ⊥) ms → ms ≡ []
none-each [] h = refl
none-each (m ∷ ms) h = absurd h.0

all-silent : (s : Config) (traces : List (List Entry)) (n : ℕ) → Over s traces n → sends s traces (run s traces n) (next_step s traces (run s traces n)) ≡ []
all-silent s traces n h =
    let history = run s traces n in
    let machine_step = next_step s traces history in
    let P = λ (m : Message). ⊥ in
    none-each (sends s traces history machine_step)
    (sends-each P s traces history machine_step (λ c l. subst (Each P) (sym (core-silent s traces n c l h)) tt) (λ k l. subst (Each P) (sym (channel-silent s traces n k l h)) tt))

-- the inbox of each unit stays as it was
inbox-stays : (s : Config) (traces : List (List Entry)) (n : ℕ) (unit : MachineUnit) → Over s traces n → inbox s traces (run s traces (suc n)) unit ≡ inbox s traces (run s traces n) unit
unfolding run
inbox-stays s traces n unit h =
    let history = run s traces n in
    inbox-grows s traces history (next_step s traces history) unit ∙ ap (λ ms. fold insert_by_age (inbox s traces history unit) (filter (is_to s unit) ms)) (all-silent s traces n h)

still-none : (history : List IssuedCommand) (channel n u : ℕ) (mail : List Message) (o : Option Command) → queued_requests history mail u ≡ [] → queued_requests (history ++ cons_option (issued_at channel n o) []) mail u ≡ []
still-none history channel n u mail None e = ap (λ x. queued_requests x mail u) (append-nil history) ∙ e
still-none history channel n u mail (Some command) e =
    queued_requests-command history (record { cycle = n; channel = channel; command = command }) mail u ∙ ap (unserved_by command) e

-- a run that is over is over one cycle later
over-next : (s : Config) (traces : List (List Entry)) (n : ℕ) → Over s traces n → Over s traces (suc n)
unfolding run
over-next s traces n h =
    let history = run s traces n in
    let machine_step = next_step s traces history in
    let P = λ (m : Message). m.arrival < suc n in
    record {
      retired = λ core l. (core-idle s traces n core l h).retired;
      delivered = Each-messages P s traces history machine_step (Each-weaker (λ (m : Message). m.arrival < n) P (λ m a. omega arith) (messages s traces history) h.delivered) (subst (Each P) (sym (all-silent s traces n h)) tt);
      served = λ channel l.
          ap₂ (λ x ms. queued_requests x ms (suc n)) (history_of-more s traces n channel l) (inbox-stays s traces n (Channel channel) h)
          ∙ still-none (history_of s traces n channel) channel n (suc n) (inbox s traces history (Channel channel)) (chosen s traces n channel) (none-waits s traces n channel (suc n) l h (omega arith));
    }

over-later : (s : Config) (traces : List (List Entry)) (n : ℕ) → Over s traces n → (m : ℕ) → Over s traces (n + m)
over-later s traces n h zero = subst (Over s traces) (sym (add-zero n)) h
over-later s traces n h (suc m) = subst (Over s traces) (sym (add-suc n m)) (over-next s traces (n + m) (over-later s traces n h m))

pub runs-stay_over : (s : Config) (traces : List (List Entry)) (from until : ℕ) → RunsStayOver s traces from until
runs-stay_over s traces from until l h =
    let e : from + (until - from) ≡ until = omega arith in
    over-from s traces until (subst (Over s traces) e (over-later s traces from (over-parts s traces from h) (until - from)))

ends-stay : (s : Config) (traces : List (List Entry)) (from until : ℕ) → from ≤ until → ends_before s traces from ≡ true → ends_before s traces until ≡ true
ends-stay s traces from until l h =
    let both = and_parts s.ends_drained (is_over s traces (run s traces from)) h in
    and_from s.ends_drained (is_over s traces (run s traces until)) both.0 (runs-stay_over s traces from until l both.1)

-- a run that does not end before its last cycle does not end before an earlier one
not-sooner : (s : Config) (traces : List (List Entry)) (n m : ℕ) → ((last : ℕ) → last + 1 ≡ n → ends_before s traces last ≡ false) → m < n → ends_before s traces m ≡ false
not-sooner s traces n m h l =
    let e : (n - 1) + 1 ≡ n = omega arith in
    false_from_ne_true (ends_before s traces m) (λ k. false≢true (sym (h (n - 1) e) ∙ ends-stay s traces m (n - 1) (omega arith) k))

cycles-so_far : (s : Config) (traces : List (List Entry)) (n : ℕ) → ((m : ℕ) → m < n → ends_before s traces m ≡ false) → cycles_run s traces n ≡ n
unfolding cycles_run
cycles-so_far s traces zero h = refl
cycles-so_far s traces (suc n) h =
    let before : cycles_run s traces n ≡ n = cycles-so_far s traces n (λ m l. h m (omega arith)) in
    ap (λ c. cond (ends_before s traces c) c (suc n)) before ∙ ap (λ b. cond b n (suc n)) (h n (omega arith))

pub cycles-are_counted : (s : Config) (traces : List (List Entry)) (limit n : ℕ) → CyclesAreCounted s traces limit n
cycles-are_counted s traces limit n l h k = go (cases_lt n limit)
  where
    far : cycles_run s traces n ≡ n
    far = cycles-so_far s traces n (λ m a. not-sooner s traces n m h a)

    go : (n < limit) ⊎ (limit ≤ n) → cycles_run s traces limit ≡ n
    go (inl a) =
        let e : n + (limit - n) ≡ limit = omega arith in
        sym (ap (cycles_run s traces) e) ∙ cycles-stay s traces n far (k a) (limit - n)
    go (inr a) = let e : limit ≡ n = omega arith in ap (cycles_run s traces) e ∙ far

and-self : (b : Bool) → (b && b) ≡ false → b ≡ false
and-self false h = refl
and-self true h = cc

-- nothing is in flight where each message has arrived
flight-empty : (s : Config) (traces : List (List Entry)) (n : ℕ) → Each (λ (m : Message). m.arrival < n) (messages s traces (run s traces n)) → in_flight s traces (run s traces n) ≡ []
unfolding by_age
flight-empty s traces n h =
    let sent = messages s traces (run s traces n) in
    in_flight-late s traces n ∙ ap by_age (filter-none (not_before n) sent (Each-weaker (λ (m : Message). m.arrival < n) (λ (m : Message). not_before n m ≡ false) (λ m a. lt-leb n m.arrival a) sent h))
  where
    filter-none : (p : Message → Bool) (ms : List Message) → Each (λ m. p m ≡ false) ms → filter p ms ≡ []
    filter-none p [] k = refl
    filter-none p (m ∷ ms) k = cond-false _ _ _ k.0 ∙ filter-none p ms k.1

-- where nothing is in flight, each message has arrived
flight-arrived : (s : Config) (traces : List (List Entry)) (n : ℕ) → in_flight s traces (run s traces n) ≡ [] → Each (λ (m : Message). m.arrival < n) (messages s traces (run s traces n))
flight-arrived s traces n e =
    let sent = messages s traces (run s traces n) in
    let p = not_before n in
    let a : count_by p (by_age (filter p sent)) ≡ count_by p (filter p sent) = count-by_age p (filter p sent) in
    let b : count_by p (filter p sent) ≡ count_by (λ m. p m && p m) sent = count-filter p p sent in
    let c : by_age (filter p sent) ≡ [] = sym (in_flight-late s traces n) ∙ e in
    let none : count_by (λ m. p m && p m) sent ≡ 0 = sym b ∙ sym a ∙ ap (count_by p) c in
    Each-weaker (λ (m : Message). (p m && p m) ≡ false) (λ (m : Message). m.arrival < n) (λ m h. leb-false n m.arrival (and-self (p m) h)) sent (each-none (λ m. p m && p m) sent none)

-- the queue that is left
queue-left_is : (s : Config) (traces : List (List Entry)) (n channel : ℕ)
    → queue_left channel (channel_steps_of s traces n channel) (mail_before s traces n (Channel channel) n) ≡ queued_requests (history_of s traces n channel) (inbox s traces (run s traces n) (Channel channel)) n
unfolding queue_left
queue-left_is s traces n channel =
    let steps = channel_steps_of s traces n channel in
    let mail = inbox s traces (run s traces n) (Channel channel) in
    let long : length steps ≡ n = length-channel_steps_of s traces n channel in
    queue-alike channel n steps mail long (inbox-stamped s traces (run s traces n) (Channel channel)) ∙ ap (queued_requests (history_of s traces n channel) mail) long

pub over-is_seen : (s : Config) (traces : List (List Entry)) (now : ℕ) → OverIsSeen s traces now
over-is_seen s traces now = (
  λ h.
      let over = over-parts s traces now h in
      (over.retired, flight-empty s traces now over.delivered, λ channel l. queue-left_is s traces now channel ∙ over.served channel l),
  λ h.
      over-from s traces now
      (record { retired = h.0; delivered = flight-arrived s traces now h.1; served = λ channel l. sym (queue-left_is s traces now channel) ∙ h.2 channel l }),
)
