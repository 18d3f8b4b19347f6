-- What is fit for a span is fit for the rest of it, when one cycle is over.
use Rattle.std.proofs.Common.{◌≡◌, ℕ, zero, suc, ◌+◌, ◌<◌, ◌≤◌, Bool, true, false, cond, eqb, List, [], ◌∷◌, ◌++◌, length, take, drop, Option, Some, None, refl, sym, ap, ap₂, subst, ◌∙◌, arith}
use Rattle.std.specs.Option.{IfSome}
use Rattle.std.specs.List.{AllByRecursion as Each, prefix_len}
use Rattle.std.proofs.lemmas.Bool.{cond-false}
use Rattle.std.proofs.lemmas.Bool.Decides.{nat_tests}
use Rattle.std.proofs.lemmas.List.{append-nil, append_assoc, take-append-drop}
use Rattle.sim_base.proofs.Arrived.{NotBefore, before_le}
use Rattle.sim_base.proofs.Each.{Each-all, Each-first, Each-last, Each-append, Each-filter}
use Rattle.sim_base.proofs.Ordered.{Each-weaker}
use Rattle.sim_base.proofs.Same.{choice-same}
use Rattle.sim_base.specs.Counts.{source_in, queue_length}
use Rattle.sim_base.specs.History.{is_before, issued_now}
use Rattle.sim_base.specs.Machine.{channel_run}
use Rattle.sim_base.specs.Scheduling.{is_source, source_of, choice, queued_requests, is_queued, queue_room}
use Rattle.sim_base.specs.declared.command.Command.{Command}
use Rattle.sim_base.specs.declared.command.IssuedCommand.{IssuedCommand}
use Rattle.sim_base.specs.declared.command.Source.{Source}
use Rattle.sim_base.specs.declared.message.Message.{Message}
use Rattle.sim_base.specs.declared.message.Request.{Request}
use Rattle.statistics.proofs.ChannelCounts.{AgreeUpTo-later, issued_commands-push}
use Rattle.statistics.specs.declared.channels.ChannelStats.{ChannelStats}
use Rattle.channel_step.specs.Runs.{steps_on}
use Rattle.channel_step.specs.Past.{carried_requests, CarriesRequest, IsOther, Differ, Past, commands_after, choice_after, with_mail}
use Rattle.channel_step.specs.Fit.{comes_from, is_issued_for, NoneIssuedFor, ComeByAge, IsFit, IsFitAfter}
use Rattle.channel_step.specs.Stands.{HasArrivals}
use Rattle.channel_step.proofs.Requests.{carries-stamped, requests-append}
use Rattle.channel_step.proofs.Spans.{channel_run-more, channel_run-first}
use Rattle.channel_step.proofs.Chosen.{chosen-named}
use Rattle.channel_step.proofs.Cycle.{Arrives, joined-choice}

-- how many of these messages arrive in a cycle, as the first ones
abbrev pub due_count : List Message → ℕ → ℕ
due_count inbox now = prefix_len (λ (m : Message). eqb m.arrival now) inbox

split-each : {X : Type 0} (P : X → Type 0) (n : ℕ) (xs : List X) → Each P xs → Each P (take n xs) × Each P (drop n xs)
split-each P zero xs h = (tt, h)
split-each P (suc n) [] h = (tt, tt)
split-each P (suc n) (x ∷ xs) h = let rest = split-each P n xs h.1 in ((h.0, rest.0), rest.1)

next : (k : ℕ) → 1 + k ≡ suc k
next k = omega arith

arrived-first : (now : ℕ) (inbox : List Message) → Each (λ (m : Message). m.arrival ≡ now) (take (due_count inbox now) inbox)
arrived-first now [] = tt
arrived-first now (m ∷ ms) = by (eqb m.arrival now) refl (arrived-first now ms)
  where
    by : (b : Bool) → eqb m.arrival now ≡ b → Each (λ (n : Message). n.arrival ≡ now) (take (due_count ms now) ms)
        → Each (λ (n : Message). n.arrival ≡ now) (take (cond b (1 + due_count ms now) 0) (m ∷ ms))
    by true e rest =
        let same : m.arrival ≡ now = grind (arith, nat_tests) in
        subst (λ k. Each (λ (n : Message). n.arrival ≡ now) (take k (m ∷ ms))) (sym (next (due_count ms now))) (same, rest)
    by false e rest = tt

arrive-later : (now : ℕ) (inbox : List Message) → ComeByAge inbox → Each (λ (m : Message). now ≤ m.arrival) inbox
    → Each (λ (m : Message). now + 1 ≤ m.arrival) (drop (due_count inbox now) inbox)
arrive-later now [] o h = tt
arrive-later now (m ∷ ms) o h = by (eqb m.arrival now) refl (arrive-later now ms o.1 h.1)
  where
    by : (b : Bool) → eqb m.arrival now ≡ b → Each (λ (n : Message). now + 1 ≤ n.arrival) (drop (due_count ms now) ms)
        → Each (λ (n : Message). now + 1 ≤ n.arrival) (drop (cond b (1 + due_count ms now) 0) (m ∷ ms))
    by true e rest = subst (λ k. Each (λ (n : Message). now + 1 ≤ n.arrival) (drop k (m ∷ ms))) (sym (next (due_count ms now))) rest
    by false e rest =
        let past : now + 1 ≤ m.arrival = let least : now ≤ m.arrival = h.0 in grind (arith, nat_tests) in
        (past, Each-weaker (λ (n : Message). is_before m n ≡ true) (λ (n : Message). now + 1 ≤ n.arrival) (λ n k. omega (arith, before_le m n k)) ms o.0)

split-age : (n : ℕ) (inbox : List Message) → ComeByAge inbox → ComeByAge (drop n inbox)
split-age zero inbox h = h
split-age (suc n) [] h = tt
split-age (suc n) (m ∷ ms) h = split-age n ms h.1

-- requests that are of different entries, cut in two: those of each part are, and each of the first differs from each
-- of the second
pub split-differ : (xs ys : List Request) → Differ (xs ++ ys) → Differ xs × Each (λ (r : Request). Each (IsOther r) ys) xs
split-differ [] ys d = (tt, tt)
split-differ (x ∷ xs) ys d =
    let rest = split-differ xs ys d.1 in
    ((Each-first (IsOther x) xs ys d.0, rest.0), (Each-last (IsOther x) xs ys d.0, rest.1))

-- the messages of a fit inbox that arrive in the first cycle of the span, and those that arrive later
pub fit-arrives : (past : Past) (inbox : List Message) (now until : ℕ) → length past.steps ≡ now
    → IsFitAfter past inbox now until → Arrives past (take (due_count inbox now) inbox)
fit-arrives past inbox now until at h =
    let n = due_count inbox now in
    let whole : carried_requests (past.mail ++ inbox) ≡ carried_requests (past.mail ++ take n inbox) ++ carried_requests (drop n inbox) =
    ap carried_requests (ap (λ x. past.mail ++ x) (sym (take-append-drop n inbox)) ∙ sym (append_assoc past.mail (take n inbox) (drop n inbox))) ∙ requests-append (past.mail ++ take n inbox) (drop n inbox) in
    let named : carried_requests inbox ≡ carried_requests (take n inbox) ++ carried_requests (drop n inbox) =
    ap carried_requests (sym (take-append-drop n inbox)) ∙ requests-append (take n inbox) (drop n inbox) in
    record {
      requests = (split-each (CarriesRequest past.config past.channel) n inbox h.requests).0;
      now = Each-weaker (λ (m : Message). m.arrival ≡ now) (λ (m : Message). m.arrival ≡ length past.steps) (λ m e. omega arith) (take n inbox) (arrived-first now inbox);
      differ = (split-differ (carried_requests (past.mail ++ take n inbox)) (carried_requests (drop n inbox)) (subst Differ whole h.differ)).0;
      none_issued = Each-first (NoneIssuedFor (commands_after past)) (carried_requests (take n inbox)) (carried_requests (drop n inbox)) (subst (Each (NoneIssuedFor (commands_after past))) named h.none_issued);
    }

-- the messages of a fit inbox that do not arrive in the first cycle of the span arrive later
pub fit-later : (past : Past) (inbox : List Message) (now until : ℕ) → length past.steps ≡ now → IsFitAfter past inbox now until
    → Each (CarriesRequest past.config past.channel) (drop (due_count inbox now) inbox) × NotBefore (length past.steps + 1) (drop (due_count inbox now) inbox)
fit-later past inbox now until at h =
    let n = due_count inbox now in (
      (split-each (CarriesRequest past.config past.channel) n inbox h.requests).1,
      Each-weaker (λ (m : Message). now + 1 ≤ m.arrival) (λ (m : Message). length past.steps + 1 ≤ m.arrival) (λ m l. omega arith) (drop n inbox)
          (arrive-later now inbox h.by_age (Each-weaker (λ (m : Message). (now ≤ m.arrival) × (m.arrival < until)) (λ (m : Message). now ≤ m.arrival) (λ m k. k.0) inbox h.in_span)),
    )

-- when the first of them are among those that have arrived, the others are as fit for the span
pub fit-taken : (past : Past) (inbox : List Message) (now until n : ℕ) → IsFitAfter past inbox now until
    → IsFit past.config past.channel past.steps (past.mail ++ take n inbox) (drop n inbox) now until
fit-taken past inbox now until n h =
    let history = commands_after past in
    let whole : past.mail ++ inbox ≡ (past.mail ++ take n inbox) ++ drop n inbox = ap (λ x. past.mail ++ x) (sym (take-append-drop n inbox)) ∙ sym (append_assoc past.mail (take n inbox) (drop n inbox)) in
    let named : carried_requests inbox ≡ carried_requests (take n inbox) ++ carried_requests (drop n inbox) =
    ap carried_requests (sym (take-append-drop n inbox)) ∙ requests-append (take n inbox) (drop n inbox) in
    record {
      requests = (split-each (CarriesRequest past.config past.channel) n inbox h.requests).1;
      by_age = split-age n inbox h.by_age;
      in_span = (split-each (λ (m : Message). (now ≤ m.arrival) × (m.arrival < until)) n inbox h.in_span).1;
      differ = subst Differ (ap carried_requests whole) h.differ;
      none_issued = Each-last (NoneIssuedFor history) (carried_requests (take n inbox)) (carried_requests (drop n inbox)) (subst (Each (NoneIssuedFor history)) named h.none_issued);
      room = λ k l. subst (λ m. queue_length past.channel (channel_run past.config past.channel past.steps m k) m (now + k) ≤ queue_room past.config) whole (h.room k l);
    }

-- none arrives before the first
pub none-due : (now : ℕ) (inbox : List Message) → Each (λ (m : Message). now + 1 ≤ m.arrival) inbox → due_count inbox now ≡ 0
none-due now [] h = refl
none-due now (m ∷ ms) h = let later : now + 1 ≤ m.arrival = h.0 in cond-false (eqb m.arrival now) _ _ (grind (arith, nat_tests))

none_issued_by : (command : Command) (rest : List Request) → IfSome (source_in command) (λ source. Each (λ (r : Request). is_source r source ≡ false) rest)
    → Each (λ (r : Request). is_issued_for command r ≡ false) rest
none_issued_by command rest h = by (source_in command) h
  where
    by : (o : Option Source) → IfSome o (λ source. Each (λ (r : Request). is_source r source ≡ false) rest) → Each (λ (r : Request). comes_from o r ≡ false) rest
    by None h = Each-all (λ (r : Request). false ≡ false) (λ r. refl) rest
    by (Some source) h = h

none_issued-both : (history : List IssuedCommand) (i : IssuedCommand) (rest : List Request) → Each (NoneIssuedFor history) rest → Each (λ (r : Request). is_issued_for i.command r ≡ false) rest
    → Each (NoneIssuedFor (history ++ i ∷ [])) rest
none_issued-both history i [] h k = tt
none_issued-both history i (r ∷ rs) h k =
    (Each-append (λ (j : IssuedCommand). is_issued_for j.command r ≡ false) history (i ∷ []) h.0 (k.0, tt), none_issued-both history i rs h.1 k.1)

-- a command in the name of none of these requests leaves none issued for them
none_issued-next : (history : List IssuedCommand) (channel now : ℕ) (o : Option Command) (rest : List Request) → Each (NoneIssuedFor history) rest
    → IfSome o (λ c. IfSome (source_in c) (λ source. Each (λ (r : Request). is_source r source ≡ false) rest))
    → Each (NoneIssuedFor (history ++ issued_now channel now o)) rest
none_issued-next history channel now None rest h k = subst (λ x. Each (NoneIssuedFor x) rest) (sym (append-nil history)) h
none_issued-next history channel now (Some command) rest h k = none_issued-both history _ rest h (none_issued_by command rest k)

-- what is chosen in a cycle does not stand in the name of what arrives later
chosen-not_later : (queue : List Request) (drained : Bool) (marks : List Bool) (stats : ChannelStats) (past : Past) (rest : List Request)
    → HasArrivals queue drained marks stats past → Each (λ (r : Request). Each (IsOther r) rest) (carried_requests past.mail)
    → IfSome (choice_after past) (λ c. IfSome (source_in c) (λ source. Each (λ (r : Request). is_source r source ≡ false) rest))
unfolding queued_requests
chosen-not_later queue drained marks stats past rest h k =
    let P = λ (source : Source). Each (λ (r : Request). is_source r source ≡ false) rest in
    let history = commands_after past in
    let waits : Each (λ (r : Request). P (source_of r)) queue =
    subst (Each (λ (r : Request). P (source_of r))) (sym h.queue_is) (Each-filter (λ (r : Request). P (source_of r)) (is_queued history (length past.steps + 1)) (carried_requests past.mail) k) in
    subst (λ o. IfSome o (λ c. IfSome (source_in c) P)) (sym (joined-choice queue drained marks stats past h))
    (chosen-named P past.config history (length past.steps) drained queue waits)

-- after a cycle the messages that arrive later are fit for the rest of the span
pub fit-rest : (queue : List Request) (drained : Bool) (marks : List Bool) (stats : ChannelStats) (past : Past) (inbox : List Message) (now until : ℕ)
    → length past.steps ≡ now → IsFitAfter past inbox now until
    → let new = take (due_count inbox now) inbox in
    let rest = drop (due_count inbox now) inbox in
    HasArrivals queue drained marks stats (with_mail past new)
    → IsFit past.config past.channel (past.steps ++ choice past.config past.channel past.steps (past.mail ++ new) ∷ []) (past.mail ++ new) rest (now + 1) until
    × (choice past.config past.channel past.steps (past.mail ++ inbox) ≡ choice past.config past.channel past.steps (past.mail ++ new))
fit-rest queue drained marks stats past inbox now until at h j =
    let n = due_count inbox now in
    let new = take n inbox in
    let rest = drop n inbox in
    let o = choice past.config past.channel past.steps (past.mail ++ new) in
    let carries : Each (CarriesRequest past.config past.channel) rest = (split-each (CarriesRequest past.config past.channel) n inbox h.requests).1 in
    let late : Each (λ (m : Message). now + 1 ≤ m.arrival) rest =
    arrive-later now inbox h.by_age (Each-weaker (λ (m : Message). (now ≤ m.arrival) × (m.arrival < until)) (λ (m : Message). now ≤ m.arrival) (λ m k. k.0) inbox h.in_span) in
    let whole : past.mail ++ inbox ≡ (past.mail ++ new) ++ rest = ap (λ x. past.mail ++ x) (sym (take-append-drop n inbox)) ∙ sym (append_assoc past.mail new rest) in
    let same : choice past.config past.channel past.steps (past.mail ++ inbox) ≡ o =
    ap (choice past.config past.channel past.steps) whole
    ∙ choice-same past.config past.channel past.steps ((past.mail ++ new) ++ rest) (past.mail ++ new)
    (AgreeUpTo-later (length past.steps + 1) (past.mail ++ new) rest (carries-stamped past.config past.channel (past.mail ++ new) j.requests) (carries-stamped past.config past.channel rest carries)
    (Each-weaker (λ (m : Message). now + 1 ≤ m.arrival) (λ (m : Message). length past.steps + 1 ≤ m.arrival) (λ m l. omega arith) rest late)) in
    let apart = split-differ (carried_requests (past.mail ++ new)) (carried_requests rest) (subst Differ (ap carried_requests whole ∙ requests-append (past.mail ++ new) rest) h.differ) in
    let before : Each (NoneIssuedFor (commands_after past)) (carried_requests rest) =
    Each-last (NoneIssuedFor (commands_after past)) (carried_requests new) (carried_requests rest)
    (subst (Each (NoneIssuedFor (commands_after past))) (ap carried_requests (sym (take-append-drop n inbox)) ∙ requests-append new rest) h.none_issued) in (
      record {
        requests = carries;
        by_age = split-age n inbox h.by_age;
        in_span = both (now + 1) until rest late (Each-weaker (λ (m : Message). (now ≤ m.arrival) × (m.arrival < until)) (λ (m : Message). m.arrival < until) (λ m k. k.1) rest (split-each (λ (m : Message). (now ≤ m.arrival) × (m.arrival < until)) n inbox h.in_span).1);
        differ = subst Differ (ap carried_requests whole) h.differ;
        none_issued = subst (λ x. Each (NoneIssuedFor x) (carried_requests rest)) (sym (issued_commands-push past.channel past.steps o))
            (none_issued-next (commands_after past) past.channel (length past.steps) o (carried_requests rest) before
            (chosen-not_later queue drained marks stats (with_mail past new) (carried_requests rest) j apart.1));
        room = λ k l. fits k (h.room (suc k) (omega arith)) whole same;
      },
      same,
    )
  where
    both : (low high : ℕ) (ms : List Message) → Each (λ (m : Message). low ≤ m.arrival) ms → Each (λ (m : Message). m.arrival < high) ms
        → Each (λ (m : Message). (low ≤ m.arrival) × (m.arrival < high)) ms
    both low high [] a b = tt
    both low high (m ∷ ms) a b = ((a.0, b.0), both low high ms a.1 b.1)

    fits : (k : ℕ) → queue_length past.channel (steps_on past inbox (suc k)) (past.mail ++ inbox) (now + suc k) ≤ queue_room past.config
        → let new = take (due_count inbox now) inbox in
        let rest = drop (due_count inbox now) inbox in
        past.mail ++ inbox ≡ (past.mail ++ new) ++ rest → choice past.config past.channel past.steps (past.mail ++ inbox) ≡ choice past.config past.channel past.steps (past.mail ++ new)
        → queue_length past.channel (channel_run past.config past.channel (past.steps ++ choice past.config past.channel past.steps (past.mail ++ new) ∷ []) ((past.mail ++ new) ++ rest) k) ((past.mail ++ new) ++ rest) (now + 1 + k) ≤ queue_room past.config
    fits k l e f =
        let all = past.mail ++ inbox in
        let g : suc k ≡ 1 + k = omega arith in
        let i : now + suc k ≡ now + 1 + k = omega arith in
        let later : channel_run past.config past.channel past.steps all (suc k) ≡ channel_run past.config past.channel (past.steps ++ choice past.config past.channel past.steps all ∷ []) all k =
        ap (channel_run past.config past.channel past.steps all) g ∙ channel_run-more past.config past.channel past.steps all 1 k ∙ ap (λ x. channel_run past.config past.channel x all k) (channel_run-first past.config past.channel past.steps all) in
        let x : queue_length past.channel (channel_run past.config past.channel past.steps all (suc k)) all (now + suc k)
        ≡ queue_length past.channel (channel_run past.config past.channel (past.steps ++ choice past.config past.channel past.steps (past.mail ++ take (due_count inbox now) inbox) ∷ []) ((past.mail ++ take (due_count inbox now) inbox) ++ drop (due_count inbox now) inbox) k)
        ((past.mail ++ take (due_count inbox now) inbox) ++ drop (due_count inbox now) inbox) (now + 1 + k) =
        ap₂ (λ r c. queue_length past.channel r all c) (later ∙ ap (λ c. channel_run past.config past.channel (past.steps ++ c ∷ []) all k) f) i
        ∙ ap (λ m. queue_length past.channel (channel_run past.config past.channel (past.steps ++ choice past.config past.channel past.steps (past.mail ++ take (due_count inbox now) inbox) ∷ []) m k) m (now + 1 + k)) e in
        omega arith
