-- A core of a run does alone what it does in the run, and the messages that come to it are fit.
use Rattle.std.proofs.Common.{◌≡◌, ℕ, zero, suc, ◌+◌, ◌-◌, ◌<◌, ◌≤◌, false, ltb, leb, ◌&&◌, List, [], ◌∷◌, ◌++◌, length, sym, ap, subst, ◌∙◌, add-zero, add-suc, append_assoc, arith}
use Rattle.std.specs.List.{AllByRecursion as Each}
use Rattle.std.proofs.lemmas.List.Elements.{recursion_from_All}
use Rattle.sim_base.specs.declared.config.Config.{Config}
use Rattle.sim_base.specs.History.{trace_of, inbox, is_before}
use Rattle.sim_base.specs.Machine.{run, core_run}
use Rattle.sim_base.specs.Windows.{step}
use Rattle.sim_base.specs.declared.message.Message.{Message}
use Rattle.sim_base.specs.declared.message.Unit.TheVariants.{Core}
use Rattle.sim_base.specs.declared.trace.Entry.{Entry}
use Rattle.sim_base.proofs.Arrived.{arrived, not_before_le}
use Rattle.sim_base.proofs.Each.{Each-append, Each-both}
use Rattle.sim_base.proofs.Ordered.{Each-weaker, Sorted}
use Rattle.sim_base.proofs.Same.{step-same}
use Rattle.sim_base.proofs.Spans.{length_run, inbox-sorted}
use Rattle.statistics.proofs.Replies.{length-steps_of_core}
use Rattle.statistics.proofs.RunSteps.{steps_of_core-next}
use Rattle.laws.specs.Messages.{FitsCore}
use Rattle.laws.specs.Requests.{AnswersRead}
use Rattle.laws.proofs.Answered.{replies_answer_reads}
use Rattle.laws.proofs.Fitting.{answers_fit}
use Rattle.core_window.specs.Fit.{MayCome, IsByArrival}
use Rattle.units.specs.SpanLaws.Cores.{core_steps_of, MessagesFitSpans, CoresRunAlone}
use Rattle.units.specs.SpanLaws.Mail.{mail_before, mail_in}
use Rattle.units.proofs.SpanLaws.Arrivals.{arrived-agree, spans-join}
use Rattle.units.proofs.SpanLaws.Dues.{ComesTo, comes-due}
use Rattle.units.proofs.SpanLaws.Lists.{Sorted-filter, arriving-within, before-within}

-- the first cycles of a span
core-alone : (s : Config) (traces : List (List Entry)) (from until core : ℕ) → core < s.cores → (n : ℕ) → from + n ≤ until
    → core_run s core (trace_of traces core) (core_steps_of s traces from core) (mail_before s traces until (Core core) until) n ≡ core_steps_of s traces (from + n) core
unfolding core_run
core-alone s traces from until core k zero l = ap (λ i. core_steps_of s traces i core) (sym (add-zero from))
core-alone s traces from until core k (suc n) l =
    let now = from + n in
    let trace = trace_of traces core in
    let steps = core_steps_of s traces now core in
    let mail = mail_before s traces until (Core core) until in
    let then = inbox s traces (run s traces now) (Core core) in
    let long : length steps ≡ now = length-steps_of_core core (run s traces now) ∙ length_run s traces now in
    let same : arrived mail (length steps + 1) ≡ arrived then (length steps + 1) =
    subst (λ i. arrived mail (i + 1) ≡ arrived then (i + 1)) (sym long) ((arrived-agree s traces now until (Core core) (omega arith)).same (now + 1) (omega arith)) in
    ap (λ x. x ++ (step s core trace x mail).0 ∷ []) (core-alone s traces from until core k n (omega arith))
    ∙ ap (λ o. steps ++ o.0 ∷ []) (step-same s core trace steps mail then same)
    ∙ sym (steps_of_core-next s traces now core k)
    ∙ ap (λ i. core_steps_of s traces i core) (sym (add-suc from n))

-- the first cycles of a span, from what arrived before the span and what arrives in it
core-span : (s : Config) (traces : List (List Entry)) (from until core : ℕ) → core < s.cores → from ≤ until → (n : ℕ) → from + n ≤ until
    → core_run s core (trace_of traces core) (core_steps_of s traces from core) (mail_before s traces until (Core core) from ++ mail_in s traces until (Core core) from until) n
    ≡ core_steps_of s traces (from + n) core
core-span s traces from until core k l n h =
    ap (λ ms. core_run s core (trace_of traces core) (core_steps_of s traces from core) ms n) (spans-join s traces from until (Core core) l) ∙ core-alone s traces from until core k n h

pub cores-run_alone : (s : Config) (traces : List (List Entry)) (from until : ℕ) → CoresRunAlone s traces from until
cores-run_alone s traces from until core k l =
    let e : from + (until - from) ≡ until = omega arith in
    core-span s traces from until core k l (until - from) (omega arith) ∙ ap (λ i. core_steps_of s traces i core) e

by-arrival : (ms : List Message) → Sorted ms → IsByArrival ms
by-arrival [] h = tt
by-arrival (m ∷ ms) h = (Each-weaker (λ (y : Message). is_before y m ≡ false) (λ (y : Message). m.arrival ≤ y.arrival) (λ y k. not_before_le y m k) ms h.0, by-arrival ms h.1)

at-split : (P : Message → Type 0) (xs ys : List Message) (m : Message) → Each P (xs ++ m ∷ ys) → P m
at-split P [] ys m h = h.0
at-split P (x ∷ xs) ys m h = at-split P xs ys m h.1

-- in a list by arrival, the messages before another arrive no later than that
sooner-split : (xs ys : List Message) (m : Message) → IsByArrival (xs ++ m ∷ ys) → Each (λ (n : Message). n.arrival ≤ m.arrival) xs
sooner-split [] ys m h = tt
sooner-split (x ∷ xs) ys m h = (at-split (λ (n : Message). x.arrival ≤ n.arrival) xs ys m h.0, sooner-split xs ys m h.1)

-- what holds of each message to a core
abbrev IsAnswer : Config → List (List Entry) → ℕ → ℕ → Message → Type 0
IsAnswer s traces n core m = FitsCore s core m.link m.payload × AnswersRead (trace_of traces core) (core_steps_of s traces n core) m

all-answer : (s : Config) (traces : List (List Entry)) (n core : ℕ) → core < s.cores → Each (IsAnswer s traces n core) (inbox s traces (run s traces n) (Core core))
all-answer s traces n core k =
    let all = inbox s traces (run s traces n) (Core core) in
    let P = λ (m : Message). FitsCore s core m.link m.payload in
    let Q = AnswersRead (trace_of traces core) (core_steps_of s traces n core) in
    Each-both P Q all (recursion_from_All P all (answers_fit s traces n core k)) (recursion_from_All Q all (replies_answer_reads s traces n core k))

span-by_arrival : (s : Config) (traces : List (List Entry)) (from until core : ℕ) → IsByArrival (mail_in s traces until (Core core) from until)
span-by_arrival s traces from until core =
    by-arrival (mail_in s traces until (Core core) from until)
    (Sorted-filter (λ (m : Message). leb from m.arrival && ltb m.arrival until) (inbox s traces (run s traces until) (Core core)) (inbox-sorted s traces (run s traces until) (Core core)))

-- the messages of a span, with what each brings
span-answers : (s : Config) (traces : List (List Entry)) (from until core : ℕ) → core < s.cores
    → Each (λ (m : Message). (from ≤ m.arrival) × (m.arrival < until) × IsAnswer s traces until core m) (mail_in s traces until (Core core) from until)
span-answers s traces from until core k = arriving-within from until (IsAnswer s traces until core) (inbox s traces (run s traces until) (Core core)) (all-answer s traces until core k)

-- each of them may come after those before it
span-due : (s : Config) (traces : List (List Entry)) (from until core : ℕ) → core < s.cores → from ≤ until → (before after : List Message) (m : Message)
    → mail_in s traces until (Core core) from until ≡ before ++ m ∷ after
    → MayCome s core (trace_of traces core)
    (core_run s core (trace_of traces core) (core_steps_of s traces from core) (mail_before s traces until (Core core) from ++ mail_in s traces until (Core core) from until) (m.arrival - from))
    (mail_before s traces until (Core core) from ++ before) m
span-due s traces from until core k l before after m e =
    let trace = trace_of traces core in
    let mail = mail_before s traces until (Core core) from in
    let new = mail_in s traces until (Core core) from until in
    let all = inbox s traces (run s traces until) (Core core) in
    let P = λ (n : Message). (from ≤ n.arrival) × (n.arrival < until) × IsAnswer s traces until core n in
    let here : P m = at-split P before after m (subst (Each P) e (span-answers s traces from until core k)) in
    let early : from ≤ m.arrival = here.0 in
    let late : m.arrival < until = here.1 in
    let n : from + (m.arrival - from) ≡ m.arrival = omega arith in
    let steps : core_run s core trace (core_steps_of s traces from core) (mail ++ new) (m.arrival - from) ≡ core_steps_of s traces m.arrival core =
    core-span s traces from until core k l (m.arrival - from) (omega arith) ∙ ap (λ i. core_steps_of s traces i core) n in
    let comes : ComesTo s traces until core (mail ++ before) after m =
    record {
      whole = sym (spans-join s traces from until (Core core) l) ∙ ap (λ x. mail ++ x) e ∙ sym (append_assoc mail before (m ∷ after));
      in_time = late;
      no_later = Each-append (λ (x : Message). x.arrival ≤ m.arrival) mail before
          (Each-weaker (λ (x : Message). x.arrival < from) (λ (x : Message). x.arrival ≤ m.arrival) (λ x h. omega arith) mail (before-within from all))
          (sooner-split before after m (subst IsByArrival e (span-by_arrival s traces from until core)));
    } in
    subst (λ r. MayCome s core trace r (mail ++ before) m) (sym steps) (comes-due s traces until core (mail ++ before) after m k comes here.2.0 here.2.1)

pub messages-fit_spans : (s : Config) (traces : List (List Entry)) (from until : ℕ) → MessagesFitSpans s traces from until
messages-fit_spans s traces from until core k l =
    let new = mail_in s traces until (Core core) from until in
    let P = λ (m : Message). (from ≤ m.arrival) × (m.arrival < until) × IsAnswer s traces until core m in
    let within = span-answers s traces from until core k in
    record {
      from_then = Each-weaker P (λ (m : Message). from ≤ m.arrival) (λ m h. h.0) new within;
      until_then = Each-weaker P (λ (m : Message). m.arrival < until) (λ m h. h.1) new within;
      in_order = span-by_arrival s traces from until core;
      due = span-due s traces from until core k l;
    }
