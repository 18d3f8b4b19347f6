-- What arrives at a core of a run in a cycle of a span: a reply to a Read that waits for it, or a credit that the core
-- spent.
use Rattle.std.proofs.Common.{◌≡◌, ℕ, zero, suc, ◌+◌, ◌<◌, ◌≤◌, ◌⊎◌, inl, inr, Bool, true, false, cond, eqb, ltb, ◌||◌, List, [], ◌∷◌, ◌++◌, take, refl, sym, ap, ap₂, subst, ◌∙◌, arith}
use Rattle.std.specs.Prelude.{filter, count_by, map}
use Rattle.std.specs.List.{AllByRecursion as Each, list_any}
use Rattle.std.proofs.lemmas.Bool.{cases_lt, and_from, eq-eqb, lt-ltb}
use Rattle.std.proofs.lemmas.List.{take-map, take_all, take-append-le}
use Rattle.std.proofs.lemmas.List.Elements.{filter-append}
use Rattle.sim_base.specs.declared.config.Config.{Config}
use Rattle.sim_base.specs.Config.{credit_link}
use Rattle.sim_base.specs.MachineStep.{step_of_core}
use Rattle.sim_base.specs.History.{trace_of, steps_of_core, messages, inbox, issued_before}
use Rattle.sim_base.specs.Machine.{run, next_step}
use Rattle.sim_base.specs.Windows.{is_reply_to, is_credit}
use Rattle.sim_base.specs.declared.message.Payload.{Payload}
use Rattle.sim_base.specs.declared.message.Payload.TheVariants as payload
use Rattle.sim_base.specs.declared.message.Message.{Message}
use Rattle.sim_base.specs.declared.message.Unit.TheVariants.{Core}
use Rattle.sim_base.specs.declared.trace.Entry.{Entry}
use Rattle.sim_base.proofs.Arrived.{arrived}
use Rattle.sim_base.proofs.Ordered.{Each-weaker}
use Rattle.sim_base.proofs.Spans.{length_run}
use Rattle.sim_base.specs.declared.message.Access.{Access}
use Rattle.sim_base.proofs.Accesses.{is_access-own}
use Rattle.sim_base.proofs.Lists.{count-cons, filter-each}
use Rattle.laws.specs.Credits.{requests_sent_count}
use Rattle.laws.specs.Messages.{FitsCore}
use Rattle.laws.specs.Requests.{AnswersReadAs}
use Rattle.laws.proofs.Answered.{reads_are_answered_once}
use Rattle.laws.proofs.Conserved.{served, conserved, credits-served}
use Rattle.laws.proofs.Counting.{count-append}
use Rattle.core_window.specs.Fit.{MayCarry, MayCome}
use Rattle.core_window.specs.Stands.{is_credit_from}
use Rattle.core_window.specs.Outstanding.{is_read_in, is_answered}
use Rattle.units.specs.SpanLaws.Cores.{core_steps_of}
use Rattle.units.specs.SpanLaws.Mail.{mail_before}
use Rattle.units.proofs.SpanLaws.Arrivals.{count-mine, arrived-agree}
use Rattle.units.proofs.SpanLaws.Lists.{each-none, count-kept}

-- the first cycles of a run
take-run : (s : Config) (traces : List (List Entry)) (n t : ℕ) → t ≤ n → take t (run s traces n) ≡ run s traces t
unfolding run
take-run s traces zero t h =
    let e : t ≡ 0 = omega arith in
    take_all t [] (omega arith) ∙ ap (run s traces) (sym e)
take-run s traces (suc n) t h = go (cases_lt n t) (take-run s traces n t)
  where
    go : (n < t) ⊎ (t ≤ n) → (t ≤ n → take t (run s traces n) ≡ run s traces t) → take t (run s traces (suc n)) ≡ run s traces t
    go (inl b) rest =
        let e : t ≡ suc n = omega arith in
        let long = length_run s traces (suc n) in
        take_all t (run s traces (suc n)) (omega arith) ∙ ap (run s traces) (sym e)
    go (inr b) rest =
        let long = length_run s traces n in
        take-append-le t (run s traces n) (next_step s traces (run s traces n) ∷ []) (omega arith) ∙ rest b

take-steps_of_core : (s : Config) (traces : List (List Entry)) (n t core : ℕ) → t ≤ n → take t (core_steps_of s traces n core) ≡ core_steps_of s traces t core
unfolding steps_of_core
take-steps_of_core s traces n t core h = take-map (step_of_core core) t (run s traces n) ∙ ap (map (step_of_core core)) (take-run s traces n t h)

own_reply : (entry : ℕ) (l : Payload) → l ≡ payload.Reply entry → is_reply_to entry l ≡ true
own_reply entry l e = ap (is_reply_to entry) e ∙ eq-eqb entry entry refl

none-any : (p : Message → Bool) (ms : List Message) → Each (λ m. p m ≡ false) ms → list_any p ms ≡ false
none-any p [] h = refl
none-any p (m ∷ ms) h = ap₂ (λ a b. a || b) h.0 (none-any p ms h.1)

-- among messages of which at most one is the reply to an entry, none before it is
reply-first : (entry : ℕ) (mail after : List Message) (m : Message) → m.payload ≡ payload.Reply entry → count_by (λ n. is_reply_to entry n.payload) (mail ++ m ∷ after) ≤ 1
    → is_answered mail entry ≡ false
unfolding is_answered
reply-first entry mail after m e h =
    let p = λ (n : Message). is_reply_to entry n.payload in
    let a : count_by p (mail ++ m ∷ after) ≡ count_by p mail + count_by p (m ∷ after) = count-append p mail (m ∷ after) in
    let b : count_by p (m ∷ after) ≡ 1 + count_by p after = count-cons p m after ∙ ap (λ x. cond x 1 0 + count_by p after) (own_reply entry m.payload e) in
    none-any p mail (each-none p mail (omega arith))

-- a credit that has come by a cycle is for a request that was sent before
credits-sent : (s : Config) (traces : List (List Entry)) (n core channel : ℕ) (access : Access) → channel < s.channels
    → count_by (is_credit_from (credit_link s core channel) access) (inbox s traces (run s traces n) (Core core)) ≤ requests_sent_count s traces n core channel access
credits-sent s traces n core channel access l =
    let p = is_credit_from (credit_link s core channel) access in
    let a = count-mine p s traces (run s traces n) (Core core) in
    let b : count_by p (messages s traces (run s traces n)) ≤ served s traces n core channel access = credits-served s traces core channel access l n in
    let c = conserved s traces core channel access l n in
    omega arith

-- no more of them come before a message, and with it, than there are up to its cycle
counted-arrived : (p : Message → Bool) (mail after : List Message) (m : Message) → Each (λ (n : Message). n.arrival ≤ m.arrival) mail → p m ≡ true
    → count_by p mail + 1 ≤ count_by p (arrived (mail ++ m ∷ after) (m.arrival + 1))
counted-arrived p mail after m h e =
    let until = m.arrival + 1 in
    let t = λ (n : Message). ltb n.arrival until in
    let all : filter t mail ≡ mail = filter-each t mail (Each-weaker (λ (n : Message). n.arrival ≤ m.arrival) (λ n. t n ≡ true) (λ n k. lt-ltb n.arrival until (omega arith)) mail h) in
    let here : filter t (m ∷ after) ≡ m ∷ filter t after = ap (λ b. cond b (m ∷ filter t after) (filter t after)) (lt-ltb m.arrival until (omega arith)) in
    let whole : arrived (mail ++ m ∷ after) until ≡ mail ++ m ∷ filter t after = filter-append t mail (m ∷ after) ∙ ap₂ (λ x y. x ++ y) all here in
    let a : count_by p (arrived (mail ++ m ∷ after) until) ≡ count_by p mail + count_by p (m ∷ filter t after) = ap (count_by p) whole ∙ count-append p mail (m ∷ filter t after) in
    let b : count_by p (m ∷ filter t after) ≡ 1 + count_by p (filter t after) = count-cons p m (filter t after) ∙ ap (λ x. cond x 1 0 + count_by p (filter t after)) e in
    omega arith

-- the messages of a run up to one that comes to a core
pub record ComesTo (s : Config) (traces : List (List Entry)) (until core : ℕ) (mail after : List Message) (m : Message) : Type 0 where
  pub whole : mail_before s traces until (Core core) until ≡ mail ++ m ∷ after
  pub in_time : m.arrival < until
  pub no_later : Each (λ (n : Message). n.arrival ≤ m.arrival) mail

replied-once : (s : Config) (traces : List (List Entry)) (until core entry : ℕ) (mail after : List Message) (m : Message) → core < s.cores → ComesTo s traces until core mail after m
    → m.payload ≡ payload.Reply entry → is_answered mail entry ≡ false
replied-once s traces until core entry mail after m l h e =
    let p = λ (n : Message). is_reply_to entry n.payload in
    let all = inbox s traces (run s traces until) (Core core) in
    let a : count_by p (mail_before s traces until (Core core) until) ≤ count_by p all = count-kept (λ (n : Message). ltb n.arrival until) p all in
    let b : count_by p all ≤ 1 = reads_are_answered_once s traces until core entry l in
    let c : count_by p (mail_before s traces until (Core core) until) ≡ count_by p (mail ++ m ∷ after) = ap (count_by p) h.whole in
    reply-first entry mail after m e (omega arith)

credit-owed : (s : Config) (traces : List (List Entry)) (until core channel : ℕ) (access : Access) (entry : ℕ) (mail after : List Message) (m : Message) → channel < s.channels
    → ComesTo s traces until core mail after m → m.payload ≡ payload.Credit access entry → m.link ≡ credit_link s core channel
    → count_by (is_credit_from (credit_link s core channel) access) mail < requests_sent_count s traces m.arrival core channel access
credit-owed s traces until core channel access entry mail after m l h e f =
    let p = is_credit_from (credit_link s core channel) access in
    let now = m.arrival in
    let then = inbox s traces (run s traces now) (Core core) in
    let mine : p m ≡ true = and_from (eqb m.link (credit_link s core channel)) (is_credit access m.payload) (eq-eqb m.link (credit_link s core channel) f) (ap (is_credit access) e ∙ is_access-own access) in
    let same : arrived (mail ++ m ∷ after) (now + 1) ≡ arrived then (now + 1) =
    ap (λ x. arrived x (now + 1)) (sym h.whole) ∙ (arrived-agree s traces now until (Core core) h.in_time).same (now + 1) (omega arith) in
    let a = counted-arrived p mail after m h.no_later mine in
    let b : count_by p (arrived (mail ++ m ∷ after) (now + 1)) ≡ count_by p (arrived then (now + 1)) = ap (count_by p) same in
    let c : count_by p (arrived then (now + 1)) ≤ count_by p then = count-kept (λ (n : Message). ltb n.arrival (now + 1)) p then in
    let d = credits-sent s traces now core channel access l in
    omega arith

-- each message to a core may come in its cycle
pub comes-due : (s : Config) (traces : List (List Entry)) (until core : ℕ) (mail after : List Message) (m : Message) → core < s.cores → ComesTo s traces until core mail after m
    → FitsCore s core m.link m.payload → AnswersReadAs (trace_of traces core) (core_steps_of s traces until core) m.arrival m.payload
    → MayCome s core (trace_of traces core) (core_steps_of s traces m.arrival core) mail m
comes-due s traces until core mail after m l h fits answers = by m.payload refl fits answers
  where
    by : (d : Payload) → m.payload ≡ d → FitsCore s core m.link d → AnswersReadAs (trace_of traces core) (core_steps_of s traces until core) m.arrival d
        → MayCarry s core (trace_of traces core) (core_steps_of s traces m.arrival core) mail m.link d
    by (payload.Request r) e f a = f
    by (payload.Reply entry) e f a =
        record {
          is_of_a_read = ap is_read_in a.0.1;
          is_issued = subst (λ steps. entry < issued_before steps) (take-steps_of_core s traces until m.arrival core (omega (arith, h.in_time))) a.1;
          is_first = replied-once s traces until core entry mail after m l h e;
        }
    by (payload.Credit access entry) e f a =
        record {
          channel = f.0;
          exists = f.1;
          on_its_link = f.2;
          has_room = let k = credit-owed s traces until core f.0 access entry mail after m f.1 h e f.2 in omega arith;
        }
