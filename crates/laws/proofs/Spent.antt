-- A core sends a request only where it holds a credit for it.
use Rattle.std.proofs.Common.{◌≡◌, ℕ, zero, suc, ◌+◌, ◌-◌, ◌<◌, ◌≤◌, Bool, true, false, ◌&&◌, cond, eqb, ltb, List, [], ◌∷◌, ◌++◌, length, Some, refl, sym, ap, ◌∙◌, ◌⊎◌, inl, inr, arith}
use Rattle.std.specs.Prelude.{count_by, filter}
use Rattle.std.specs.Option.{IfSome}
use Rattle.std.specs.List.{AllByRecursion as Each}
use Rattle.std.proofs.lemmas.Bool.{false≢true, and_parts, and_from, eqb-true, eqb-false, ltb-true, lt-ltb, cases_lt}
use Rattle.std.proofs.lemmas.List.{length-map}
use Rattle.std.proofs.lemmas.List.Sums.{count_by-le-length}
use Rattle.sim_base.specs.declared.message.Access.{Access}
use Rattle.sim_base.specs.declared.message.Access.TheVariants as access
use Rattle.sim_base.specs.declared.config.Config.{Config}
use Rattle.sim_base.specs.Config.{credit_link}
use Rattle.sim_base.specs.Places.{place_of}
use Rattle.sim_base.specs.MachineStep.{MachineStep, step_of_core}
use Rattle.sim_base.specs.History.{trace_of, steps_of_core, request, request_of, core_messages, messages_of_core, messages, is_to, inbox}
use Rattle.sim_base.specs.Sends.{core_sends, sends}
use Rattle.sim_base.specs.Machine.{next_step, run}
use Rattle.sim_base.specs.Windows.{is_request_for, is_credit_on, credit_cap, held, lacks_credit}
use Rattle.sim_base.specs.declared.message.Message.{Message}
use Rattle.sim_base.specs.declared.message.Unit.{Unit as MachineUnit}
use Rattle.sim_base.specs.declared.message.Unit.TheVariants.{Core}
use Rattle.sim_base.specs.declared.trace.Entry.{Entry}
use Rattle.sim_base.specs.declared.trace.Entry.TheVariants.{Plain, Read, Write}
use Rattle.sim_base.proofs.Grows.{core-grows}
use Rattle.sim_base.proofs.Spans.{length_run}
use Rattle.sim_base.proofs.Lists.{count-cons}
use Rattle.laws.specs.Credits.{requests_sent_count, credits_back, CreditsAreNeverOverspent}
use Rattle.laws.proofs.Counting.{count-append, count-weaker, count-filter}
use Rattle.laws.proofs.Sent.{count-by_age, count-messages, issues-each, issues-one}

-- what passes a test in the inbox of a unit is what passes it of all messages that are sent to the unit
pub count-inbox : (p : Message → Bool) (s : Config) (traces : List (List Entry)) (history : List MachineStep) (unit : MachineUnit)
    → count_by p (inbox s traces history unit) ≡ count_by (λ m. is_to s unit m && p m) (messages s traces history)
unfolding inbox
count-inbox p s traces history unit = count-by_age p (filter (is_to s unit) (messages s traces history)) ∙ count-filter (is_to s unit) p (messages s traces history)

-- it grows by what is sent
pub inbox-more : (p : Message → Bool) (s : Config) (traces : List (List Entry)) (n : ℕ) (unit : MachineUnit)
    → count_by p (inbox s traces (run s traces (suc n)) unit)
    ≡ count_by p (inbox s traces (run s traces n) unit) + count_by (λ m. is_to s unit m && p m) (sends s traces (run s traces n) (next_step s traces (run s traces n)))
unfolding run
inbox-more p s traces n unit =
    let history = run s traces n in
    let a = count-inbox p s traces (history ++ next_step s traces history ∷ []) unit in
    let b = count-inbox p s traces history unit in
    let c = count-messages (λ m. is_to s unit m && p m) s traces history (next_step s traces history) in
    omega arith

-- what a core sends in a cycle
unfoldable pub sent_now : Config → List (List Entry) → ℕ → ℕ → ℕ → Access → ℕ
sent_now s traces n core channel access = count_by (λ m. is_request_for channel access m.payload) (core_sends s traces (run s traces n) (next_step s traces (run s traces n)) core)

pub requests_sent_count-more : (s : Config) (traces : List (List Entry)) (n core channel : ℕ) (access : Access)
    → requests_sent_count s traces (suc n) core channel access ≡ requests_sent_count s traces n core channel access + sent_now s traces n core channel access
unfolding run messages_of_core sent_now
requests_sent_count-more s traces n core channel access =
    let p = λ (m : Message). is_request_for channel access m.payload in
    ap (count_by p) (core-grows s traces (run s traces n) (next_step s traces (run s traces n)) core)
    ∙ count-append p (messages_of_core s traces (run s traces n) core) (core_sends s traces (run s traces n) (next_step s traces (run s traces n)) core)

-- the credits that came back before a cycle of those sent in the first n cycles
back_by : Config → List (List Entry) → ℕ → ℕ → ℕ → Access → ℕ → ℕ
back_by s traces n core channel access until = count_by (is_credit_on (credit_link s core channel) access until) (inbox s traces (run s traces n) (Core core))

back_by-later : (s : Config) (traces : List (List Entry)) (n core channel : ℕ) (access : Access) → back_by s traces n core channel access n ≤ back_by s traces n core channel access (suc n)
unfolding back_by
back_by-later s traces n core channel access =
    count-weaker (is_credit_on (credit_link s core channel) access n) (is_credit_on (credit_link s core channel) access (suc n))
    (λ m h.
    let a = and_parts _ (ltb m.arrival n) h in
    let l = ltb-true m.arrival n a.1 in
    and_from _ (ltb m.arrival (suc n)) a.0 (lt-ltb m.arrival (suc n) (omega arith)))
    (inbox s traces (run s traces n) (Core core))

credits_back-more : (s : Config) (traces : List (List Entry)) (n core channel : ℕ) (access : Access) → back_by s traces n core channel access (suc n) ≤ credits_back s traces (suc n) core channel access
unfolding back_by
credits_back-more s traces n core channel access =
    let e = inbox-more (is_credit_on (credit_link s core channel) access (suc n)) s traces n (Core core) in
    omega arith

-- a credit is held for what is sent
has_credit : (s : Config) (core : ℕ) (inbox sent : List Message) (channel : ℕ) (access : Access) (until : ℕ) → eqb (held s core inbox sent channel access until) 0 ≡ false
    → count_by (λ m. is_request_for channel access m.payload) sent + 1 ≤ credit_cap s access + count_by (is_credit_on (credit_link s core channel) access until) inbox
unfolding held
has_credit s core inbox sent channel access until h =
    more (credit_cap s access) (count_by (is_credit_on (credit_link s core channel) access until) inbox) (count_by (λ m. is_request_for channel access m.payload) sent) (eqb-false _ _ h)
  where
    more : (x y z : ℕ) → (x + y - z ≡ 0 → ⊥) → z + 1 ≤ x + y
    more x y z k = omega arith

-- a request of this kind to this channel is sent only where there is a credit for it
abbrev IsPaid : Config → List (List Entry) → ℕ → ℕ → ℕ → Access → Message → Type 0
IsPaid s traces n core channel access m =
    is_request_for channel access m.payload ≡ true → requests_sent_count s traces n core channel access + 1 ≤ credit_cap s access + back_by s traces n core channel access (suc n)

paid : (s : Config) (traces : List (List Entry)) (n core channel place : ℕ) (access : Access) → place ≡ channel
    → eqb (held s core (inbox s traces (run s traces n) (Core core)) (core_messages s core (trace_of traces core) (steps_of_core core (run s traces n))) place access (length (steps_of_core core (run s traces n)) + 1)) 0 ≡ false
    → requests_sent_count s traces n core channel access + 1 ≤ credit_cap s access + back_by s traces n core channel access (suc n)
unfolding back_by steps_of_core
paid s traces n core channel place access e h =
    let steps = steps_of_core core (run s traces n) in
    let mail = inbox s traces (run s traces n) (Core core) in
    let sent = core_messages s core (trace_of traces core) steps in
    let long : length steps + 1 ≡ suc n = let a = length-map (run s traces n) (step_of_core core) in let b = length_run s traces n in omega arith in
    has_credit s core mail sent channel access (suc n) (ap (λ u. eqb (held s core mail sent channel access u) 0) (sym long) ∙ ap (λ k. eqb (held s core mail sent k access (length steps + 1)) 0) (sym e) ∙ h)

entry-paid : (s : Config) (traces : List (List Entry)) (n core channel cycle entry : ℕ) (access : Access) (e : Entry)
    → lacks_credit s core (inbox s traces (run s traces n) (Core core)) (core_messages s core (trace_of traces core) (steps_of_core core (run s traces n))) (length (steps_of_core core (run s traces n))) (Some e) ≡ false
    → IfSome (request_of s core cycle entry e) (IsPaid s traces n core channel access)
unfolding lacks_credit request
entry-paid s traces n core channel cycle entry access Plain h = tt
entry-paid s traces n core channel cycle entry access.Write (Read address) h = λ k. absurd (false≢true (and_parts (eqb (place_of s address).channel channel) false k).1)
entry-paid s traces n core channel cycle entry access.Read (Read address) h = λ k. paid s traces n core channel (place_of s address).channel access.Read (eqb-true _ _ (and_parts (eqb (place_of s address).channel channel) true k).0) h
entry-paid s traces n core channel cycle entry access.Write (Write address) h = λ k. paid s traces n core channel (place_of s address).channel access.Write (eqb-true _ _ (and_parts (eqb (place_of s address).channel channel) true k).0) h
entry-paid s traces n core channel cycle entry access.Read (Write address) h = λ k. absurd (false≢true (and_parts (eqb (place_of s address).channel channel) false k).1)

core-paid : (s : Config) (traces : List (List Entry)) (n core channel : ℕ) (access : Access) → core < s.cores
    → Each (IsPaid s traces n core channel access) (core_sends s traces (run s traces n) (next_step s traces (run s traces n)) core)
core-paid s traces n core channel access l =
    let history = run s traces n in
    let steps = steps_of_core core history in
    issues-each (IsPaid s traces n core channel access) s traces history core l
    (λ j e b f g. entry-paid s traces n core channel (length history) _ access e
    (ap (lacks_credit s core (inbox s traces history (Core core)) (core_messages s core (trace_of traces core) steps) (length steps)) (sym f) ∙ g.1))

-- what holds wherever one passes holds where some do
where_some : (p : Message → Bool) (Q : Type 0) (ms : List Message) → Each (λ m. p m ≡ true → Q) ms → 0 < count_by p ms → Q
where_some p Q [] h l = absurd (omega arith)
where_some p Q (m ∷ ms) h l = go (p m) refl (where_some p Q ms h.1)
  where
    go : (b : Bool) → p m ≡ b → (0 < count_by p ms → Q) → Q
    go true e rest = h.0 e
    go false e rest =
        let f : count_by p (m ∷ ms) ≡ 0 + count_by p ms = count-cons p m ms ∙ ap (λ b. cond b 1 0 + count_by p ms) e in
        rest (omega arith)

sent-one : (s : Config) (traces : List (List Entry)) (n core channel : ℕ) (access : Access) → core < s.cores → sent_now s traces n core channel access ≤ 1
unfolding sent_now
sent-one s traces n core channel access l =
    let one = issues-one s traces (run s traces n) core l in
    let b = count_by-le-length (λ (m : Message). is_request_for channel access m.payload) (core_sends s traces (run s traces n) (next_step s traces (run s traces n)) core) in
    omega arith

sent-paid : (s : Config) (traces : List (List Entry)) (n core channel : ℕ) (access : Access) → core < s.cores → 0 < sent_now s traces n core channel access
    → requests_sent_count s traces n core channel access + 1 ≤ credit_cap s access + back_by s traces n core channel access (suc n)
unfolding sent_now
sent-paid s traces n core channel access l h =
    where_some (λ (m : Message). is_request_for channel access m.payload)
    (requests_sent_count s traces n core channel access + 1 ≤ credit_cap s access + back_by s traces n core channel access (suc n))
    (core_sends s traces (run s traces n) (next_step s traces (run s traces n)) core) (core-paid s traces n core channel access l) h

requests_sent_count-none : (s : Config) (traces : List (List Entry)) (core channel : ℕ) (access : Access) → requests_sent_count s traces 0 core channel access ≡ 0
unfolding run steps_of_core core_messages
requests_sent_count-none s traces core channel access = refl

spent-more : (s : Config) (traces : List (List Entry)) (core channel : ℕ) (access : Access) → core < s.cores → (n : ℕ)
    → requests_sent_count s traces n core channel access ≤ credit_cap s access + credits_back s traces n core channel access
    → requests_sent_count s traces (suc n) core channel access ≤ credit_cap s access + credits_back s traces (suc n) core channel access
unfolding back_by
spent-more s traces core channel access l n h =
    let e = requests_sent_count-more s traces n core channel access in
    let one = sent-one s traces n core channel access l in
    let a = back_by-later s traces n core channel access in
    let b = credits_back-more s traces n core channel access in
    go (cases_lt 0 (sent_now s traces n core channel access)) e one a b
  where
    go : (0 < sent_now s traces n core channel access) ⊎ (sent_now s traces n core channel access ≤ 0)
        → requests_sent_count s traces (suc n) core channel access ≡ requests_sent_count s traces n core channel access + sent_now s traces n core channel access
        → sent_now s traces n core channel access ≤ 1
        → back_by s traces n core channel access n ≤ back_by s traces n core channel access (suc n)
        → back_by s traces n core channel access (suc n) ≤ credits_back s traces (suc n) core channel access
        → requests_sent_count s traces (suc n) core channel access ≤ credit_cap s access + credits_back s traces (suc n) core channel access
    go (inl p) e one a b = let c = sent-paid s traces n core channel access l p in omega arith
    go (inr z) e one a b = omega arith

pub spent : (s : Config) (traces : List (List Entry)) (core channel : ℕ) (access : Access) → core < s.cores → (n : ℕ)
    → requests_sent_count s traces n core channel access ≤ credit_cap s access + credits_back s traces n core channel access
spent s traces core channel access l zero = let e = requests_sent_count-none s traces core channel access in omega arith
spent s traces core channel access l (suc n) = spent-more s traces core channel access l n (spent s traces core channel access l n)

pub credits_are_never_overspent : (s : Config) (traces : List (List Entry)) (n : ℕ) → CreditsAreNeverOverspent s traces n
credits_are_never_overspent s traces n core channel access l k = spent s traces core channel access l n
