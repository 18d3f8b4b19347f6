-- What one cycle more changes: the Reads that wait, the messages that were sent, and the credits.
use Rattle.std.proofs.Common.{◌≡◌, ℕ, zero, suc, ◌+◌, ◌-◌, ◌<◌, ◌≤◌, Bool, true, false, cond, not, ◌&&◌, ◌||◌, eqb, List, [], ◌∷◌, ◌++◌, length, take, Option, Some, None, refl, sym, ap, ap₂, ◌∙◌, add-one, arith, ⊎_elim}
use Rattle.std.specs.Prelude.{slice_get, count_by, option_and_then}
use Rattle.std.specs.Option.{IfSome, option_to_list}
use Rattle.std.specs.List.{AllByRecursion as Each, filter_map, range_with_len}
use Rattle.std.proofs.Math.Seq.{take-append_seam, take-length}
use Rattle.std.proofs.lemmas.Bool.{cases_lt, lt-ltb, ne_eqb}
use Rattle.std.proofs.lemmas.List.Elements.{filter_map-append}
use Rattle.std.proofs.lemmas.List.Sums.{sum_by-append}
use Rattle.sim_base.specs.declared.config.Config.{Config}
use Rattle.sim_base.specs.Counts.{is_read, replied_entry, issue_cycle, one_if}
use Rattle.sim_base.specs.Access.{is_access}
use Rattle.sim_base.specs.History.{below, request, request_of, issued_before, requests_between, requests_in, core_messages}
use Rattle.sim_base.specs.Places.{place_of}
use Rattle.sim_base.specs.Windows.{is_reply_to, is_request_for}
use Rattle.sim_base.specs.declared.history.CoreStep.{CoreStep}
use Rattle.sim_base.specs.declared.message.Access.{Access}
use Rattle.sim_base.specs.declared.message.Access.TheVariants as access
use Rattle.sim_base.specs.declared.message.Payload.{Payload}
use Rattle.sim_base.specs.declared.message.Payload.TheVariants as payload
use Rattle.sim_base.specs.declared.message.Message.{Message}
use Rattle.sim_base.specs.declared.trace.Entry.{Entry}
use Rattle.sim_base.specs.declared.trace.Entry.TheVariants.{Plain, Read, Write}
use Rattle.sim_base.proofs.Added.{core_messages-push, length-push_suc}
use Rattle.sim_base.proofs.Grows.{issued_before-push}
use Rattle.cpu_trace.specs.NextMemory.{IsPlainBetween}
use Rattle.cpu_trace.specs.declared.entries.MemoryEntry.{MemoryEntry}
use Rattle.statistics.specs.declared.final_state.Credits.{Credits}
use Rattle.statistics.proofs.CoreCounts.{issued_before-take-le, issue_cycle-push, issue_cycle-last}
use Rattle.core_window.specs.declared.outstanding.OutstandingRead.{OutstandingRead}
use Rattle.core_window.specs.Inside.{credits_now}
use Rattle.core_window.specs.Stands.{FollowsItsEntry, credits_had, credits_spent}
use Rattle.core_window.specs.OneCycle.{IsAmong, IsIssued, reads_issued, requests_issued, less_credit, credit_after_entry, credit_after}
use Rattle.core_window.specs.Outstanding.{is_read_in, is_read_at, is_answered, outstanding_read, outstanding_reads}
use Rattle.core_window.proofs.Ranges.{range-add, filter_map_range-more, filter_map_range-same, filter_map_range-none}
use Rattle.sim_base.proofs.Requested.{requests_between_none, requests_between_more}
use Rattle.core_window.proofs.Segments.{request_at, one_of_segment}

-- the entries that issue beside the memory entry are Plain
pub plain_others : (trace : List Entry) (first m : ℕ) (e : MemoryEntry) → IsAmong trace first m e → (k : ℕ) → k < m → (first + k ≡ e.number → ⊥) → slice_get trace (first + k) ≡ Some Plain
plain_others trace first m e h k l ne =
    ⊎_elim (λ b. h.is_plain_before (first + k) (omega arith) b) (λ a. h.is_plain_after (first + k) (omega arith) (omega arith)) (cases_lt (first + k) e.number)

-- no reply came of an entry that was not issued
unanswered : (steps : List CoreStep) (mail : List Message) → Each (FollowsItsEntry steps) mail → (entry : ℕ) → issued_before steps ≤ entry → is_answered mail entry ≡ false
unfolding is_answered
unanswered steps [] h entry l = refl
unanswered steps (m ∷ mail) h entry l = ap₂ (λ a b. a || b) (by m.payload h.0) (unanswered steps mail h.1 entry l)
  where
    by : (x : Payload) → IfSome (replied_entry x) (λ e. e < issued_before (take m.arrival steps)) → is_reply_to entry x ≡ false
    by (payload.Reply e) k = ne_eqb entry e (λ same. omega (arith, issued_before-take-le steps m.arrival))
    by (payload.Request r) k = refl
    by (payload.Credit w e) k = refl

-- an entry that was issued before waits as before
outstanding_read-kept : (trace : List Entry) (steps : List CoreStep) (core_step : CoreStep) (mail : List Message) (entry : ℕ) → entry < issued_before steps
    → outstanding_read trace (steps ++ core_step ∷ []) mail entry ≡ outstanding_read trace steps mail entry
unfolding outstanding_read
outstanding_read-kept trace steps core_step mail entry l =
    ap (λ n. cond (is_read_at trace entry && not (is_answered mail entry)) (Some (read_from entry n)) None) (issue_cycle-push steps core_step entry l)
  where
    read_from : ℕ → ℕ → OutstandingRead
    read_from entry n = record { entry = entry; issued = n }

outstanding_read-plain : (trace : List Entry) (steps : List CoreStep) (mail : List Message) (entry : ℕ) → slice_get trace entry ≡ Some Plain → outstanding_read trace steps mail entry ≡ None
unfolding outstanding_read
outstanding_read-plain trace steps mail entry h = ap waits h
  where
    waits : Option Entry → Option OutstandingRead
    waits o = cond (is_read_in o && not (is_answered mail entry)) (Some (record { entry = entry; issued = issue_cycle steps entry })) None

outstanding_read-new : (trace : List Entry) (steps : List CoreStep) (core_step : CoreStep) (mail : List Message) (e : MemoryEntry) → Each (FollowsItsEntry steps) mail
    → issued_before steps ≤ e.number → e.number < issued_before steps + core_step.issued → slice_get trace e.number ≡ Some e.entry
    → option_to_list (outstanding_read trace (steps ++ core_step ∷ []) mail e.number) ≡ reads_issued (Some e) (length steps)
unfolding outstanding_read
outstanding_read-new trace steps core_step mail e follows l b at =
    ap₂ (λ o n. waits o (is_answered mail e.number) n) at (issue_cycle-last steps core_step e.number l (omega (arith, b, issued_before-push steps core_step)))
    ∙ ap (λ a. waits (Some e.entry) a (length steps)) (unanswered steps mail follows e.number l)
    ∙ by (is_read e.entry)
  where
    waits : Option Entry → Bool → ℕ → List OutstandingRead
    waits o a n = option_to_list (cond (is_read_in o && not a) (Some (record { entry = e.number; issued = n })) None)

    by : (r : Bool) → option_to_list (cond {A = Option OutstandingRead} (r && true) (Some (record { entry = e.number; issued = length steps })) None) ≡ cond r (record { entry = e.number; issued = length steps } ∷ []) []
    by true = refl
    by false = refl

outstanding-new : (trace : List Entry) (steps : List CoreStep) (core_step : CoreStep) (mail : List Message) (memory : Option MemoryEntry) → Each (FollowsItsEntry steps) mail
    → IsIssued trace (issued_before steps) core_step.issued memory
    → filter_map (outstanding_read trace (steps ++ core_step ∷ []) mail) (range_with_len (issued_before steps) core_step.issued) ≡ reads_issued memory (length steps)
outstanding-new trace steps core_step mail None follows h =
    filter_map_range-none _ (issued_before steps) core_step.issued (λ k l. outstanding_read-plain trace (steps ++ core_step ∷ []) mail _ (h _ (omega arith) (omega arith)))
outstanding-new trace steps core_step mail (Some e) follows h =
    let f = outstanding_read trace (steps ++ core_step ∷ []) mail in
    let first = issued_before steps in
    one_of_segment (λ k. filter_map f (range_with_len first k)) (λ k. option_to_list (f k)) first e.number refl (filter_map_range-more f first) h.is_from core_step.issued
    (λ k l ne. ap option_to_list (outstanding_read-plain trace (steps ++ core_step ∷ []) mail (first + k) (plain_others trace first core_step.issued e h k l ne)))
    ∙ ap (λ b. cond b (option_to_list (f e.number)) []) (lt-ltb e.number (first + core_step.issued) h.is_below)
    ∙ outstanding_read-new trace steps core_step mail e follows h.is_from h.is_below h.is_at

-- a Read that issues begins to wait
pub outstanding_reads-push : (trace : List Entry) (steps : List CoreStep) (core_step : CoreStep) (mail : List Message) (memory : Option MemoryEntry) → Each (FollowsItsEntry steps) mail
    → IsIssued trace (issued_before steps) core_step.issued memory
    → outstanding_reads trace (steps ++ core_step ∷ []) mail ≡ outstanding_reads trace steps mail ++ reads_issued memory (length steps)
unfolding outstanding_reads
outstanding_reads-push trace steps core_step mail memory follows h =
    let f = outstanding_read trace (steps ++ core_step ∷ []) mail in
    let z : (k : ℕ) → 0 + k ≡ k = λ k. omega arith in
    ap (λ n. filter_map f (below n)) (issued_before-push steps core_step)
    ∙ ap (filter_map f) (range-add 0 (issued_before steps) core_step.issued)
    ∙ filter_map-append f (below (issued_before steps)) (range_with_len (0 + issued_before steps) core_step.issued)
    ∙ ap₂ (λ x y. x ++ y)
    (filter_map_range-same f (outstanding_read trace steps mail) 0 (issued_before steps) (λ k l. ap f (z k) ∙ outstanding_read-kept trace steps core_step mail k l ∙ ap (outstanding_read trace steps mail) (sym (z k))))
    (ap (λ n. filter_map f (range_with_len n core_step.issued)) (z (issued_before steps)) ∙ outstanding-new trace steps core_step mail memory follows h)

requests-new : (s : Config) (core : ℕ) (trace : List Entry) (cycle first m : ℕ) (memory : Option MemoryEntry) → IsIssued trace first m memory
    → requests_between s core trace cycle first (first + m) ≡ requests_issued s core cycle memory
requests-new s core trace cycle first m None h =
    requests_none m h
  where
    requests_none : (n : ℕ) → IsPlainBetween trace first (first + n) → requests_between s core trace cycle first (first + n) ≡ []
    requests_none zero h = requests_between_none s core trace cycle first
    requests_none (suc n) h =
        requests_between_more s core trace cycle first n
        ∙ ap₂ (λ x o. x ++ option_to_list (option_and_then (request_of s core cycle (first + n)) o)) (requests_none n (λ k l b. h k l (omega arith))) (h (first + n) (omega arith) (omega arith))
requests-new s core trace cycle first m (Some e) h =
    one_of_segment (λ k. requests_between s core trace cycle first (first + k)) (request_at s core trace cycle) first e.number
    (requests_between_none s core trace cycle first) (requests_between_more s core trace cycle first) h.is_from m
    (λ k l ne. ap (λ o. option_to_list (option_and_then (request_of s core cycle (first + k)) o)) (plain_others trace first m e h k l ne))
    ∙ ap (λ b. cond b (request_at s core trace cycle e.number) []) (lt-ltb e.number (first + m) h.is_below)
    ∙ ap (λ o. option_to_list (option_and_then (request_of s core cycle e.number) o)) h.is_at

-- the request of the memory entry that issues is sent
pub messages-push : (s : Config) (core : ℕ) (trace : List Entry) (steps : List CoreStep) (core_step : CoreStep) (memory : Option MemoryEntry)
    → IsIssued trace (issued_before steps) core_step.issued memory
    → core_messages s core trace (steps ++ core_step ∷ []) ≡ core_messages s core trace steps ++ requests_issued s core (length steps) memory
unfolding requests_in
messages-push s core trace steps core_step memory h =
    let after = steps ++ core_step ∷ [] in
    let all : take (length steps + 1) after ≡ after = ap (λ k. take k after) (sym (length-push_suc steps core_step ∙ sym (add-one (length steps)))) ∙ take-length after in
    core_messages-push s core trace steps core_step
    ∙ ap₂ (λ a b. core_messages s core trace steps ++ requests_between s core trace (length steps) (issued_before a) b) (take-append_seam steps (core_step ∷ [])) (ap issued_before all ∙ issued_before-push steps core_step)
    ∙ ap (λ x. core_messages s core trace steps ++ x) (requests-new s core trace (length steps) (issued_before steps) core_step.issued memory h)

-- whether a memory entry that issues spends a credit for a channel
abbrev pub is_spending_entry : Config → ℕ → Access → Entry → Bool
is_spending_entry s channel kind Plain = false
is_spending_entry s channel kind (Read address) = eqb (place_of s address).channel channel && is_access kind access.Read
is_spending_entry s channel kind (Write address) = eqb (place_of s address).channel channel && is_access kind access.Write

abbrev pub is_spending : Config → ℕ → Access → Option MemoryEntry → Bool
is_spending s channel access None = false
is_spending s channel access (Some e) = is_spending_entry s channel access e.entry

spent-entry : (s : Config) (core cycle number channel : ℕ) (access : Access) (entry : Entry)
    → count_by (λ m. is_request_for channel access m.payload) (option_to_list (request_of s core cycle number entry)) ≡ one_if (is_spending_entry s channel access entry)
unfolding request
spent-entry s core cycle number channel access Plain = refl
spent-entry s core cycle number channel access.Read (Read address) = omega arith
spent-entry s core cycle number channel access.Write (Read address) = omega arith
spent-entry s core cycle number channel access.Read (Write address) = omega arith
spent-entry s core cycle number channel access.Write (Write address) = omega arith

spent-memory : (s : Config) (core cycle channel : ℕ) (access : Access) (memory : Option MemoryEntry)
    → count_by (λ m. is_request_for channel access m.payload) (requests_issued s core cycle memory) ≡ one_if (is_spending s channel access memory)
spent-memory s core cycle channel access None = refl
spent-memory s core cycle channel access (Some e) = spent-entry s core cycle e.number channel access e.entry

pub spent-push : (s : Config) (core : ℕ) (trace : List Entry) (steps : List CoreStep) (core_step : CoreStep) (memory : Option MemoryEntry)
    → IsIssued trace (issued_before steps) core_step.issued memory → (channel : ℕ) (access : Access)
    → credits_spent s core trace (steps ++ core_step ∷ []) channel access ≡ credits_spent s core trace steps channel access + one_if (is_spending s channel access memory)
spent-push s core trace steps core_step memory h channel access =
    let p = λ (m : Message). is_request_for channel access m.payload in
    ap (count_by p) (messages-push s core trace steps core_step memory h)
    ∙ sum_by-append (λ m. one_if (p m)) (core_messages s core trace steps) (requests_issued s core (length steps) memory)
    ∙ ap (λ n. credits_spent s core trace steps channel access + n) (spent-memory s core (length steps) channel access memory)

pub same_credits : (d c : Credits) → d.read ≡ c.read → d.write ≡ c.write → d ≡ c
same_credits d c e f = let both : ℕ → ℕ → Credits = λ r w. record { read = r; write = w } in ap₂ both e f

after-entry : (s : Config) (channel hr hw sr sw : ℕ) (entry : Entry) → (c : Credits) → c.read ≡ hr - sr → c.write ≡ hw - sw
    → (d : Credits) → d.read ≡ hr - (sr + one_if (is_spending_entry s channel access.Read entry)) → d.write ≡ hw - (sw + one_if (is_spending_entry s channel access.Write entry))
    → d ≡ credit_after_entry s channel entry c
after-entry s channel hr hw sr sw Plain c r w d r' w' =
    let e : d.read ≡ c.read = omega arith in
    let f : d.write ≡ c.write = omega arith in
    same_credits _ _ e f
after-entry s channel hr hw sr sw (Read address) c r w d r' w' = by (eqb (place_of s address).channel channel) r' w'
  where
    by : (b : Bool) → d.read ≡ hr - (sr + one_if (b && true)) → d.write ≡ hw - (sw + one_if (b && false)) → d ≡ cond b (less_credit access.Read c) c
    by true x y =
        let e : d.read ≡ c.read - 1 = omega arith in
        let f : d.write ≡ c.write = omega arith in
        same_credits _ _ e f
    by false x y =
        let e : d.read ≡ c.read = omega arith in
        let f : d.write ≡ c.write = omega arith in
        same_credits _ _ e f
after-entry s channel hr hw sr sw (Write address) c r w d r' w' = by (eqb (place_of s address).channel channel) r' w'
  where
    by : (b : Bool) → d.read ≡ hr - (sr + one_if (b && false)) → d.write ≡ hw - (sw + one_if (b && true)) → d ≡ cond b (less_credit access.Write c) c
    by true x y =
        let e : d.read ≡ c.read = omega arith in
        let f : d.write ≡ c.write - 1 = omega arith in
        same_credits _ _ e f
    by false x y =
        let e : d.read ≡ c.read = omega arith in
        let f : d.write ≡ c.write = omega arith in
        same_credits _ _ e f

-- the credits that are left
pub credits-push : (s : Config) (core : ℕ) (trace : List Entry) (steps : List CoreStep) (core_step : CoreStep) (mail : List Message) (memory : Option MemoryEntry)
    → IsIssued trace (issued_before steps) core_step.issued memory → (channel : ℕ)
    → credits_now s core trace (steps ++ core_step ∷ []) mail channel ≡ credit_after s channel memory (credits_now s core trace steps mail channel)
credits-push s core trace steps core_step mail None h channel =
    let a = spent-push s core trace steps core_step None h channel access.Read in
    let b = spent-push s core trace steps core_step None h channel access.Write in
    let e : credits_had s core mail channel access.Read - credits_spent s core trace (steps ++ core_step ∷ []) channel access.Read ≡ credits_had s core mail channel access.Read - credits_spent s core trace steps channel access.Read = omega arith in
    let f : credits_had s core mail channel access.Write - credits_spent s core trace (steps ++ core_step ∷ []) channel access.Write ≡ credits_had s core mail channel access.Write - credits_spent s core trace steps channel access.Write = omega arith in
    same_credits _ _ e f
credits-push s core trace steps core_step mail (Some m) h channel =
    after-entry s channel _ _ _ _ m.entry (credits_now s core trace steps mail channel) refl refl (credits_now s core trace (steps ++ core_step ∷ []) mail channel)
    (ap (λ n. credits_had s core mail channel access.Read - n) (spent-push s core trace steps core_step (Some m) h channel access.Read))
    (ap (λ n. credits_had s core mail channel access.Write - n) (spent-push s core trace steps core_step (Some m) h channel access.Write))
