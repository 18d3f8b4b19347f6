-- A core that stands for some messages stands, after one more, for those and this one.
use Rattle.std.proofs.Common.{◌⊎◌, inl, inr, ◌≡◌, ℕ, zero, suc, ◌+◌, ◌-◌, ◌*◌, ◌/◌, ◌%◌, ◌^◌, ◌<◌, ◌≤◌, Bool, true, false, cond, not, ◌&&◌, ◌||◌, eqb, List, [], ◌∷◌, ◌++◌, length, take, Option, Some, None, refl, sym, ap, ap₂, subst, ◌∙◌, add-one, arith, ⊎_elim}
use Rattle.std.specs.Prelude.{slice_get, sum_by, filter, find, is_some}
use Rattle.std.specs.Option.{IfSome}
use Rattle.std.specs.List.{AllByRecursion as Each, filter_map, range_with_len, cons_option}
use Rattle.std.proofs.Math.Seq.{take-length}
use Rattle.std.proofs.lemmas.Nat.{mod-mul-add, mul-le}
use Rattle.std.proofs.lemmas.Bool.{cases_lt, ne_eqb, eq-eqb, eqb-true, eqb-false}
use Rattle.std.proofs.lemmas.List.{append-nil}
use Rattle.std.proofs.lemmas.List.Elements.{filter-append}
use Rattle.std.proofs.lemmas.List.Folds.{list_any-append}
use Rattle.std.proofs.lemmas.List.Sums.{sum_by_push}
use Rattle.std.proofs.Math.Bool.{or-false}
use Rattle.sim_base.specs.declared.config.Config.{Config}
use Rattle.sim_base.specs.Config.{credit_link}
use Rattle.sim_base.specs.Counts.{is_reply, replies, replied_entry, wait_of, issue_cycle, one_if}
use Rattle.sim_base.specs.History.{below, issued_before}
use Rattle.sim_base.specs.Access.{is_access}
use Rattle.sim_base.specs.Windows.{is_reply_to, is_credit}
use Rattle.sim_base.specs.declared.history.CoreStep.{CoreStep}
use Rattle.sim_base.specs.declared.message.Access.{Access}
use Rattle.sim_base.specs.declared.message.Access.TheVariants as access
use Rattle.sim_base.specs.declared.message.Payload.TheVariants as payload
use Rattle.sim_base.specs.declared.message.Message.{Message}
use Rattle.sim_base.specs.declared.trace.Entry.{Entry}
use Rattle.sim_base.proofs.Each.{Each-append}
use Rattle.sim_base.proofs.Ordered.{Each-weaker}
use Rattle.sim_base.proofs.Added.{length-push_suc}
use Rattle.sim_base.proofs.Lists.{length-filter-le}
use Rattle.statistics.specs.Cores.{core_stats, core_joined, replies_in, is_reply_in, waited}
use Rattle.statistics.specs.declared.cores.CoreStats.{CoreStats}
use Rattle.statistics.specs.declared.final_state.Credits.{Credits}
use Rattle.statistics.proofs.CoreCounts.{read_latency-le, core_stats-later, replies-push, read_latency-push}
use Rattle.core_window.specs.Fit.{IsAwaited, IsOutstandingCredit}
use Rattle.core_window.specs.Inside.{credits_now, core_arrived, StandsAt}
use Rattle.core_window.specs.Replies.{MayTakeReply, after_reply}
use Rattle.core_window.specs.Stands.{IsPast, FollowsItsEntry, is_credit_from, credits_had, credits_spent}
use Rattle.core_window.specs.OneCycle.{more_credit, credits_of_kind}
use Rattle.core_window.specs.Views.{CoreView}
use Rattle.core_window.specs.Outstanding.{is_read_at, is_answered, outstanding_read, outstanding_reads, IsByNumber}
use Rattle.core_window.specs.declared.outstanding.OutstandingRead.{OutstandingRead}
use Rattle.core_window.proofs.Ranges.{filter_map_range-same}
use Rattle.core_window.proofs.Stepping.{follows-read, replies-le}
use Rattle.core_window.proofs.Issuing.{same_credits}

-- the room that the counts of replies have
pub reply-room : (s : Config) (core : ℕ) (trace : List Entry) (steps : List CoreStep) (mail : List Message) (a : CoreView) → StandsAt s core trace steps mail a → a.now < 2 ^ 62 → MayTakeReply a
unfolding core_stats replies
reply-room s core trace steps mail a h l =
    let idle : CoreStep = record { retired = 0; issued = 0 } in
    let after = steps ++ idle ∷ [] in
    let p = replies-push steps idle mail in
    let q = read_latency-push steps idle mail (follows-read steps idle mail h.past.arrived h.past.follows) in
    let most = replies-le (length after) mail in
    let few : length (replies after mail) ≤ 2 ^ 62 = omega (arith, h.past.answered, h.past.issued, h.past.fits) in
    let n : length after ≡ suc (length steps) = length-push_suc steps idle in
    let long : length after ≤ 2 ^ 62 = omega (arith, h.now) in
    let product : length (replies after mail) * length after ≤ 2 ^ 62 * 2 ^ 62 = mul-le _ _ (2 ^ 62) (2 ^ 62) few long in
    record {
      count = omega (arith, ap (λ (x : CoreStats). x.replies) h.stats);
      sum = omega (arith, ap (λ (x : CoreStats). x.read_latency) h.stats, read_latency-le after mail);
    }

-- what the reply to an entry answers
answered-more : (mail : List Message) (m : Message) (entry : ℕ) → is_answered (mail ++ m ∷ []) entry ≡ (is_answered mail entry || (is_reply_to entry m.payload || false))
unfolding is_answered
answered-more mail m entry = list_any-append (λ (x : Message). is_reply_to entry x.payload) mail (m ∷ [])

abbrev keep_if : {X : Type 0} → (X → Bool) → Option X → Option X
keep_if q None = None
keep_if q (Some x) = cond (q x) (Some x) None

filter-filter_map : {X : Type 0} (q : X → Bool) (f g : ℕ → Option X) → ((k : ℕ) → g k ≡ keep_if q (f k)) → (xs : List ℕ) → filter q (filter_map f xs) ≡ filter_map g xs
filter-filter_map q f g h [] = refl
filter-filter_map {X = X} q f g h (x ∷ xs) = by (f x) (filter-filter_map q f g h xs) ∙ ap (λ o. cons_option o (filter_map g xs)) (sym (h x))
  where
    one : (y : X) (b : Bool) → filter q (filter_map f xs) ≡ filter_map g xs → cond b (y ∷ filter q (filter_map f xs)) (filter q (filter_map f xs)) ≡ cons_option (cond b (Some y) None) (filter_map g xs)
    one y true r = ap (λ l. y ∷ l) r
    one y false r = r

    by : (a : Option X) → filter q (filter_map f xs) ≡ filter_map g xs → filter q (cons_option a (filter_map f xs)) ≡ cons_option (keep_if q a) (filter_map g xs)
    by None r = r
    by (Some y) r = one y (q y) r

reply_takes : (trace : List Entry) (steps : List CoreStep) (mail : List Message) (m : Message) (entry : ℕ) → m.payload ≡ payload.Reply entry → (k : ℕ)
    → outstanding_read trace steps (mail ++ m ∷ []) k ≡ keep_if (λ (r : OutstandingRead). not (eqb r.entry entry)) (outstanding_read trace steps mail k)
unfolding outstanding_read
reply_takes trace steps mail m entry e k =
    ap (λ b. waits (is_read_at trace k && not b)) (answered-more mail m k ∙ ap (λ l. is_answered mail k || (is_reply_to k l || false)) e)
    ∙ by (is_read_at trace k) (is_answered mail k)
  where
    read : OutstandingRead
    read = record { entry = k; issued = issue_cycle steps k }

    waits : Bool → Option OutstandingRead
    waits b = cond b (Some read) None

    last : (x : Bool) → waits (not (x || false)) ≡ cond (not x) (Some read) None
    last true = refl
    last false = refl

    by : (b a : Bool) → waits (b && not (a || (eqb k entry || false))) ≡ keep_if (λ (r : OutstandingRead). not (eqb r.entry entry)) (waits (b && not a))
    by false a = refl
    by true true = refl
    by true false = last (eqb k entry)

-- the Reads that wait after a reply
outstanding_reads-reply : (trace : List Entry) (steps : List CoreStep) (mail : List Message) (m : Message) (entry : ℕ) → m.payload ≡ payload.Reply entry
    → outstanding_reads trace steps (mail ++ m ∷ []) ≡ filter (λ r. not (eqb r.entry entry)) (outstanding_reads trace steps mail)
unfolding outstanding_reads
outstanding_reads-reply trace steps mail m entry e =
    sym (filter-filter_map (λ (r : OutstandingRead). not (eqb r.entry entry)) (outstanding_read trace steps mail) (outstanding_read trace steps (mail ++ m ∷ [])) (reply_takes trace steps mail m entry e) (below (issued_before steps)))

own : (trace : List Entry) (steps : List CoreStep) (mail : List Message) (k : ℕ) → IfSome (outstanding_read trace steps mail k) (λ w. w.entry ≡ k)
unfolding outstanding_read
own trace steps mail k = by (is_read_at trace k && not (is_answered mail k))
  where
    by : (b : Bool) → IfSome (cond {A = Option OutstandingRead} b (Some (record { entry = k; issued = issue_cycle steps k })) None) (λ w. w.entry ≡ k)
    by true = refl
    by false = tt

-- numbers in a core_step that are kept stay in their order
by_number : (f : ℕ → Option OutstandingRead) → ((k : ℕ) → IfSome (f k) (λ w. w.entry ≡ k)) → (n a : ℕ)
    → IsByNumber (filter_map f (range_with_len a n)) × Each (λ (w : OutstandingRead). a ≤ w.entry) (filter_map f (range_with_len a n))
by_number f h zero a = (tt, tt)
by_number f h (suc n) a = by (f a) (h a) (by_number f h n (a + 1))
  where
    others : List OutstandingRead
    others = filter_map f (range_with_len (a + 1) n)

    by : (o : Option OutstandingRead) → IfSome o (λ w. w.entry ≡ a) → IsByNumber others × Each (λ (w : OutstandingRead). a + 1 ≤ w.entry) others
        → IsByNumber (cons_option o others) × Each (λ (w : OutstandingRead). a ≤ w.entry) (cons_option o others)
    by None is r = (r.0, Each-weaker (λ (w : OutstandingRead). a + 1 ≤ w.entry) (λ w. a ≤ w.entry) (λ w l. omega arith) others r.1)
    by (Some read) is r = (
      (Each-weaker (λ (w : OutstandingRead). a + 1 ≤ w.entry) (λ w. read.entry < w.entry) (λ w l. omega arith) others r.1, r.0),
      (omega arith, Each-weaker (λ (w : OutstandingRead). a + 1 ≤ w.entry) (λ w. a ≤ w.entry) (λ w l. omega arith) others r.1),
    )

pub outstanding-by_number : (trace : List Entry) (steps : List CoreStep) (mail : List Message) → IsByNumber (outstanding_reads trace steps mail)
unfolding outstanding_reads
outstanding-by_number trace steps mail = (by_number (outstanding_read trace steps mail) (own trace steps mail) (issued_before steps) 0).0

find_own : (f : ℕ → Option OutstandingRead) → ((k : ℕ) → IfSome (f k) (λ w. w.entry ≡ k)) → (e : ℕ) (r : OutstandingRead) → f e ≡ Some r → r.entry ≡ e
    → (n a : ℕ) → a ≤ e → e < a + n → find (λ w. eqb w.entry e) (filter_map f (range_with_len a n)) ≡ Some r
find_own f h e r is same zero a l b = absurd (omega arith)
find_own f h e r is same (suc n) a l b =
    ⊎_elim
    (λ less. before (find_own f h e r is same n (a + 1) (omega arith) (omega arith)) less (f a) (h a))
    (λ most. let at : a ≡ e = omega arith in
    ap (λ o. find (λ (w : OutstandingRead). eqb w.entry e) (cons_option o (filter_map f (range_with_len (a + 1) n)))) (ap f at ∙ is)
    ∙ ap (λ b. cond b (Some r) (find (λ (w : OutstandingRead). eqb w.entry e) (filter_map f (range_with_len (a + 1) n)))) (eq-eqb r.entry e same))
    (cases_lt a e)
  where
    before : find (λ (w : OutstandingRead). eqb w.entry e) (filter_map f (range_with_len (a + 1) n)) ≡ Some r → a < e → (o : Option OutstandingRead) → IfSome o (λ w. w.entry ≡ a)
        → find (λ (w : OutstandingRead). eqb w.entry e) (cons_option o (filter_map f (range_with_len (a + 1) n))) ≡ Some r
    before i less None own = i
    before i less (Some w) own =
        ap (λ b. cond b (Some w) (find (λ (w : OutstandingRead). eqb w.entry e) (filter_map f (range_with_len (a + 1) n)))) (ne_eqb w.entry e (λ same. omega arith)) ∙ i

-- an awaited reply is of a Read that waits
awaited_waits : (trace : List Entry) (steps : List CoreStep) (mail : List Message) (entry : ℕ) → IsAwaited trace steps mail entry
    → outstanding_read trace steps mail entry ≡ Some (record { entry = entry; issued = issue_cycle steps entry })
unfolding outstanding_read
awaited_waits trace steps mail entry h = ap₂ waits h.is_of_a_read h.is_first
  where
    waits : Bool → Bool → Option OutstandingRead
    waits b a = cond (b && not a) (Some (record { entry = entry; issued = issue_cycle steps entry })) None

pub awaited_found : (trace : List Entry) (steps : List CoreStep) (mail : List Message) (entry : ℕ) → IsAwaited trace steps mail entry
    → find (λ r. eqb r.entry entry) (outstanding_reads trace steps mail) ≡ Some (record { entry = entry; issued = issue_cycle steps entry })
unfolding outstanding_reads
awaited_found trace steps mail entry h =
    find_own (outstanding_read trace steps mail) (own trace steps mail) entry _ (awaited_waits trace steps mail entry h) refl (issued_before steps) 0 (omega arith) (omega (arith, h.is_issued))

-- a list without the elements that pass a test is shorter where one of them is found
length-without : {X : Type 0} (p : X → Bool) (r : X) (xs : List X) → find p xs ≡ Some r → length (filter (λ x. not (p x)) xs) + 1 ≤ length xs
length-without p r [] h = cc
length-without {X = X} p r (x ∷ xs) h = by (p x) (length-without p r xs) (length-filter-le (λ x. not (p x)) xs) h
  where
    by : (b : Bool) → (find p xs ≡ Some r → length (filter (λ x. not (p x)) xs) + 1 ≤ length xs) → length (filter (λ x. not (p x)) xs) ≤ length xs
        → cond b (Some x) (find p xs) ≡ Some r → length (cond (not b) (x ∷ filter (λ x. not (p x)) xs) (filter (λ x. not (p x)) xs)) + 1 ≤ suc (length xs)
    by true i l h = omega arith
    by false i l h = let k = i h in omega arith

-- a further message takes no credit away
had-more : (s : Config) (core : ℕ) (mail : List Message) (m : Message) (channel : ℕ) (access : Access)
    → credits_had s core (mail ++ m ∷ []) channel access ≡ credits_had s core mail channel access + one_if (is_credit_from (credit_link s core channel) access m)
had-more s core mail m channel access =
    let e = sum_by_push (λ (x : Message). one_if (is_credit_from (credit_link s core channel) access x)) mail m in
    omega arith

answered-kept : (mail : List Message) (m : Message) (entry : ℕ) → is_answered mail entry ≡ true → is_answered (mail ++ m ∷ []) entry ≡ true
answered-kept mail m entry h = answered-more mail m entry ∙ ap (λ b. b || (is_reply_to entry m.payload || false)) h

past-receives : (s : Config) (core : ℕ) (trace : List Entry) (steps : List CoreStep) (mail : List Message) (m : Message) → IsPast s core trace steps mail → m.arrival ≡ length steps
    → FollowsItsEntry steps m → length (filter is_reply (mail ++ m ∷ [])) + length (outstanding_reads trace steps (mail ++ m ∷ [])) ≤ issued_before steps
    → IsPast s core trace steps (mail ++ m ∷ [])
past-receives s core trace steps mail m past now follows answered =
    record {
      fits = past.fits;
      issued = past.issued;
      retired = past.retired;
      window = past.window;
      arrived = Each-append (λ (x : Message). x.arrival ≤ length steps) mail (m ∷ []) past.arrived (omega arith, tt);
      follows = Each-append (FollowsItsEntry steps) mail (m ∷ []) past.follows (follows, tt);
      done = λ entry l read. answered-kept mail m entry (past.done entry l read);
      answered = answered;
      paid = λ channel access. omega (arith, past.paid channel access, had-more s core mail m channel access);
    }

-- what comes in the cycle changes no statistics of those before it
stats-receive : (s : Config) (core : ℕ) (trace : List Entry) (steps : List CoreStep) (mail : List Message) (m : Message) → m.arrival ≡ length steps
    → core_stats s core trace steps (mail ++ m ∷ []) ≡ core_stats s core trace steps mail
stats-receive s core trace steps mail m now = core_stats-later s core trace steps mail (m ∷ []) (omega arith, tt)

replies_in-more : (steps : List CoreStep) (mail : List Message) (m : Message) → m.arrival ≡ length steps
    → replies_in (length steps) (mail ++ m ∷ []) ≡ replies_in (length steps) mail ++ cond (is_reply m) (m ∷ []) []
unfolding replies_in
replies_in-more steps mail m now =
    filter-append (is_reply_in (length steps)) mail (m ∷ [])
    ∙ ap (λ b. filter (is_reply_in (length steps)) mail ++ cond (is_reply m && b) (m ∷ []) []) (eq-eqb m.arrival (length steps) now)
    ∙ ap (λ b. filter (is_reply_in (length steps)) mail ++ cond b (m ∷ []) []) (and_true (is_reply m))
  where
    and_true : (b : Bool) → (b && true) ≡ b
    and_true true = refl
    and_true false = refl

reply_follows : (steps : List CoreStep) (m : Message) (entry : ℕ) → m.payload ≡ payload.Reply entry → m.arrival ≡ length steps → entry < issued_before steps → FollowsItsEntry steps m
reply_follows steps m entry e now l =
    subst (λ x. IfSome (replied_entry x) (λ k. k < issued_before (take m.arrival steps))) (sym e)
    (subst (λ r. entry < issued_before r) (sym (ap (λ n. take n steps) now ∙ take-length steps)) l)

-- the core after a reply
pub reply-stands : (s : Config) (core : ℕ) (trace : List Entry) (steps : List CoreStep) (mail : List Message) (m : Message) (a b : CoreView) (entry : ℕ)
    → StandsAt s core trace steps mail a → m.arrival ≡ length steps → m.payload ≡ payload.Reply entry → IsAwaited trace steps mail entry
    → b ≡ after_reply a (record { entry = entry; issued = issue_cycle steps entry }) a.now
    → StandsAt s core trace steps (mail ++ m ∷ []) b
unfolding core_stats waited
reply-stands s core trace steps mail m a b entry h now is due e =
    subst (StandsAt s core trace steps (mail ++ m ∷ [])) (sym e)
    (record {
      config = h.config;
      number = h.number;
      entries = h.entries;
      now = h.now;
      outstanding = ap (filter (λ (r : OutstandingRead). not (eqb r.entry entry))) h.outstanding ∙ sym (outstanding_reads-reply trace steps mail m entry is);
      channels = h.channels;
      credits = λ channel l. h.credits channel l ∙ ap Some (same_credits channel (had-same channel));
      stats = stats;
      past = past-receives s core trace steps mail m h.past now (reply_follows steps m entry is now due.is_issued) answered;
    })
  where
    is_a_reply : is_reply m ≡ true
    is_a_reply = ap (λ x. is_some (replied_entry x)) is

    had-same : (channel : ℕ) (access : Access) → credits_had s core mail channel access ≡ credits_had s core (mail ++ m ∷ []) channel access
    had-same channel access =
        let none : is_credit_from (credit_link s core channel) access m ≡ false = ap (λ x. eqb m.link (credit_link s core channel) && is_credit access x) is ∙ and_false (eqb m.link (credit_link s core channel)) in
        let zero : one_if (is_credit_from (credit_link s core channel) access m) ≡ 0 = ap one_if none in
        omega (arith, had-more s core mail m channel access)
      where
        and_false : (b : Bool) → (b && false) ≡ false
        and_false true = refl
        and_false false = refl

    same_credits : (channel : ℕ) → ((access : Access) → credits_had s core mail channel access ≡ credits_had s core (mail ++ m ∷ []) channel access)
        → credits_now s core trace steps mail channel ≡ credits_now s core trace steps (mail ++ m ∷ []) channel
    same_credits channel g =
        let both : ℕ → ℕ → Credits = λ r w. record { read = r - credits_spent s core trace steps channel access.Read; write = w - credits_spent s core trace steps channel access.Write } in
        ap₂ both (g access.Read) (g access.Write)

    answered : length (filter is_reply (mail ++ m ∷ [])) + length (outstanding_reads trace steps (mail ++ m ∷ [])) ≤ issued_before steps
    answered =
        let one : filter is_reply (mail ++ m ∷ []) ≡ filter is_reply mail ++ m ∷ [] = filter-append is_reply mail (m ∷ []) ∙ ap (λ b. filter is_reply mail ++ cond b (m ∷ []) []) is_a_reply in
        let n : length (filter is_reply (mail ++ m ∷ [])) ≡ suc (length (filter is_reply mail)) = ap length one ∙ length-push_suc (filter is_reply mail) m in
        let w : length (outstanding_reads trace steps (mail ++ m ∷ [])) ≡ length (filter (λ (r : OutstandingRead). not (eqb r.entry entry)) (outstanding_reads trace steps mail)) = ap length (outstanding_reads-reply trace steps mail m entry is) in
        let k = length-without (λ (r : OutstandingRead). eqb r.entry entry) _ (outstanding_reads trace steps mail) (awaited_found trace steps mail entry due) in
        omega (arith, h.past.answered)

    arrived : replies_in (length steps) (mail ++ m ∷ []) ≡ replies_in (length steps) mail ++ m ∷ []
    arrived = replies_in-more steps mail m now ∙ ap (λ b. replies_in (length steps) mail ++ cond b (m ∷ []) []) is_a_reply

    stats : record a.stats { replies = a.stats.replies + 1; read_latency = a.stats.read_latency + (a.now - issue_cycle steps entry) }
        ≡ core_joined (core_stats s core trace steps (mail ++ m ∷ [])) (core_arrived steps (mail ++ m ∷ []))
    stats =
        let wait = λ (x : Message). wait_of steps x.arrival (replied_entry x.payload) in
        let one : length (replies_in (length steps) (mail ++ m ∷ [])) ≡ length (replies_in (length steps) mail) + 1 = ap length arrived ∙ length-push_suc (replies_in (length steps) mail) m ∙ sym (add-one _) in
        let sum : waited steps (replies_in (length steps) (mail ++ m ∷ [])) ≡ waited steps (replies_in (length steps) mail) + (a.now - issue_cycle steps entry) =
        ap (sum_by wait) arrived ∙ sum_by_push wait (replies_in (length steps) mail) m
        ∙ ap (λ n. sum_by wait (replies_in (length steps) mail) + n) (ap (λ x. wait_of steps m.arrival (replied_entry x)) is ∙ ap (λ n. n - issue_cycle steps entry) (now ∙ sym h.now)) in
        let more : CoreStats → ℕ → ℕ → CoreStats = λ x r l. record x { replies = r; read_latency = l } in
        let before = core_joined (core_stats s core trace steps mail) (core_arrived steps mail) in
        let r1 : a.stats.replies + 1 ≡ (core_stats s core trace steps mail).replies + length (replies_in (length steps) (mail ++ m ∷ [])) = omega (arith, ap (λ (x : CoreStats). x.replies) h.stats) in
        let r2 : a.stats.read_latency + (a.now - issue_cycle steps entry) ≡ (core_stats s core trace steps mail).read_latency + waited steps (replies_in (length steps) (mail ++ m ∷ [])) = omega (arith, ap (λ (x : CoreStats). x.read_latency) h.stats) in
        ap (λ x. more x (a.stats.replies + 1) (a.stats.read_latency + (a.now - issue_cycle steps entry))) h.stats
        ∙ ap₂ (more before) r1 r2
        ∙ ap (λ x. core_joined x (core_arrived steps (mail ++ m ∷ []))) (sym (stats-receive s core trace steps mail m now))

channel_of_link : (s : Config) (core channel : ℕ) → channel < s.channels → credit_link s core channel / 3 % s.channels ≡ channel
channel_of_link s core channel l =
    let x = core * s.channels + channel in
    let f : (3 * x + 2) / 3 ≡ x = omega arith in
    ap (λ y. y % s.channels) f ∙ mod-mul-add core s.channels channel l

same_waiting : (trace : List Entry) (steps : List CoreStep) (a b : List Message) → ((k : ℕ) → is_answered a k ≡ is_answered b k) → outstanding_reads trace steps a ≡ outstanding_reads trace steps b
unfolding outstanding_reads outstanding_read
same_waiting trace steps a b h =
    filter_map_range-same (outstanding_read trace steps a) (outstanding_read trace steps b) 0 (issued_before steps)
    (λ k l. ap (λ x. waits (0 + k) (is_read_at trace (0 + k) && not x)) (h (0 + k)))
  where
    waits : ℕ → Bool → Option OutstandingRead
    waits k b = cond b (Some (record { entry = k; issued = issue_cycle steps k })) None

-- a credit that is owed has room
owed_room : (s : Config) (core : ℕ) (trace : List Entry) (steps : List CoreStep) (mail : List Message) (link : ℕ) (access : Access) (due : IsOutstandingCredit s core trace steps mail link access)
    → credits_of_kind access (credits_now s core trace steps mail due.channel) + 1 < 2 ^ 64
owed_room s core trace steps mail link access.Read due = omega (arith, due.has_room, s.core_in_range.read_credits_in.1)
owed_room s core trace steps mail link access.Write due = omega (arith, due.has_room, s.core_in_range.write_credits_in.1)

more-of : (kind : Access) (hr hw sr sw : ℕ) → sr ≤ hr → sw ≤ hw → (d : Credits) → d.read ≡ hr + one_if (is_access access.Read kind) - sr → d.write ≡ hw + one_if (is_access access.Write kind) - sw
    → d ≡ more_credit kind (record { read = hr - sr; write = hw - sw })
more-of access.Read hr hw sr sw l k d e f = same_credits d _ (omega arith) (omega arith)
more-of access.Write hr hw sr sw l k d e f = same_credits d _ (omega arith) (omega arith)

-- the core after a credit
pub credit-stands : (s : Config) (core : ℕ) (trace : List Entry) (steps : List CoreStep) (mail : List Message) (m : Message) (a b : CoreView) (kind : Access) (entry : ℕ)
    → StandsAt s core trace steps mail a → m.arrival ≡ length steps → m.payload ≡ payload.Credit kind entry → IsOutstandingCredit s core trace steps mail m.link kind
    → b ≡ record a { credits = b.credits } → length b.credits ≡ length a.credits
    → ((channel : ℕ) (c : Credits) → slice_get a.credits channel ≡ Some c → (m.link / 3 % a.config.channels ≡ channel → credits_of_kind kind c + 1 < 2 ^ 64)
    → slice_get b.credits channel ≡ Some (cond (eqb (m.link / 3 % a.config.channels) channel) (more_credit kind c) c))
    → StandsAt s core trace steps (mail ++ m ∷ []) b
unfolding core_stats
credit-stands s core trace steps mail m a b kind entry h now is due rest len each =
    record {
      config = ap (λ (x : CoreView). x.config) rest ∙ h.config;
      number = ap (λ (x : CoreView). x.core) rest ∙ h.number;
      entries = ap (λ (x : CoreView). x.trace) rest ∙ h.entries;
      now = ap (λ (x : CoreView). x.now) rest ∙ h.now;
      outstanding = ap (λ (x : CoreView). x.outstanding) rest ∙ h.outstanding ∙ sym waits;
      channels = len ∙ h.channels;
      credits = λ channel l. each channel (credits_now s core trace steps mail channel) (h.credits channel l) (λ e. room channel (sym at ∙ e))
          ∙ ap Some (ap (λ n. cond (eqb n channel) (more_credit kind (credits_now s core trace steps mail channel)) (credits_now s core trace steps mail channel)) at ∙ owed channel l);
      stats = ap (λ (x : CoreView). x.stats) rest ∙ h.stats ∙ stats;
      past = past-receives s core trace steps mail m h.past now (subst (λ x. IfSome (replied_entry x) (λ k. k < issued_before (take m.arrival steps))) (sym is) tt) answered;
    }
  where
    at : m.link / 3 % a.config.channels ≡ due.channel
    at = ap₂ (λ x (y : Config). x / 3 % y.channels) due.on_its_link h.config ∙ channel_of_link s core due.channel due.exists

    room : (channel : ℕ) → due.channel ≡ channel → credits_of_kind kind (credits_now s core trace steps mail channel) + 1 < 2 ^ 64
    room channel e = subst (λ k. credits_of_kind kind (credits_now s core trace steps mail k) + 1 < 2 ^ 64) e (owed_room s core trace steps mail m.link kind due)

    owed : (channel : ℕ) → channel < s.channels → cond (eqb due.channel channel) (more_credit kind (credits_now s core trace steps mail channel)) (credits_now s core trace steps mail channel) ≡ credits_now s core trace steps (mail ++ m ∷ []) channel
    owed channel l =
        ⊎_elim
        (λ same. ap (λ b. cond b (more_credit kind (credits_now s core trace steps mail channel)) (credits_now s core trace steps mail channel)) (eq-eqb due.channel channel same)
        ∙ sym (more-of kind (credits_had s core mail channel access.Read) (credits_had s core mail channel access.Write) (credits_spent s core trace steps channel access.Read) (credits_spent s core trace steps channel access.Write)
        (h.past.paid channel access.Read) (h.past.paid channel access.Write) (credits_now s core trace steps (mail ++ m ∷ []) channel)
        (ap (λ n. n - credits_spent s core trace steps channel access.Read) (had-more s core mail m channel access.Read ∙ ap (λ n. credits_had s core mail channel access.Read + n) (here channel same access.Read)))
        (ap (λ n. n - credits_spent s core trace steps channel access.Write) (had-more s core mail m channel access.Write ∙ ap (λ n. credits_had s core mail channel access.Write + n) (here channel same access.Write)))))
        (λ other. ap (λ b. cond b (more_credit kind (credits_now s core trace steps mail channel)) (credits_now s core trace steps mail channel)) (ne_eqb due.channel channel other)
        ∙ keeps channel (elsewhere channel l other))
        (same_or_not due.channel channel)
      where
        same_or_not : (x y : ℕ) → (x ≡ y) ⊎ (x ≡ y → ⊥)
        same_or_not x y = elim (eqb x y) as (λ b. eqb x y ≡ b → (x ≡ y) ⊎ (x ≡ y → ⊥)) [ true ↦ λ e. inl (eqb-true x y e) | false ↦ λ e. inr (eqb-false x y e) ] refl

        here : (channel : ℕ) → due.channel ≡ channel → (w : Access) → one_if (is_credit_from (credit_link s core channel) w m) ≡ one_if (is_access w kind)
        here channel same w =
            ap₂ (λ b x. one_if (b && is_credit w x)) (eq-eqb m.link (credit_link s core channel) (due.on_its_link ∙ ap (credit_link s core) same)) is

        elsewhere : (channel : ℕ) → channel < s.channels → (due.channel ≡ channel → ⊥) → (w : Access) → one_if (is_credit_from (credit_link s core channel) w m) ≡ 0
        elsewhere channel l other w =
            ap (λ b. one_if (b && is_credit w m.payload)) (ne_eqb m.link (credit_link s core channel)
            (λ e. other (sym (channel_of_link s core due.channel due.exists) ∙ ap (λ n. n / 3 % s.channels) (sym due.on_its_link ∙ e) ∙ channel_of_link s core channel l)))

        keeps : (channel : ℕ) → ((w : Access) → one_if (is_credit_from (credit_link s core channel) w m) ≡ 0) → credits_now s core trace steps mail channel ≡ credits_now s core trace steps (mail ++ m ∷ []) channel
        keeps channel g =
            let both : ℕ → ℕ → Credits = λ r w. record { read = r - credits_spent s core trace steps channel access.Read; write = w - credits_spent s core trace steps channel access.Write } in
            let e : credits_had s core mail channel access.Read ≡ credits_had s core (mail ++ m ∷ []) channel access.Read = omega (arith, had-more s core mail m channel access.Read, g access.Read) in
            let f : credits_had s core mail channel access.Write ≡ credits_had s core (mail ++ m ∷ []) channel access.Write = omega (arith, had-more s core mail m channel access.Write, g access.Write) in
            ap₂ both e f

    not_a_reply : is_reply m ≡ false
    not_a_reply = ap (λ x. is_some (replied_entry x)) is

    same_answered : (k : ℕ) → is_answered (mail ++ m ∷ []) k ≡ is_answered mail k
    same_answered k = answered-more mail m k ∙ ap (λ x. is_answered mail k || (is_reply_to k x || false)) is ∙ or-false (is_answered mail k)

    waits : outstanding_reads trace steps (mail ++ m ∷ []) ≡ outstanding_reads trace steps mail
    waits = same_waiting trace steps (mail ++ m ∷ []) mail same_answered

    same_replies : filter is_reply (mail ++ m ∷ []) ≡ filter is_reply mail
    same_replies = filter-append is_reply mail (m ∷ []) ∙ ap (λ b. filter is_reply mail ++ cond b (m ∷ []) []) not_a_reply ∙ append-nil (filter is_reply mail)

    answered : length (filter is_reply (mail ++ m ∷ [])) + length (outstanding_reads trace steps (mail ++ m ∷ [])) ≤ issued_before steps
    answered = omega (arith, ap length same_replies, ap length waits, h.past.answered)

    arrived : replies_in (length steps) (mail ++ m ∷ []) ≡ replies_in (length steps) mail
    arrived = replies_in-more steps mail m now ∙ ap (λ b. replies_in (length steps) mail ++ cond b (m ∷ []) []) not_a_reply ∙ append-nil (replies_in (length steps) mail)

    stats : core_joined (core_stats s core trace steps mail) (core_arrived steps mail) ≡ core_joined (core_stats s core trace steps (mail ++ m ∷ [])) (core_arrived steps (mail ++ m ∷ []))
    stats =
        let with : CoreStats → List Message → CoreStats = λ x ms. record x { replies = x.replies + length ms; read_latency = x.read_latency + waited steps ms } in
        let e : core_joined (core_stats s core trace steps mail) (core_arrived steps mail) ≡ core_joined (core_stats s core trace steps mail) (core_arrived steps (mail ++ m ∷ [])) = rw arrived refl in
        e ∙ ap (λ x. core_joined x (core_arrived steps (mail ++ m ∷ []))) (sym (stats-receive s core trace steps mail m now))
