-- A core that stands for some steps stands, after what it does in a cycle, for one core_step more.
use Rattle.std.proofs.Common.{get_or, ◌≡◌, ℕ, ◌+◌, ◌-◌, ◌^◌, ◌<◌, ◌≤◌, min, Bool, true, false, cond, ◌&&◌, eqb, ltb, leb, List, [], ◌∷◌, ◌++◌, length, take, drop, Option, Some, None, refl, sym, ap, ap₂, subst, ◌∙◌, add-zero, zero-add, arith, ⊎_elim}
use Rattle.std.specs.Prelude.{slice_get, count_by, filter}
use Rattle.std.specs.Option.{IfSome, option_to_list}
use Rattle.std.specs.List.{AllByRecursion as Each, prefix_len, range_with_len}
use Rattle.std.proofs.lemmas.Bool.{cases_lt, lt-ltb, ne_eqb, eqb-false, false≢true, eqb-true}
use Rattle.std.proofs.lemmas.List.{length-append}
use Rattle.std.proofs.lemmas.List.Folds.{length-prefix_len}
use Rattle.std.proofs.lemmas.List.Sums.{prefix_len_passes, prefix_len-le-length, sum_by-cons}
use Rattle.std.proofs.lemmas.List.FromFn.{length-range_with_len, get_or-range_with_len}
use Rattle.sim_base.specs.declared.config.Config.{Config}
use Rattle.sim_base.specs.Config.{credit_link}
use Rattle.sim_base.specs.Counts.{is_read, is_write, is_reply, is_reply_before, replies, replied_entry, one_if}
use Rattle.sim_base.specs.Access.{is_access}
use Rattle.sim_base.specs.History.{retired_before, issued_before, core_messages}
use Rattle.sim_base.specs.Places.{place_of}
use Rattle.sim_base.specs.Windows.{is_credit, is_credit_on, is_request_for, credit_cap, held, lacks_credit, is_done, is_done_as, is_replied, done_from, retires, step}
use Rattle.sim_base.specs.Machine.{core_run}
use Rattle.sim_base.specs.declared.history.CoreStep.{CoreStep}
use Rattle.sim_base.specs.declared.message.Access.{Access}
use Rattle.sim_base.specs.declared.message.Access.TheVariants as access
use Rattle.sim_base.specs.declared.message.Message.{Message}
use Rattle.sim_base.specs.declared.trace.Entry.{Entry}
use Rattle.sim_base.specs.declared.trace.Entry.TheVariants.{Plain, Read, Write}
use Rattle.sim_base.specs.declared.trace.Stop.{Stop}
use Rattle.sim_base.proofs.Ordered.{Each-weaker}
use Rattle.sim_base.proofs.Added.{length-push_suc}
use Rattle.sim_base.proofs.Grows.{issued_before-push}
use Rattle.cpu_trace.specs.declared.entries.MemoryEntry.{MemoryEntry}
use Rattle.statistics.specs.Cores.{core_stats, core_cycle, core_cycle_with, core_joined, issued_in, replies_in, finish_in, is_reply_in, waited, RepliesFollowReads, CoreFits}
use Rattle.statistics.specs.declared.cores.CoreStats.{CoreStats}
use Rattle.statistics.specs.declared.final_state.Credits.{Credits}
use Rattle.statistics.proofs.CoreCounts.{core_stats-fit, core_stats-push, retired_before-push}
use Rattle.statistics.proofs.KeepsToTrace.{retires-le, issues-le}
use Rattle.statistics.proofs.CoreStretches.{core_joined-assoc}
use Rattle.statistics.proofs.Lists.{take-push, option_or-none}
use Rattle.core_window.specs.Inside.{credits_now, core_arrived, StandsAt, Sends, Advances}
use Rattle.core_window.specs.Stands.{IsPast, FollowsItsEntry, is_credit_from, credits_had, credits_spent}
use Rattle.core_window.specs.OneCycle.{IsIssued, IsWork, reads_issued, requests_issued, credit_after, cycle_counts, is_read_among, is_write_among}
use Rattle.core_window.specs.Views.{CoreView}
use Rattle.core_window.specs.declared.outstanding.OutstandingRead.{OutstandingRead}
use Rattle.core_window.specs.Outstanding.{is_read_in, is_read_at, is_answered, outstanding_reads}
use Rattle.core_window.proofs.Issuing.{plain_others, outstanding_reads-push, messages-push, is_spending_entry, is_spending, spent-push, credits-push}
use Rattle.core_window.proofs.Retiring.{replied-answered}
use Rattle.core_window.proofs.Segments.{count_none, count_one}

one_counted : (p : Entry → Bool) (e : Entry) → count_by p (option_to_list (Some e)) ≡ one_if (p e)
one_counted p e = omega arith

reads-issued : (trace : List Entry) (first m : ℕ) (memory : Option MemoryEntry) → IsIssued trace first m memory
    → count_by is_read (take m (drop first trace)) ≡ one_if (is_read_among memory)
reads-issued trace first m None h = count_none is_read trace first m (λ k l. ap (λ o. count_by is_read (option_to_list o)) (h (first + k) (omega arith) (omega arith)))
reads-issued trace first m (Some e) h =
    count_one is_read trace first e.number m h.is_from h.is_below (λ k l ne. ap (λ o. count_by is_read (option_to_list o)) (plain_others trace first m e h k l ne))
    ∙ ap (λ o. count_by is_read (option_to_list o)) h.is_at ∙ one_counted is_read e.entry

writes-issued : (trace : List Entry) (first m : ℕ) (memory : Option MemoryEntry) → IsIssued trace first m memory
    → count_by is_write (take m (drop first trace)) ≡ one_if (is_write_among memory)
writes-issued trace first m None h = count_none is_write trace first m (λ k l. ap (λ o. count_by is_write (option_to_list o)) (h (first + k) (omega arith) (omega arith)))
writes-issued trace first m (Some e) h =
    count_one is_write trace first e.number m h.is_from h.is_below (λ k l ne. ap (λ o. count_by is_write (option_to_list o)) (plain_others trace first m e h k l ne))
    ∙ ap (λ o. count_by is_write (option_to_list o)) h.is_at ∙ one_counted is_write e.entry

-- a reply of the cycle or of one before it followed its entry
pub follows-read : (steps : List CoreStep) (core_step : CoreStep) (mail : List Message) → Each (λ m. m.arrival ≤ length steps) mail → Each (FollowsItsEntry steps) mail → RepliesFollowReads (steps ++ core_step ∷ []) mail
follows-read steps core_step [] a h = tt
follows-read steps core_step (m ∷ mail) a h = (by (replied_entry m.payload) h.0, follows-read steps core_step mail a.1 h.1)
  where
    by : (o : Option ℕ) → IfSome o (λ entry. entry < issued_before (take m.arrival steps))
        → IfSome o (λ entry. m.arrival < length (steps ++ core_step ∷ []) → entry < issued_before (take m.arrival (steps ++ core_step ∷ [])))
    by None k = tt
    by (Some entry) k = λ l. subst (λ n. entry < n) (sym (ap issued_before (take-push steps core_step m.arrival a.0))) k

follows-entry : (steps : List CoreStep) (core_step : CoreStep) (mail : List Message) → Each (λ m. m.arrival ≤ length steps) mail → Each (FollowsItsEntry steps) mail → Each (FollowsItsEntry (steps ++ core_step ∷ [])) mail
follows-entry steps core_step [] a h = tt
follows-entry steps core_step (m ∷ mail) a h = (by (replied_entry m.payload) h.0, follows-entry steps core_step mail a.1 h.1)
  where
    by : (o : Option ℕ) → IfSome o (λ entry. entry < issued_before (take m.arrival steps)) → IfSome o (λ entry. entry < issued_before (take m.arrival (steps ++ core_step ∷ [])))
    by None k = tt
    by (Some entry) k = subst (λ n. entry < n) (sym (ap issued_before (take-push steps core_step m.arrival a.0))) k

arrived_counts : (steps : List CoreStep) (mail : List Message) (trace : List Entry) (core_step : CoreStep) (why : Stop) (memory : Option MemoryEntry)
    → count_by is_read (issued_in trace steps core_step) ≡ one_if (is_read_among memory)
    → count_by is_write (issued_in trace steps core_step) ≡ one_if (is_write_among memory)
    → core_joined (core_arrived steps mail) (cycle_counts core_step why memory (retired_before steps) (length trace) (length steps)) ≡ core_cycle_with trace steps core_step why (replies_in (length steps) mail)
unfolding core_cycle_with finish_in
arrived_counts steps mail trace core_step why memory r w =
    let n = option_or-none (cond (ltb (retired_before steps) (length trace) && leb (length trace) (retired_before steps + core_step.retired)) (Some (length steps)) None) in
    simp (zero-add, add-zero, r, w, n)

-- the statistics with this cycle
pub stats-push : (s : Config) (core : ℕ) (trace : List Entry) (steps : List CoreStep) (mail : List Message) (core_step : CoreStep) (why : Stop) (memory : Option MemoryEntry)
    → IsPast s core trace steps mail → IsWork s core trace steps mail core_step why memory
    → core_joined (core_joined (core_stats s core trace steps mail) (core_arrived steps mail)) (cycle_counts core_step why memory (retired_before steps) (length trace) (length steps))
    ≡ core_stats s core trace (steps ++ core_step ∷ []) mail
unfolding core_cycle
stats-push s core trace steps mail core_step why memory past cycle_work =
    core_joined-assoc (core_stats s core trace steps mail) (core_arrived steps mail) (cycle_counts core_step why memory (retired_before steps) (length trace) (length steps))
    ∙ ap (core_joined (core_stats s core trace steps mail))
    (arrived_counts steps mail trace core_step why memory (reads-issued trace (issued_before steps) core_step.issued memory cycle_work.issues) (writes-issued trace (issued_before steps) core_step.issued memory cycle_work.issues)
    ∙ ap (λ w. core_cycle_with trace steps core_step w (replies_in (length steps) mail)) (sym (ap (λ t. t.1) cycle_work.does)))
    ∙ sym (core_stats-push s core trace steps core_step mail (follows-read steps core_step mail past.arrived past.follows))

-- all of the mail came before a cycle
pub held-all : (s : Config) (core : ℕ) (mail sent : List Message) (channel : ℕ) (access : Access) (until : ℕ) → Each (λ m. m.arrival < until) mail
    → held s core mail sent channel access until ≡ credits_had s core mail channel access - count_by (λ m. is_request_for channel access m.payload) sent
unfolding held
held-all s core mail sent channel access until h =
    ap (λ n. credit_cap s access + n - count_by (λ (m : Message). is_request_for channel access m.payload) sent) (same mail h)
  where
    link : ℕ
    link = credit_link s core channel

    and_true : (b : Bool) → (b && true) ≡ b
    and_true true = refl
    and_true false = refl

    same : (ms : List Message) → Each (λ m. m.arrival < until) ms → count_by (is_credit_on link access until) ms ≡ count_by (is_credit_from link access) ms
    same [] k = refl
    same (m ∷ ms) k =
        sum_by-cons (λ (x : Message). one_if (is_credit_on link access until x)) m ms
        ∙ ap₂ (λ b n. one_if (eqb m.link link && is_credit access m.payload && b) + n) (lt-ltb m.arrival until k.0) (same ms k.1)
        ∙ ap (λ b. one_if b + count_by (is_credit_from link access) ms) (and_true (eqb m.link link && is_credit access m.payload))
        ∙ sym (sum_by-cons (λ (x : Message). one_if (is_credit_from link access x)) m ms)

-- all of the mail counts
pub held-now : (s : Config) (core : ℕ) (mail sent : List Message) (channel : ℕ) (access : Access) (now : ℕ) → Each (λ m. m.arrival ≤ now) mail
    → held s core mail sent channel access (now + 1) ≡ credits_had s core mail channel access - count_by (λ m. is_request_for channel access m.payload) sent
held-now s core mail sent channel access now h =
    held-all s core mail sent channel access (now + 1) (Each-weaker (λ (m : Message). m.arrival ≤ now) (λ m. m.arrival < now + 1) (λ m k. omega arith) mail h)

-- a memory entry issues only with a credit
paid-entry : (s : Config) (core : ℕ) (trace : List Entry) (steps : List CoreStep) (mail : List Message) (channel : ℕ) (kind : Access) (entry : Entry)
    → Each (λ m. m.arrival ≤ length steps) mail → credits_spent s core trace steps channel kind ≤ credits_had s core mail channel kind
    → lacks_credit s core mail (core_messages s core trace steps) (length steps) (Some entry) ≡ false
    → credits_spent s core trace steps channel kind + one_if (is_spending_entry s channel kind entry) ≤ credits_had s core mail channel kind
unfolding lacks_credit
paid-entry s core trace steps mail channel kind Plain a h l = omega arith
paid-entry s core trace steps mail channel kind (Read address) a h l = by (eqb (place_of s address).channel channel) kind refl refl
  where
    by : (b : Bool) (w : Access) → eqb (place_of s address).channel channel ≡ b → kind ≡ w
        → credits_spent s core trace steps channel kind + one_if (b && is_access w access.Read) ≤ credits_had s core mail channel kind
    by true access.Write e f = omega arith
    by false w e f = omega arith
    by true access.Read e f =
        let same : (place_of s address).channel ≡ channel = eqb-true _ _ e in
        let some : held s core mail (core_messages s core trace steps) (place_of s address).channel access.Read (length steps + 1) ≡ 0 → ⊥ = eqb-false _ _ l in
        let k : held s core mail (core_messages s core trace steps) channel kind (length steps + 1) ≡ held s core mail (core_messages s core trace steps) (place_of s address).channel access.Read (length steps + 1) =
        ap₂ (λ c w. held s core mail (core_messages s core trace steps) c w (length steps + 1)) (sym same) f in
        let n = held-now s core mail (core_messages s core trace steps) channel kind (length steps) a in
        omega arith
paid-entry s core trace steps mail channel kind (Write address) a h l = by (eqb (place_of s address).channel channel) kind refl refl
  where
    by : (b : Bool) (w : Access) → eqb (place_of s address).channel channel ≡ b → kind ≡ w
        → credits_spent s core trace steps channel kind + one_if (b && is_access w access.Write) ≤ credits_had s core mail channel kind
    by true access.Read e f = omega arith
    by false w e f = omega arith
    by true access.Write e f =
        let same : (place_of s address).channel ≡ channel = eqb-true _ _ e in
        let some : held s core mail (core_messages s core trace steps) (place_of s address).channel access.Write (length steps + 1) ≡ 0 → ⊥ = eqb-false _ _ l in
        let k : held s core mail (core_messages s core trace steps) channel kind (length steps + 1) ≡ held s core mail (core_messages s core trace steps) (place_of s address).channel access.Write (length steps + 1) =
        ap₂ (λ c w. held s core mail (core_messages s core trace steps) c w (length steps + 1)) (sym same) f in
        let n = held-now s core mail (core_messages s core trace steps) channel kind (length steps) a in
        omega arith

-- an entry that retires is done
retired_done : (s : Config) (trace : List Entry) (steps : List CoreStep) (mail : List Message) → Each (λ m. m.arrival ≤ length steps) mail
    → (entry : ℕ) → retired_before steps ≤ entry → entry < retired_before steps + retires s trace steps mail → is_read_at trace entry ≡ true → is_answered mail entry ≡ true
unfolding retires done_from is_done
retired_done s trace steps mail arrived entry l b read =
    let first = retired_before steps in
    let n = min s.width (issued_before steps - first) in
    let p = is_done trace mail (length steps) in
    let k = entry - first in
    let len = length-prefix_len p (range_with_len first n) in
    let most : prefix_len p (range_with_len first n) ≤ n = omega (arith, prefix_len-le-length p (range_with_len first n), length-range_with_len first n) in
    let here : first + k ≡ entry = omega arith in
    let at : get_or (range_with_len first n) k 0 ≡ entry = get_or-range_with_len first n k 0 (omega arith) ∙ here in
    let passes : p (get_or (range_with_len first n) k 0) ≡ true = prefix_len_passes p (range_with_len first n) k 0 (omega arith) in
    sym (replied-answered mail (length steps) entry arrived) ∙ by (slice_get trace entry) read (ap p (sym at) ∙ passes)
  where
    by : (o : Option Entry) → is_read_in o ≡ true → is_done_as mail (length steps) entry o ≡ true → is_replied mail (length steps) entry ≡ true
    by (Some (Read a)) r h = h
    by (Some (Write a)) r h = absurd (false≢true r)
    by (Some Plain) r h = absurd (false≢true r)
    by None r h = absurd (false≢true r)

reads_few : (memory : Option MemoryEntry) (now : ℕ) (trace : List Entry) (first m : ℕ) → IsIssued trace first m memory → length (reads_issued memory now) ≤ m
reads_few None now trace first m h = omega arith
reads_few (Some e) now trace first m h = by (is_read e.entry)
  where
    by : (b : Bool) → length (cond {A = List OutstandingRead} b (record { entry = e.number; issued = now } ∷ []) []) ≤ m
    by true = omega (arith, h.is_from, h.is_below)
    by false = omega arith

retired-step : (s : Config) (core : ℕ) (trace : List Entry) (steps : List CoreStep) (mail : List Message) (core_step : CoreStep) (why : Stop)
    → step s core trace steps mail ≡ (core_step, why) → retires s trace steps mail ≡ core_step.retired
unfolding step
retired-step s core trace steps mail core_step why h = ap (λ t. t.0.retired) h

past-push : (s : Config) (core : ℕ) (trace : List Entry) (steps : List CoreStep) (mail : List Message) (core_step : CoreStep) (why : Stop) (memory : Option MemoryEntry)
    → IsPast s core trace steps mail → IsWork s core trace steps mail core_step why memory → IsPast s core trace (steps ++ core_step ∷ []) mail
past-push s core trace steps mail core_step why memory past cycle_work =
    let i = issued_before-push steps core_step in
    let r = retired_before-push steps core_step in
    let row_is : (step s core trace steps mail).0 ≡ core_step = ap (λ t. t.0) cycle_work.does in
    let within : issued_before steps + core_step.issued ≤ length trace = subst (λ (x : CoreStep). issued_before steps + x.issued ≤ length trace) row_is (issues-le s core trace steps mail past.issued) in
    let most : core_step.retired ≤ issued_before steps - retired_before steps = omega (arith, retired_is, retires-le s trace steps mail) in
    record {
      fits = past.fits;
      issued = omega arith;
      retired = omega (arith, past.retired);
      window = omega (arith, cycle_work.window);
      arrived = Each-weaker (λ (m : Message). m.arrival ≤ length steps) (λ m. m.arrival ≤ length (steps ++ core_step ∷ [])) (λ m h. omega (arith, length-push_suc steps core_step)) mail past.arrived;
      follows = follows-entry steps core_step mail past.arrived past.follows;
      done = λ entry b read. ⊎_elim (λ l. past.done entry l read) (λ g. retired_done s trace steps mail past.arrived entry g (omega (arith, retired_is)) read) (cases_lt entry (retired_before steps));
      answered = omega (arith, past.answered, ap length (outstanding_reads-push trace steps core_step mail memory past.follows cycle_work.issues), length-append (outstanding_reads trace steps mail) (reads_issued memory (length steps)), reads_few memory (length steps) trace (issued_before steps) core_step.issued cycle_work.issues);
      paid = λ channel access. subst (λ n. n ≤ credits_had s core mail channel access) (sym (spent-push s core trace steps core_step memory cycle_work.issues channel access)) (paid memory cycle_work.credit channel access);
    }
  where
    retired_is : retires s trace steps mail ≡ core_step.retired
    retired_is = retired-step s core trace steps mail core_step why cycle_work.does

    paid : (o : Option MemoryEntry) → IfSome o (λ e. lacks_credit s core mail (core_messages s core trace steps) (length steps) (Some e.entry) ≡ false) → (channel : ℕ) (access : Access)
        → credits_spent s core trace steps channel access + one_if (is_spending s channel access o) ≤ credits_had s core mail channel access
    paid None h channel access = omega (arith, past.paid channel access)
    paid (Some e) h channel access = paid-entry s core trace steps mail channel access e.entry past.arrived (past.paid channel access) h

-- no message of the next cycle came yet
none_arrived : (steps : List CoreStep) (core_step : CoreStep) (mail : List Message) → Each (λ m. m.arrival ≤ length steps) mail → replies_in (length (steps ++ core_step ∷ [])) mail ≡ []
unfolding replies_in
none_arrived steps core_step [] h = refl
none_arrived steps core_step (m ∷ mail) h =
    ap (λ b. cond (is_reply m && b) (m ∷ filter (is_reply_in (length (steps ++ core_step ∷ []))) mail) (filter (is_reply_in (length (steps ++ core_step ∷ []))) mail))
    (ne_eqb m.arrival (length (steps ++ core_step ∷ [])) (λ e. omega (arith, length-push_suc steps core_step, h.0)))
    ∙ ap (λ b. cond b (m ∷ filter (is_reply_in (length (steps ++ core_step ∷ []))) mail) (filter (is_reply_in (length (steps ++ core_step ∷ []))) mail)) (and_false (is_reply m))
    ∙ none_arrived steps core_step mail h.1
  where
    and_false : (b : Bool) → (b && false) ≡ false
    and_false true = refl
    and_false false = refl

pub with_none_arrived : (a : CoreStats) (steps : List CoreStep) (mail : List Message) → replies_in (length steps) mail ≡ [] → core_joined a (core_arrived steps mail) ≡ a
unfolding waited
with_none_arrived a steps mail h = rw h (simp add-zero)

-- what a core does in a cycle, from one state to another
pub record IsStep (a b : CoreView) (core_step : CoreStep) (why : Stop) (memory : Option MemoryEntry) : Type 0 where
  pub config : b.config ≡ a.config
  pub number : b.core ≡ a.core
  pub entries : b.trace ≡ a.trace
  pub now : b.now ≡ a.now + 1
  pub outstanding : b.outstanding ≡ a.outstanding ++ reads_issued memory a.now
  pub channels : length b.credits ≡ length a.credits
  pub credits : (channel : ℕ) (c : Credits) → slice_get a.credits channel ≡ Some c → slice_get b.credits channel ≡ Some (credit_after a.config channel memory c)
  pub stats : b.stats ≡ core_joined a.stats (cycle_counts core_step why memory a.stats.retired (length a.trace) a.now)

pub retired_of : (s : Config) (core : ℕ) (trace : List Entry) (steps : List CoreStep) (mail : List Message) (a : CoreView) → StandsAt s core trace steps mail a → a.stats.retired ≡ retired_before steps
unfolding core_stats
retired_of s core trace steps mail a h = ap (λ (x : CoreStats). x.retired) h.stats ∙ add-zero (retired_before steps)

pub step-stands : (s : Config) (core : ℕ) (trace : List Entry) (steps : List CoreStep) (mail : List Message) (a b : CoreView) (core_step : CoreStep) (why : Stop) (memory : Option MemoryEntry)
    → StandsAt s core trace steps mail a → IsWork s core trace steps mail core_step why memory → IsStep a b core_step why memory → StandsAt s core trace (steps ++ core_step ∷ []) mail b
step-stands s core trace steps mail a b core_step why memory h cycle_work i =
    record {
      config = i.config ∙ h.config;
      number = i.number ∙ h.number;
      entries = i.entries ∙ h.entries;
      now = omega (arith, i.now, h.now, length-push_suc steps core_step);
      outstanding = i.outstanding ∙ ap₂ (λ x n. x ++ reads_issued memory n) h.outstanding h.now ∙ sym (outstanding_reads-push trace steps core_step mail memory h.past.follows cycle_work.issues);
      channels = i.channels ∙ h.channels;
      credits = λ channel l. i.credits channel _ (h.credits channel l)
          ∙ ap (λ (x : Config). Some (credit_after x channel memory (credits_now s core trace steps mail channel))) h.config
          ∙ ap Some (sym (credits-push s core trace steps core_step mail memory cycle_work.issues channel));
      stats = i.stats ∙ ap (λ x. core_joined x (cycle_counts core_step why memory a.stats.retired (length a.trace) a.now)) h.stats
          ∙ counts
          ∙ stats-push s core trace steps mail core_step why memory h.past cycle_work
          ∙ sym (with_none_arrived (core_stats s core trace (steps ++ core_step ∷ []) mail) (steps ++ core_step ∷ []) mail (none_arrived steps core_step mail h.past.arrived));
      past = past-push s core trace steps mail core_step why memory h.past cycle_work;
    }
  where
    counts : core_joined (core_joined (core_stats s core trace steps mail) (core_arrived steps mail)) (cycle_counts core_step why memory a.stats.retired (length a.trace) a.now)
        ≡ core_joined (core_joined (core_stats s core trace steps mail) (core_arrived steps mail)) (cycle_counts core_step why memory (retired_before steps) (length trace) (length steps))
    counts =
        let count : ℕ → ℕ → ℕ → CoreStats = λ x y z. core_joined (core_joined (core_stats s core trace steps mail) (core_arrived steps mail)) (cycle_counts core_step why memory x y z) in
        ap (λ x. count x (length a.trace) a.now) (retired_of s core trace steps mail a h)
        ∙ ap (λ (t : List Entry). count (retired_before steps) (length t) a.now) h.entries
        ∙ ap (λ n. count (retired_before steps) (length trace) n) h.now

-- the statistics with this cycle fit
pub replies-le : (n : ℕ) (mail : List Message) → length (filter (is_reply_before n) mail) ≤ length (filter is_reply mail)
replies-le n [] = omega arith
replies-le n (m ∷ mail) = by (replies-le n mail) (is_reply m) (ltb m.arrival n)
  where
    few : List Message
    few = filter (is_reply_before n) mail

    all : List Message
    all = filter is_reply mail

    by : length few ≤ length all → (a b : Bool) → length (cond (a && b) (m ∷ few) few) ≤ length (cond a (m ∷ all) all)
    by h true true = omega arith
    by h true false = omega arith
    by h false b = h

pub past-fits : (s : Config) (core : ℕ) (trace : List Entry) (steps : List CoreStep) (mail : List Message) → IsPast s core trace steps mail → length trace ≤ 2 ^ 62 → length steps ≤ 2 ^ 62
    → CoreFits (core_stats s core trace steps mail)
unfolding replies
past-fits s core trace steps mail past l n =
    core_stats-fit s core trace steps mail n (omega (arith, past.issued)) (omega (arith, past.issued, past.retired))
    (omega (arith, past.issued, past.answered, replies-le (length steps) mail))

pub step-fits : (s : Config) (core : ℕ) (trace : List Entry) (steps : List CoreStep) (mail : List Message) (a : CoreView) (core_step : CoreStep) (why : Stop) (memory : Option MemoryEntry)
    → StandsAt s core trace steps mail a → IsWork s core trace steps mail core_step why memory → length a.trace ≤ 2 ^ 62 → a.now < 2 ^ 62
    → CoreFits (core_joined a.stats (cycle_counts core_step why memory a.stats.retired (length a.trace) a.now))
step-fits s core trace steps mail a core_step why memory h cycle_work l n =
    let count : ℕ → ℕ → ℕ → CoreStats = λ x y z. core_joined (core_joined (core_stats s core trace steps mail) (core_arrived steps mail)) (cycle_counts core_step why memory x y z) in
    let e : core_joined a.stats (cycle_counts core_step why memory a.stats.retired (length a.trace) a.now) ≡ core_stats s core trace (steps ++ core_step ∷ []) mail =
    ap (λ x. core_joined x (cycle_counts core_step why memory a.stats.retired (length a.trace) a.now)) h.stats
    ∙ ap (λ x. count x (length a.trace) a.now) (retired_of s core trace steps mail a h)
    ∙ ap (λ (t : List Entry). count (retired_before steps) (length t) a.now) h.entries
    ∙ ap (λ n. count (retired_before steps) (length trace) n) h.now
    ∙ stats-push s core trace steps mail core_step why memory h.past cycle_work in
    let same : length a.trace ≡ length trace = ap length h.entries in
    subst CoreFits (sym e)
    (past-fits s core trace (steps ++ core_step ∷ []) mail (past-push s core trace steps mail core_step why memory h.past cycle_work) (omega arith) (omega (arith, length-push_suc steps core_step, h.now)))

-- a cycle of a core, and what it sends in it
step-sends : (a b : CoreView) (core_step : CoreStep) (why : Stop) (memory : Option MemoryEntry)
    → ((s : Config) (core : ℕ) (trace : List Entry) (steps : List CoreStep) (mail : List Message) → StandsAt s core trace steps mail a → IsWork s core trace steps mail core_step why memory)
    → IsStep a b core_step why memory → Sends 1 a b (requests_issued a.config a.core a.now memory)
unfolding core_run
step-sends a b core_step why memory cycle_work i s core trace steps mail h =
    let t : IsWork s core trace steps mail core_step why memory = cycle_work s core trace steps mail h in
    let one : steps ++ (step s core trace steps mail).0 ∷ [] ≡ steps ++ core_step ∷ [] = ap (λ (x : CoreStep × Stop). steps ++ x.0 ∷ []) t.does in
    let request : Config → ℕ → ℕ → List Message = λ x c n. requests_issued x c n memory in (
      subst (λ r. StandsAt s core trace r mail b) (sym one) (step-stands s core trace steps mail a b core_step why memory h t i),
      ap (core_messages s core trace) one
          ∙ messages-push s core trace steps core_step memory t.issues
          ∙ ap (λ x. core_messages s core trace steps ++ x) (sym (ap (λ x. request x a.core a.now) h.config ∙ ap (λ c. request s c a.now) h.number ∙ ap (request s core) h.now)),
    )

-- a cycle of a core, when what it sends in it is put behind what a list held
pub step-advances : (a b : CoreView) (core_step : CoreStep) (why : Stop) (memory : Option MemoryEntry) (before after : List Message)
    → ((s : Config) (core : ℕ) (trace : List Entry) (steps : List CoreStep) (mail : List Message) → StandsAt s core trace steps mail a → IsWork s core trace steps mail core_step why memory)
    → IsStep a b core_step why memory → after ≡ before ++ requests_issued a.config a.core a.now memory → Advances 1 a before b after
step-advances a b core_step why memory before after cycle_work i e = record { sent = requests_issued a.config a.core a.now memory; behind = e; sends = step-sends a b core_step why memory cycle_work i }
