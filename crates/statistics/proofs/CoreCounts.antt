-- The counts of a core: what one cycle more adds to each, that only the messages that arrived by then change them, and
-- that each fits the bits of its number.
use Rattle.std.proofs.Common.{◌≡◌, ℕ, zero, suc, ◌+◌, ◌-◌, ◌<◌, ◌≤◌, Bool, true, false, cond, eqb, ltb, leb, ◌&&◌, List, [], ◌∷◌, ◌++◌, length, map, take, Option, Some, None, refl, sym, ap, ap₂, ◌∙◌, ⊎_elim, add-one, zero-add, arith, ◌*◌, ◌^◌}
use Rattle.std.specs.Prelude.{count_by, sum_by, find, filter}
use Rattle.std.specs.List.{prefix_len, range_with_len}
use Rattle.std.specs.Option.{IfSome, option_or}
use Rattle.std.proofs.Math.Seq.{take-add, take-append_seam, take-length}
use Rattle.std.proofs.lemmas.Bool.{cond_both, ltb-true, lt-ltb, le-ltb, le-leb, lt-leb, eqb-true, eqb-false, and_parts, cases_lt, false≢true, and_right, ne_eqb}
use Rattle.std.proofs.lemmas.Bool.Decides.{nat_tests}
use Rattle.std.proofs.lemmas.List.{length_push, length-take-le, length-map, length-take}
use Rattle.std.proofs.lemmas.List.Folds.{length-prefix_len}
use Rattle.std.proofs.lemmas.List.Sums.{sum_by-append, sum_by-cons, sum_by_push, sum_by-take-le, prefix_len_passes, prefix_len-le-length, count_by-le-length}
use Rattle.std.proofs.lemmas.List.FromFn.{length-range_with_len, get_or-range_with_len}
use Rattle.sim_base.specs.declared.config.Config.{Config}
use Rattle.sim_base.specs.Counts.{is_read, is_write, reads, writes, replied_entry, is_reply, is_reply_before, replies, is_unissued_after, issue_cycle, wait_of, read_latency, stop_in, stops, is_stop, stopped_by, has_retired_after, retire_cycle, finish, one_if}
use Rattle.sim_base.proofs.Below.{below_more}
use Rattle.sim_base.specs.History.{below, retired_before, issued_before, inbox}
use Rattle.sim_base.specs.Windows.{step}
use Rattle.sim_base.specs.declared.history.CoreStep.{CoreStep}
use Rattle.sim_base.specs.declared.message.Message.{Message}
use Rattle.sim_base.specs.declared.trace.Entry.{Entry}
use Rattle.sim_base.specs.declared.trace.Stop.{Stop}
use Rattle.sim_base.proofs.Added.{length-push_suc}
use Rattle.sim_base.proofs.Grows.{issued_before-push}
use Rattle.statistics.specs.Cores.{issued_in, is_reply_in, replies_in, waited, finish_in, core_stats, core_cycle_with, core_cycle, core_joined, RepliesFollowReads, CoreFits, core_none, core_counters, core_numbers, core_of}
use Rattle.statistics.proofs.Lists.{take-push, map_below_more, map_below_same, find_below_more, find_below_same, option_or-none, prefix_len-append_stop}
use Rattle.sim_base.proofs.Arrived.{arrived, NotBefore, filter-arrived}
use Rattle.sim_base.proofs.Same.{step-same}
use Rattle.sim_base.proofs.Kept.{arrived-added}
use Rattle.statistics.proofs.Messages.{arrived-sooner}
use Rattle.std.proofs.lemmas.Nat.{mul-le}
use Rattle.sim_base.specs.declared.trace.Stop.TheVariants as stop
use Rattle.statistics.specs.Counters.{AreNumbersOf}
use Rattle.statistics.specs.declared.cores.CoreStats.{CoreStats}
use Rattle.statistics.proofs.NumbersOf.{numbers-are}

pub retired_before-push : (steps : List CoreStep) (core_step : CoreStep) → retired_before (steps ++ core_step ∷ []) ≡ retired_before steps + core_step.retired
unfolding retired_before
retired_before-push steps core_step = sum_by_push (λ (r : CoreStep). r.retired) steps core_step

pub issued_before-take-le : (steps : List CoreStep) (n : ℕ) → issued_before (take n steps) ≤ issued_before steps
unfolding issued_before
issued_before-take-le steps n = sum_by-take-le (λ (r : CoreStep). r.issued) steps n

pub retired_before-take-le : (steps : List CoreStep) (n : ℕ) → retired_before (take n steps) ≤ retired_before steps
unfolding retired_before
retired_before-take-le steps n = sum_by-take-le (λ (r : CoreStep). r.retired) steps n

count-issued : (p : Entry → Bool) (trace : List Entry) (steps : List CoreStep) (core_step : CoreStep)
    → count_by p (take (issued_before (steps ++ core_step ∷ [])) trace) ≡ count_by p (take (issued_before steps) trace) + count_by p (issued_in trace steps core_step)
count-issued p trace steps core_step =
    ap (λ n. count_by p (take n trace)) (issued_before-push steps core_step)
    ∙ ap (count_by p) (take-add (issued_before steps) core_step.issued trace)
    ∙ sum_by-append (λ e. one_if (p e)) (take (issued_before steps) trace) (issued_in trace steps core_step)

pub reads-push : (trace : List Entry) (steps : List CoreStep) (core_step : CoreStep)
    → reads trace (steps ++ core_step ∷ []) ≡ reads trace steps + count_by is_read (issued_in trace steps core_step)
unfolding reads
reads-push trace steps core_step = count-issued is_read trace steps core_step

pub writes-push : (trace : List Entry) (steps : List CoreStep) (core_step : CoreStep)
    → writes trace (steps ++ core_step ∷ []) ≡ writes trace steps + count_by is_write (issued_in trace steps core_step)
unfolding writes
writes-push trace steps core_step = count-issued is_write trace steps core_step

-- a reply before the next cycle is one before this cycle or one in it
before_next : (n : ℕ) (m : Message) → one_if (is_reply_before (suc n) m) ≡ one_if (is_reply_before n m) + one_if (is_reply_in n m)
before_next n m = by (is_reply m)
  where
    by : (b : Bool) → one_if (b && ltb m.arrival (suc n)) ≡ one_if (b && ltb m.arrival n) + one_if (b && eqb m.arrival n)
    by true = grind (arith, nat_tests)
    by false = refl

sum_by-replies_before : (f : Message → ℕ) (n : ℕ) (ms : List Message)
    → sum_by f (filter (is_reply_before (suc n)) ms) ≡ sum_by f (filter (is_reply_before n) ms) + sum_by f (filter (is_reply_in n) ms)
sum_by-replies_before f n [] = refl
sum_by-replies_before f n (m ∷ ms) = by (is_reply_before (suc n) m) (is_reply_before n m) (is_reply_in n m) (before_next n m) (sum_by-replies_before f n ms)
  where
    then : List Message
    then = filter (is_reply_before (suc n)) ms

    before : List Message
    before = filter (is_reply_before n) ms

    now : List Message
    now = filter (is_reply_in n) ms

    by : (a b c : Bool) → one_if a ≡ one_if b + one_if c → sum_by f then ≡ sum_by f before + sum_by f now
        → sum_by f (cond a (m ∷ then) then) ≡ sum_by f (cond b (m ∷ before) before) + sum_by f (cond c (m ∷ now) now)
    by true true true e rest = absurd (omega arith)
    by true true false e rest = omega (arith, sum_by-cons f m then, sum_by-cons f m before)
    by true false true e rest = omega (arith, sum_by-cons f m then, sum_by-cons f m now)
    by true false false e rest = absurd (omega arith)
    by false true true e rest = absurd (omega arith)
    by false true false e rest = absurd (omega arith)
    by false false true e rest = absurd (omega arith)
    by false false false e rest = rest

length-sum_by : {X : Type 0} (xs : List X) → length xs ≡ sum_by (λ x. 1) xs
length-sum_by [] = refl
length-sum_by (x ∷ xs) = omega (arith, length-sum_by xs, sum_by-cons (λ x. 1) x xs)

pub replies-push : (steps : List CoreStep) (core_step : CoreStep) (inbox : List Message)
    → length (replies (steps ++ core_step ∷ []) inbox) ≡ length (replies steps inbox) + length (replies_in (length steps) inbox)
unfolding replies replies_in
replies-push steps core_step inbox =
    ap (λ n. length (filter (is_reply_before n) inbox)) (length-push_suc steps core_step)
    ∙ length-sum_by (filter (is_reply_before (suc (length steps))) inbox)
    ∙ sum_by-replies_before (λ m. 1) (length steps) inbox
    ∙ ap₂ (λ a b. a + b) (sym (length-sum_by (filter (is_reply_before (length steps)) inbox))) (sym (length-sum_by (filter (is_reply_in (length steps)) inbox)))

pub issue_cycle-prefix_len : (steps : List CoreStep) (entry : ℕ) → issue_cycle steps entry ≡ prefix_len (is_unissued_after steps entry) (below (length steps))
unfolding issue_cycle
issue_cycle-prefix_len steps entry = length-prefix_len (is_unissued_after steps entry) (below (length steps))

prefix_below_same : (p q : ℕ → Bool) (n : ℕ) → ((k : ℕ) → k < n → p k ≡ q k) → (m a : ℕ) → a + m ≡ n → prefix_len p (range_with_len a m) ≡ prefix_len q (range_with_len a m)
prefix_below_same p q n h zero a e = refl
prefix_below_same p q n h (suc m) a e =
    ap₂ (λ b k. cond b (1 + k) 0) (h a (omega arith)) (prefix_below_same p q n h m (a + 1) (omega arith))

-- an entry that was issued within the steps is found there
issued_within : (steps : List CoreStep) (entry : ℕ) → entry < issued_before steps → prefix_len (is_unissued_after steps entry) (below (length steps)) < length (below (length steps))
unfolding is_unissued_after issued_before
issued_within [] entry h = absurd (omega arith)
issued_within (row ∷ rest) entry h =
    let steps = row ∷ rest in
    let p = is_unissued_after steps entry in
    let n = length rest in
    let len : length (below (suc n)) ≡ suc n = length-range_with_len 0 (suc n) in
    let most : prefix_len p (below (suc n)) ≤ length (below (suc n)) = prefix_len-le-length p (below (suc n)) in
    let all : take (n + 1) steps ≡ steps = ap (λ k. take k steps) (add-one n) ∙ take-length steps in
    let last : p n ≡ false = ap (λ x. leb (issued_before x) entry) all ∙ lt-leb (issued_before steps) entry h in
    ⊎_elim (λ l. l)
    (λ g. absurd (false≢true (sym last ∙ sym (ap p (get_or-range_with_len 0 (suc n) n 0 (omega arith) ∙ zero-add n)) ∙ prefix_len_passes p (below (suc n)) n 0 (omega arith))))
    (cases_lt (prefix_len p (below (suc n))) (length (below (suc n))))

pub issue_cycle-push : (steps : List CoreStep) (core_step : CoreStep) (entry : ℕ) → entry < issued_before steps → issue_cycle (steps ++ core_step ∷ []) entry ≡ issue_cycle steps entry
unfolding is_unissued_after
issue_cycle-push steps core_step entry h =
    let p = is_unissued_after steps entry in
    let q = is_unissued_after (steps ++ core_step ∷ []) entry in
    let n = length steps in
    let same : (k : ℕ) → k < n → q k ≡ p k = λ k l. ap (λ x. leb (issued_before x) entry) (take-push steps core_step (k + 1) (omega arith)) in
    let e : prefix_len q (below n) ≡ prefix_len p (below n) = prefix_below_same q p n same n 0 (zero-add n) in
    let within : prefix_len p (below n) < length (below n) = issued_within steps entry h in
    issue_cycle-prefix_len (steps ++ core_step ∷ []) entry
    ∙ ap (λ k. prefix_len q (below k)) (length-push_suc steps core_step)
    ∙ ap (prefix_len q) (below_more n)
    ∙ prefix_len-append_stop q (below n) (n ∷ []) (omega arith)
    ∙ e
    ∙ sym (issue_cycle-prefix_len steps entry)

-- a test that all numbers below n pass, and n does not
prefix_below : (p : ℕ → Bool) (n : ℕ) → ((k : ℕ) → k < n → p k ≡ true) → p n ≡ false → (m a : ℕ) → a + m ≡ n → prefix_len p (range_with_len a (suc m)) ≡ m
prefix_below p n pass stop zero a e =
    let here : a ≡ n = omega (arith, e) in
    ap (λ b. cond b (1 + 0) 0) (ap p here ∙ stop)
prefix_below p n pass stop (suc m) a e =
    let more : 1 + m ≡ suc m = omega arith in
    ap₂ (λ b k. cond b (1 + k) 0) (pass a (omega (arith, e))) (prefix_below p n pass stop m (a + 1) (omega (arith, e))) ∙ more

-- an entry that is issued in a cycle, and not before
pub issue_cycle-last : (steps : List CoreStep) (core_step : CoreStep) (entry : ℕ) → issued_before steps ≤ entry → entry < issued_before (steps ++ core_step ∷ [])
    → issue_cycle (steps ++ core_step ∷ []) entry ≡ length steps
unfolding is_unissued_after
issue_cycle-last steps core_step entry from until =
    let all = steps ++ core_step ∷ [] in
    let n = length steps in
    let p = is_unissued_after all entry in
    let long : length all ≡ suc n = length-push_suc steps core_step in
    let pass : (k : ℕ) → k < n → p k ≡ true = λ k l.
    ap (λ x. leb (issued_before x) entry) (take-push steps core_step (k + 1) (omega (arith, l))) ∙ le-leb _ _ (omega (arith, from, issued_before-take-le steps (k + 1))) in
    let whole : take (n + 1) all ≡ all = ap (λ k. take k all) (add-one n ∙ sym long) ∙ take-length all in
    let stop : p n ≡ false = ap (λ x. leb (issued_before x) entry) whole ∙ lt-leb _ _ until in
    issue_cycle-prefix_len all entry
    ∙ ap (λ k. prefix_len p (below k)) long
    ∙ prefix_below p n pass stop n 0 (zero-add n)

wait-push : (steps : List CoreStep) (core_step : CoreStep) (arrival : ℕ) → arrival < suc (length steps) → (o : Option ℕ)
    → IfSome o (λ entry. arrival < length (steps ++ core_step ∷ []) → entry < issued_before (take arrival (steps ++ core_step ∷ [])))
    → wait_of (steps ++ core_step ∷ []) arrival o ≡ wait_of steps arrival o
wait-push steps core_step arrival l None h = refl
wait-push steps core_step arrival l (Some entry) h =
    let len : length (steps ++ core_step ∷ []) ≡ suc (length steps) = length-push_suc steps core_step in
    let issued : entry < issued_before (take arrival (steps ++ core_step ∷ [])) = h (omega arith) in
    let e : issued_before (take arrival (steps ++ core_step ∷ [])) ≡ issued_before (take arrival steps) = ap issued_before (take-push steps core_step arrival (omega arith)) in
    ap (λ n. arrival - n) (issue_cycle-push steps core_step entry (omega (arith, issued_before-take-le steps arrival)))

waited-push : (steps : List CoreStep) (core_step : CoreStep) (ms : List Message) → RepliesFollowReads (steps ++ core_step ∷ []) ms
    → waited (steps ++ core_step ∷ []) (filter (is_reply_before (suc (length steps))) ms) ≡ waited steps (filter (is_reply_before (suc (length steps))) ms)
unfolding waited
waited-push steps core_step [] h = refl
waited-push steps core_step (m ∷ ms) h =
    let after = λ (x : Message). wait_of (steps ++ core_step ∷ []) x.arrival (replied_entry x.payload) in
    let before = λ (x : Message). wait_of steps x.arrival (replied_entry x.payload) in
    let early = is_reply_before (suc (length steps)) in
    cond_both (early m) (m ∷ filter early ms) (filter early ms) (λ x. sum_by after x ≡ sum_by before x)
    (λ e. sum_by-cons after m (filter early ms)
    ∙ ap₂ (λ a b. a + b) (wait-push steps core_step m.arrival (ltb-true _ _ (and_parts _ _ e).1) (replied_entry m.payload) h.0) (waited-push steps core_step ms h.1)
    ∙ sym (sum_by-cons before m (filter early ms)))
    (λ e. waited-push steps core_step ms h.1)

read_latency-waited : (steps : List CoreStep) (inbox : List Message) → read_latency steps inbox ≡ waited steps (filter (is_reply_before (length steps)) inbox)
unfolding read_latency replies waited
read_latency-waited steps inbox = refl

waited-replies_before : (steps : List CoreStep) (n : ℕ) (ms : List Message)
    → waited steps (filter (is_reply_before (suc n)) ms) ≡ waited steps (filter (is_reply_before n) ms) + waited steps (replies_in n ms)
unfolding waited replies_in
waited-replies_before steps n ms = sum_by-replies_before _ n ms

pub read_latency-push : (steps : List CoreStep) (core_step : CoreStep) (inbox : List Message) → RepliesFollowReads (steps ++ core_step ∷ []) inbox
    → read_latency (steps ++ core_step ∷ []) inbox ≡ read_latency steps inbox + waited steps (replies_in (length steps) inbox)
read_latency-push steps core_step inbox h =
    read_latency-waited (steps ++ core_step ∷ []) inbox
    ∙ ap (λ n. waited (steps ++ core_step ∷ []) (filter (is_reply_before n) inbox)) (length-push_suc steps core_step)
    ∙ waited-push steps core_step inbox h
    ∙ waited-replies_before steps (length steps) inbox
    ∙ ap (λ n. n + waited steps (replies_in (length steps) inbox)) (sym (read_latency-waited steps inbox))

pub stops-push : (s : Config) (core : ℕ) (trace : List Entry) (steps : List CoreStep) (core_step : CoreStep) (inbox : List Message)
    → stops s core trace (steps ++ core_step ∷ []) inbox ≡ stops s core trace steps inbox ++ (step s core trace steps inbox).1 ∷ []
unfolding stops stop_in
stops-push s core trace steps core_step inbox =
    let after = stop_in s core trace (steps ++ core_step ∷ []) inbox in
    ap (λ n. map after (below n)) (length-push_suc steps core_step)
    ∙ map_below_more after (length steps)
    ∙ ap₂ (λ xs x. xs ++ (step s core trace x inbox).1 ∷ [])
    (map_below_same after (stop_in s core trace steps inbox) (length steps) (λ k l. ap (λ x. (step s core trace x inbox).1) (take-push steps core_step k (omega arith))))
    (take-append_seam steps (core_step ∷ []))

pub stopped_by-push : (s : Config) (core : ℕ) (trace : List Entry) (steps : List CoreStep) (core_step : CoreStep) (inbox : List Message) (why : Stop)
    → stopped_by s core trace (steps ++ core_step ∷ []) inbox why ≡ stopped_by s core trace steps inbox why + one_if (is_stop why (step s core trace steps inbox).1)
unfolding stopped_by
stopped_by-push s core trace steps core_step inbox why =
    ap (count_by (is_stop why)) (stops-push s core trace steps core_step inbox)
    ∙ sum_by_push (λ x. one_if (is_stop why x)) (stops s core trace steps inbox) (step s core trace steps inbox).1

find_below_none : (p : ℕ → Bool) (n : ℕ) → ((k : ℕ) → k < n → p k ≡ false) → find p (below n) ≡ None
find_below_none p zero h = refl
find_below_none p (suc n) h =
    find_below_more p n
    ∙ ap₂ (λ a b. option_or a (cond b (Some n) None)) (find_below_none p n (λ k l. h k (omega arith))) (h n (omega arith))

-- a number below n was found, and what comes after does not matter
find_below_stays : (p : ℕ → Bool) (n : ℕ) → p n ≡ true → (o : Option ℕ) → option_or (find p (below (suc n))) o ≡ find p (below (suc n))
find_below_stays p n h o =
    let e : find p (below (suc n)) ≡ option_or (find p (below n)) (Some n) =
    find_below_more p n ∙ ap (λ b. option_or (find p (below n)) (cond b (Some n) None)) h in
    ap (λ x. option_or x o) e ∙ by (find p (below n)) ∙ sym e
  where
    by : (x : Option ℕ) → option_or (option_or x (Some n)) o ≡ option_or x (Some n)
    by None = refl
    by (Some k) = refl

-- entries that are retired already retire in no later cycle
retire_cycle-stays : (steps : List CoreStep) (entries : ℕ) → 0 < entries → entries ≤ retired_before steps → (o : Option ℕ)
    → option_or (retire_cycle steps entries) o ≡ retire_cycle steps entries
unfolding retire_cycle has_retired_after retired_before
retire_cycle-stays [] entries h l o = absurd (omega arith)
retire_cycle-stays (row ∷ rest) entries h l o =
    let steps = row ∷ rest in
    let all : take (length rest + 1) steps ≡ steps = ap (λ k. take k steps) (add-one (length rest)) ∙ take-length steps in
    find_below_stays (has_retired_after steps entries) (length rest) (ap (λ x. leb entries (retired_before x)) all ∙ le-leb entries (retired_before steps) l) o

retire_cycle-none : (steps : List CoreStep) (entries : ℕ) → retired_before steps < entries → retire_cycle steps entries ≡ None
unfolding retire_cycle has_retired_after
retire_cycle-none steps entries h =
    find_below_none (has_retired_after steps entries) (length steps)
    (λ k l. lt-leb entries (retired_before (take (k + 1) steps)) (omega (arith, retired_before-take-le steps (k + 1))))

retire_cycle-push : (steps : List CoreStep) (core_step : CoreStep) (entries : ℕ)
    → retire_cycle (steps ++ core_step ∷ []) entries ≡ option_or (retire_cycle steps entries) (cond (leb entries (retired_before steps + core_step.retired)) (Some (length steps)) None)
unfolding retire_cycle has_retired_after
retire_cycle-push steps core_step entries =
    let after = has_retired_after (steps ++ core_step ∷ []) entries in
    let n = length steps in
    let all : take (n + 1) (steps ++ core_step ∷ []) ≡ steps ++ core_step ∷ [] =
    ap (λ k. take k (steps ++ core_step ∷ [])) (sym (length_push steps core_step)) ∙ take-length (steps ++ core_step ∷ []) in
    ap (λ k. find after (below k)) (length-push_suc steps core_step)
    ∙ find_below_more after n
    ∙ ap₂ (λ a b. option_or a (cond b (Some n) None))
    (find_below_same after (has_retired_after steps entries) n (λ k l. ap (λ x. leb entries (retired_before x)) (take-push steps core_step (k + 1) (omega arith))))
    (ap (λ x. leb entries (retired_before x)) all ∙ ap (leb entries) (retired_before-push steps core_step))

finish_by : (steps : List CoreStep) (entries : ℕ) (b : Bool) → 0 < entries
    → option_or (retire_cycle steps entries) (cond b (Some (length steps)) None)
    ≡ option_or (cond (ltb (retired_before steps) entries && b) (Some (length steps)) None) (retire_cycle steps entries)
finish_by steps entries b h =
    ⊎_elim
    (λ l. ap (λ x. option_or x (cond b (Some (length steps)) None)) (retire_cycle-none steps entries l)
    ∙ sym (option_or-none (cond b (Some (length steps)) None))
    ∙ sym (ap₂ (λ t x. option_or (cond (t && b) (Some (length steps)) None) x) (lt-ltb (retired_before steps) entries l) (retire_cycle-none steps entries l)))
    (λ l. retire_cycle-stays steps entries h l _
    ∙ sym (ap (λ t. option_or (cond (t && b) (Some (length steps)) None) (retire_cycle steps entries)) (le-ltb (retired_before steps) entries l)))
    (cases_lt (retired_before steps) entries)

pub finish-push : (trace : List Entry) (steps : List CoreStep) (core_step : CoreStep) → finish trace (steps ++ core_step ∷ []) ≡ option_or (finish_in trace steps core_step) (finish trace steps)
unfolding finish finish_in
finish-push trace steps core_step = by (eqb (length trace) 0) refl
  where
    by : (b : Bool) → eqb (length trace) 0 ≡ b
        → cond b None (retire_cycle (steps ++ core_step ∷ []) (length trace))
        ≡ option_or (cond (ltb (retired_before steps) (length trace) && leb (length trace) (retired_before steps + core_step.retired)) (Some (length steps)) None)
        (cond b None (retire_cycle steps (length trace)))
    by true e =
        let none : length trace ≡ 0 = eqb-true (length trace) 0 e in
        sym (ap (λ t. option_or (cond (t && leb (length trace) (retired_before steps + core_step.retired)) (Some (length steps)) None) None) (le-ltb (retired_before steps) (length trace) (omega arith)))
    by false e =
        let some : length trace ≡ 0 → ⊥ = eqb-false (length trace) 0 e in
        retire_cycle-push steps core_step (length trace) ∙ finish_by steps (length trace) _ (omega arith)

-- the statistics with one cycle more are joined with those of the cycle
pub core_stats-push : (s : Config) (core : ℕ) (trace : List Entry) (steps : List CoreStep) (core_step : CoreStep) (inbox : List Message)
    → RepliesFollowReads (steps ++ core_step ∷ []) inbox
    → core_stats s core trace (steps ++ core_step ∷ []) inbox ≡ core_joined (core_stats s core trace steps inbox) (core_cycle s core trace steps inbox core_step)
unfolding core_stats core_cycle core_cycle_with
core_stats-push s core trace steps core_step inbox h =
    let e0 = issued_before-push steps core_step in
    let e1 = retired_before-push steps core_step in
    let e2 = reads-push trace steps core_step in
    let e3 = writes-push trace steps core_step in
    let e4 = replies-push steps core_step inbox in
    let e5 = read_latency-push steps core_step inbox h in
    let e6 = stopped_by-push s core trace steps core_step inbox stop.End in
    let e7 = stopped_by-push s core trace steps core_step inbox stop.Width in
    let e8 = stopped_by-push s core trace steps core_step inbox stop.Window in
    let e9 = stopped_by-push s core trace steps core_step inbox stop.Memory in
    let e10 = stopped_by-push s core trace steps core_step inbox stop.Credit in
    let e11 = finish-push trace steps core_step in
    cc

replies-arrived : (steps : List CoreStep) (inbox : List Message) → replies steps (arrived inbox (length steps)) ≡ replies steps inbox
unfolding replies
replies-arrived steps inbox =
    filter-arrived (is_reply_before (length steps)) (length steps) (λ m h. and_right (is_reply m) _ (le-ltb m.arrival (length steps) h)) inbox

pub replies-same : (steps : List CoreStep) (a b : List Message) → arrived a (length steps) ≡ arrived b (length steps) → replies steps a ≡ replies steps b
replies-same steps a b h = sym (replies-arrived steps a) ∙ ap (replies steps) h ∙ replies-arrived steps b

pub read_latency-same : (steps : List CoreStep) (a b : List Message) → arrived a (length steps) ≡ arrived b (length steps) → read_latency steps a ≡ read_latency steps b
unfolding read_latency
read_latency-same steps a b h = ap (sum_by (λ m. wait_of steps m.arrival (replied_entry m.payload))) (replies-same steps a b h)

replies_in-arrived : (cycle : ℕ) (inbox : List Message) → replies_in cycle (arrived inbox (cycle + 1)) ≡ replies_in cycle inbox
unfolding replies_in
replies_in-arrived cycle inbox =
    filter-arrived (is_reply_in cycle) (cycle + 1) (λ m h. and_right (is_reply m) _ (ne_eqb m.arrival cycle (λ e. omega arith))) inbox

pub replies_in-same : (cycle : ℕ) (a b : List Message) → arrived a (cycle + 1) ≡ arrived b (cycle + 1) → replies_in cycle a ≡ replies_in cycle b
replies_in-same cycle a b h = sym (replies_in-arrived cycle a) ∙ ap (replies_in cycle) h ∙ replies_in-arrived cycle b

pub stops-same : (s : Config) (core : ℕ) (trace : List Entry) (steps : List CoreStep) (a b : List Message) → arrived a (length steps) ≡ arrived b (length steps)
    → stops s core trace steps a ≡ stops s core trace steps b
unfolding stops stop_in
stops-same s core trace steps a b h = map_below_same _ _ (length steps) same
  where
    same : (k : ℕ) → k < length steps → (step s core trace (take k steps) a).1 ≡ (step s core trace (take k steps) b).1
    same k l =
        let len : length (take k steps) ≡ k = length-take-le k steps (omega arith) in
        ap (λ x. x.1) (step-same s core trace (take k steps) a b (arrived-sooner (length (take k steps) + 1) (length steps) (omega arith) a b h))

pub core_stats-same : (s : Config) (core : ℕ) (trace : List Entry) (steps : List CoreStep) (a b : List Message) → arrived a (length steps) ≡ arrived b (length steps)
    → core_stats s core trace steps a ≡ core_stats s core trace steps b
unfolding core_stats stopped_by
core_stats-same s core trace steps a b h =
    let e = replies-same steps a b h in
    let f = read_latency-same steps a b h in
    let g = stops-same s core trace steps a b h in
    cc

pub core_cycle-same : (s : Config) (core : ℕ) (trace : List Entry) (steps : List CoreStep) (a b : List Message) → arrived a (length steps + 1) ≡ arrived b (length steps + 1)
    → (core_step : CoreStep) → core_cycle s core trace steps a core_step ≡ core_cycle s core trace steps b core_step
unfolding core_cycle
core_cycle-same s core trace steps a b h core_step =
    ap₂ (λ x y. core_cycle_with trace steps core_step x.1 y) (step-same s core trace steps a b h) (replies_in-same (length steps) a b h)

-- messages that arrive after these cycles
pub core_stats-later : (s : Config) (core : ℕ) (trace : List Entry) (steps : List CoreStep) (mail later : List Message) → NotBefore (length steps) later
    → core_stats s core trace steps (mail ++ later) ≡ core_stats s core trace steps mail
core_stats-later s core trace steps mail later h = core_stats-same s core trace steps (mail ++ later) mail (arrived-added (length steps) mail later h)

pub count-take-le : (p : Entry → Bool) (n : ℕ) (trace : List Entry) → count_by p (take n trace) ≤ n
count-take-le p n trace = omega (arith, count_by-le-length p (take n trace), length-take n trace)

wait_of-le : (steps : List CoreStep) (arrival : ℕ) (o : Option ℕ) → wait_of steps arrival o ≤ arrival
wait_of-le steps arrival None = omega arith
wait_of-le steps arrival (Some entry) = omega arith

waits-le : (steps : List CoreStep) (cycles : ℕ) (ms : List Message)
    → sum_by (λ m. wait_of steps m.arrival (replied_entry m.payload)) (filter (is_reply_before cycles) ms) ≤ length (filter (is_reply_before cycles) ms) * cycles
waits-le steps cycles [] = omega arith
waits-le steps cycles (m ∷ ms) =
    let kept = filter (is_reply_before cycles) ms in
    let wait = λ (x : Message). wait_of steps x.arrival (replied_entry x.payload) in
    cond_both (is_reply_before cycles m) (m ∷ kept) kept (λ x. sum_by wait x ≤ length x * cycles)
    (λ e.
    let l : m.arrival < cycles = ltb-true m.arrival cycles (and_parts (is_reply m) (ltb m.arrival cycles) e).1 in
    let rest : sum_by wait kept ≤ length kept * cycles = waits-le steps cycles ms in
    let one : suc (length kept) * cycles ≡ length kept * cycles + cycles = grind arith in
    omega (arith, sum_by-cons wait m kept, wait_of-le steps m.arrival (replied_entry m.payload)))
    (λ e. waits-le steps cycles ms)

pub read_latency-le : (steps : List CoreStep) (inbox : List Message) → read_latency steps inbox ≤ length (replies steps inbox) * length steps
unfolding read_latency replies
read_latency-le steps inbox = waits-le steps (length steps) inbox

pub stopped_by-le : (s : Config) (core : ℕ) (trace : List Entry) (steps : List CoreStep) (inbox : List Message) (why : Stop) → stopped_by s core trace steps inbox why ≤ length steps
unfolding stopped_by stops
stopped_by-le s core trace steps inbox why =
    omega (arith, count_by-le-length (is_stop why) (stops s core trace steps inbox), length-map (below (length steps)) (stop_in s core trace steps inbox), length-range_with_len 0 (length steps))

-- the counts of a run fit, since its cycles, its entries and its replies do
pub core_stats-fit : (s : Config) (core : ℕ) (trace : List Entry) (steps : List CoreStep) (inbox : List Message) → length steps ≤ 2 ^ 62 → issued_before steps < 2 ^ 64
    → retired_before steps < 2 ^ 64 → length (replies steps inbox) < 2 ^ 64 → CoreFits (core_stats s core trace steps inbox)
unfolding core_stats reads writes
core_stats-fit s core trace steps inbox cycles issued retired replied =
    let most : length (replies steps inbox) * length steps ≤ 2 ^ 64 * 2 ^ 62 = mul-le _ _ (2 ^ 64) (2 ^ 62) (omega arith) cycles in
    record {
      issued = omega arith;
      retired = omega arith;
      reads = omega (arith, count-take-le is_read (issued_before steps) trace);
      writes = omega (arith, count-take-le is_write (issued_before steps) trace);
      replies = omega arith;
      read_latency = omega (arith, read_latency-le steps inbox);
      stop_end = omega (arith, stopped_by-le s core trace steps inbox stop.End);
      stop_width = omega (arith, stopped_by-le s core trace steps inbox stop.Width);
      stop_window = omega (arith, stopped_by-le s core trace steps inbox stop.Window);
      stop_memory = omega (arith, stopped_by-le s core trace steps inbox stop.Memory);
      stop_credit = omega (arith, stopped_by-le s core trace steps inbox stop.Credit);
    }

-- NUMBERS

-- numbers of a core's counters are those of the statistics that have them
pub core_numbers-of : (numbers : List (Option ℕ)) → AreNumbersOf core_counters numbers → core_numbers (core_of numbers) ≡ numbers
core_numbers-of numbers h = numbers-are core_counters numbers h

-- counts that fit are numbers of the counters
pub core_numbers-fit : (stats : CoreStats) → CoreFits stats → IfSome stats.finish (λ cycle. cycle < 2 ^ 64) → AreNumbersOf core_counters (core_numbers stats)
core_numbers-fit stats h finish =
    (h.issued, (h.retired, (h.reads, (h.writes, (h.replies, (h.read_latency, (h.stop_end, (h.stop_width, (h.stop_window, (h.stop_memory, (h.stop_credit, (finish, tt))))))))))))

pub core_fits : (stats : CoreStats) → AreNumbersOf core_counters (core_numbers stats) → CoreFits stats
core_fits stats h =
    record {
      issued = h.0;
      retired = h.1.0;
      reads = h.1.1.0;
      writes = h.1.1.1.0;
      replies = h.1.1.1.1.0;
      read_latency = h.1.1.1.1.1.0;
      stop_end = h.1.1.1.1.1.1.0;
      stop_width = h.1.1.1.1.1.1.1.0;
      stop_window = h.1.1.1.1.1.1.1.1.0;
      stop_memory = h.1.1.1.1.1.1.1.1.1.0;
      stop_credit = h.1.1.1.1.1.1.1.1.1.1.0;
    }

-- those of no cycle fit
pub core_none-fits : CoreFits core_none
core_none-fits = record { issued = omega arith; retired = omega arith; reads = omega arith; writes = omega arith; replies = omega arith; read_latency = omega arith; stop_end = omega arith; stop_width = omega arith; stop_window = omega arith; stop_memory = omega arith; stop_credit = omega arith }

-- where the counts of two stretches fit together, those of the first fit
pub core_fits-before : (a b : CoreStats) → CoreFits (core_joined a b) → CoreFits a
core_fits-before a b h =
    record {
      issued = omega (arith, h.issued);
      retired = omega (arith, h.retired);
      reads = omega (arith, h.reads);
      writes = omega (arith, h.writes);
      replies = omega (arith, h.replies);
      read_latency = omega (arith, h.read_latency);
      stop_end = omega (arith, h.stop_end);
      stop_width = omega (arith, h.stop_width);
      stop_window = omega (arith, h.stop_window);
      stop_memory = omega (arith, h.stop_memory);
      stop_credit = omega (arith, h.stop_credit);
    }

-- before the first cycle nothing is counted
pub core_stats-none : (s : Config) (core : ℕ) (trace : List Entry) → core_stats s core trace [] [] ≡ core_none
unfolding core_stats issued_before retired_before reads writes replies read_latency stopped_by stops finish retire_cycle
core_stats-none s core trace = cond_both (eqb (length trace) 0) None None (λ o. record core_none { finish = o } ≡ core_none) (λ e. refl) (λ e. refl)
