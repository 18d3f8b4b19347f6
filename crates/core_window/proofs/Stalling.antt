-- A stalled core takes what arrives without coming up to each cycle: it then is as if it had.
use Rattle.std.proofs.Common.{◌≡◌, ℕ, ◌+◌, ◌-◌, ◌/◌, ◌%◌, ◌^◌, ◌<◌, ◌≤◌, Bool, true, false, cond, not, eqb, ◌&&◌, List, [], ◌∷◌, ◌++◌, length, drop, Option, Some, None, refl, sym, ap, ap₂, subst, ◌∙◌, add-zero, arith, ⊎_elim}
use Rattle.std.specs.Prelude.{filter, find}
use Rattle.std.specs.Option.{IfSome}
use Rattle.std.specs.List.{AllByRecursion as Each}
use Rattle.std.proofs.Math.Nat.{mul-one, mul-zero}
use Rattle.std.proofs.lemmas.Bool.{cases_lt, ne_eqb}
use Rattle.sim_base.specs.Counts.{issue_cycle}
use Rattle.sim_base.specs.History.{below, issued_before, retired_before}
use Rattle.sim_base.specs.declared.config.Config.{Config}
use Rattle.sim_base.specs.declared.history.CoreStep.{CoreStep}
use Rattle.sim_base.specs.declared.message.Access.{Access}
use Rattle.sim_base.specs.declared.message.Message.{Message}
use Rattle.sim_base.specs.declared.message.Payload.TheVariants as payload
use Rattle.sim_base.specs.declared.trace.Entry.{Entry}
use Rattle.sim_base.specs.declared.trace.Stop.TheVariants.{End, Window}
use Rattle.sim_base.proofs.Each.{Each-filter_map, Each-all}
use Rattle.statistics.specs.Cores.{core_stats, core_joined, core_times}
use Rattle.statistics.specs.declared.cores.CoreStats.{CoreStats}
use Rattle.statistics.proofs.CoreCounts.{stopped_by-le}
use Rattle.core_window.specs.Arriving.{IsByAge, all_arriving, first_arrival}
use Rattle.core_window.specs.Causes.{first_undone}
use Rattle.core_window.specs.Counting.{read_of, IsCreditedAt}
use Rattle.core_window.specs.Fit.{MayCome, MayCarry, CanRun}
use Rattle.core_window.specs.Inside.{StandsAt, IsStanding, IsMidway, HasTaken, Advances, GoesOnWithoutSending, Does}
use Rattle.core_window.specs.Outstanding.{is_read_at, is_answered, outstanding_read, outstanding_reads, IsByNumber}
use Rattle.core_window.specs.Replies.{MayTakeReply, after_reply, after_reply_if, with_reply}
use Rattle.core_window.specs.Rests.{idle_step, rested, MayRest}
use Rattle.core_window.specs.Stalled.{IsStalled, HasTakenUpTo, IsBehind}
use Rattle.core_window.specs.Steady.{steady_counts, steady_view}
use Rattle.core_window.specs.Views.{CoreView}
use Rattle.core_window.specs.declared.outstanding.OutstandingRead.{OutstandingRead}
use Rattle.core_window.specs.declared.receive.Arriving.{Arriving}
use Rattle.core_window.proofs.Receiving.{outstanding-by_number, reply-room, reply-stands, credit-stands, awaited_found}
use Rattle.core_window.proofs.Running.{IsTaking, IsAt, is_at, goes_on, stands-at, taking-first, taking-standing, taking-order, taking-within, taking-until, taking-on, taking-more}
use Rattle.core_window.proofs.Sticking.{stalled-idles}
use Rattle.core_window.proofs.Stretching.{rest-steady, unsent-steady}
use Rattle.core_window.proofs.Taking.{found-own}
use Rattle.core_window.proofs.Working.{IsSound, sound}
use Rattle.core_window.proofs.Stepping.{retired_of}

-- a core at another cycle, with other counts of the cycles in which no entry was left, and in which its window was full
abbrev counted : CoreView → ℕ → ℕ → ℕ → CoreView
counted v now none_left full = record v { now = now; stats = record v.stats { stop_end = none_left; stop_window = full } }

-- no rest
rested-none : (v : CoreView) → rested v v.now ≡ v
rested-none v =
    let b = eqb v.stats.issued (length v.trace) in
    ap₂ (counted v v.now) (left b v.stats.stop_end) (full b v.stats.stop_window)
  where
    left : (b : Bool) (n : ℕ) → n + cond b (v.now - v.now) 0 ≡ n
    left true n = omega arith
    left false n = omega arith

    full : (b : Bool) (n : ℕ) → n + cond b 0 (v.now - v.now) ≡ n
    full true n = omega arith
    full false n = omega arith

-- a rest in two parts
rested-rested : (v : CoreView) (x y : ℕ) → v.now ≤ x → x ≤ y → rested (rested v x) y ≡ rested v y
rested-rested v x y l m =
    let b = eqb v.stats.issued (length v.trace) in
    ap₂ (counted v y) (left b v.stats.stop_end) (full b v.stats.stop_window)
  where
    left : (b : Bool) (n : ℕ) → n + cond b (x - v.now) 0 + cond b (y - x) 0 ≡ n + cond b (y - v.now) 0
    left true n = omega arith
    left false n = omega arith

    full : (b : Bool) (n : ℕ) → n + cond b 0 (x - v.now) + cond b 0 (y - x) ≡ n + cond b 0 (y - v.now)
    full true n = omega arith
    full false n = omega arith

none_if : (b : Bool) → cond {A = Option ℕ} b None None ≡ None
none_if true = refl
none_if false = refl

-- the counts of cycles in which a core does nothing
idle_counts : (st : CoreStats) (b : Bool) (n : ℕ)
    → core_joined st (core_times n (steady_counts idle_step (cond b End Window))) ≡ record st { stop_end = st.stop_end + cond b n 0; stop_window = st.stop_window + cond b 0 n }
idle_counts st true n = simp (mul-zero, mul-one, add-zero, none_if)
idle_counts st false n = simp (mul-zero, mul-one, add-zero, none_if)

-- a rest is a stretch of cycles in which a core does nothing
steady-rested : (v : CoreView) (until : ℕ) → v.now ≤ until
    → steady_view v idle_step (cond (eqb v.stats.issued (length v.trace)) End Window) (until - v.now) ≡ rested v until
steady-rested v until l =
    let with : ℕ → CoreStats → CoreView = λ n st. record v { now = n; stats = st } in
    let now : v.now + (until - v.now) ≡ until = omega arith in
    ap₂ with now (idle_counts v.stats (eqb v.stats.issued (length v.trace)) (until - v.now))

pub rests-goes : (v : CoreView) (first until : ℕ) → IsStalled v first → v.now ≤ until → GoesOnWithoutSending until v (rested v until)
rests-goes v first until h l =
    let why = cond (eqb v.stats.issued (length v.trace)) End Window in
    let does : Does v idle_step why None = stalled-idles v h.within (omega (arith, h.waits, h.unretired)) h.full in
    unsent-steady v (rested v until) (until - v.now) until idle_step why (rest-steady v idle_step why None (until - v.now) refl refl does) (sym (steady-rested v until l)) (omega arith)

-- no Read waits that retired
unretired : (trace : List Entry) (steps : List CoreStep) (mail : List Message)
    → ((entry : ℕ) → entry < retired_before steps → is_read_at trace entry ≡ true → is_answered mail entry ≡ true)
    → Each (λ (r : OutstandingRead). retired_before steps ≤ r.entry) (outstanding_reads trace steps mail)
unfolding outstanding_reads outstanding_read
unretired trace steps mail done =
    Each-filter_map (λ (r : OutstandingRead). retired_before steps ≤ r.entry) (outstanding_read trace steps mail) (below (issued_before steps))
    (Each-all (λ k. IfSome (outstanding_read trace steps mail k) (λ r. retired_before steps ≤ r.entry)) (λ k. by k (is_read_at trace k) (is_answered mail k) refl refl) (below (issued_before steps)))
  where
    by : (k : ℕ) (b a : Bool) → is_read_at trace k ≡ b → is_answered mail k ≡ a
        → IfSome (cond {A = Option OutstandingRead} (b && not a) (Some (record { entry = k; issued = issue_cycle steps k })) None) (λ r. retired_before steps ≤ r.entry)
    by k false a e f = tt
    by k true true e f = tt
    by k true false e f = ⊎_elim (λ l. absurd (differ (sym (done k l e) ∙ f))) (λ g. g) (cases_lt k (retired_before steps))
      where
        differ : true ≡ false → ⊥
        differ q = cc

first-above : (n issued : ℕ) (reads : List OutstandingRead) → n ≤ issued → Each (λ (r : OutstandingRead). n ≤ r.entry) reads → n ≤ first_undone issued reads
first-above n issued [] l h = l
first-above n issued (r ∷ reads) l h = h.0

-- the first entry of a full window that waits is the next to retire
pub stalled-standing : (v : CoreView) → IsStanding v → first_undone v.stats.issued v.outstanding ≤ v.stats.retired → v.config.window ≤ v.stats.issued - v.stats.retired → IsStalled v v.stats.retired
stalled-standing v i undone most =
    let h : IsSound v = sound v i in
    let st = i.stands in
    let above : Each (λ (r : OutstandingRead). retired_before i.steps ≤ r.entry) v.outstanding = subst (Each (λ (r : OutstandingRead). retired_before i.steps ≤ r.entry)) (sym st.outstanding) (unretired i.trace i.steps i.mail st.past.done) in
    let same : v.stats.retired ≡ retired_before i.steps = retired_of i.s i.core i.trace i.steps i.mail v st in
    let low : retired_before i.steps ≤ first_undone v.stats.issued v.outstanding = first-above (retired_before i.steps) v.stats.issued v.outstanding (omega (arith, h.retired)) above in
    record { waits = omega arith; unretired = omega arith; full = omega (arith, h.window); within = h.issued }

-- the cycles in which a core stopped for a cause are not more than those before the one where it stands
stops_few : (s : Config) (core : ℕ) (trace : List Entry) (steps : List CoreStep) (mail : List Message) (v : CoreView) → StandsAt s core trace steps mail v
    → (v.stats.stop_end ≤ v.now) × (v.stats.stop_window ≤ v.now)
unfolding core_stats
stops_few s core trace steps mail v h = (
  omega (arith, ap (λ (x : CoreStats). x.stop_end) h.stats, h.now, stopped_by-le s core trace steps mail End),
  omega (arith, ap (λ (x : CoreStats). x.stop_window) h.stats, h.now, stopped_by-le s core trace steps mail Window),
)

pub may_rest : (v : CoreView) (until : ℕ) → IsStanding v → until < 2 ^ 62 → v.now ≤ until → MayRest v until
may_rest v until i l m =
    let few = stops_few i.s i.core i.trace i.steps i.mail v i.stands in
    record { none_left = omega (arith, few.0); full = omega (arith, few.1) }

pub run-standing : (a : CoreView) (from until : ℕ) (inbox : List Message) → CanRun a from until inbox → IsStanding a
run-standing a from until inbox may =
    record { s = may.s; core = may.core; trace = may.trace; steps = may.steps; mail = may.mail; stands = stands-at may.s may.core may.trace may.steps may.mail a may.stands }

-- a core that has taken the first of its inbox, and sent nothing
abbrev Took : CoreView → ℕ → ℕ → List Message → ℕ → CoreView → Type 0
Took a from until inbox i v = IsTaking a from until inbox i v [] []

took : (a : CoreView) (from until : ℕ) (inbox : List Message) (i : ℕ) (v : CoreView) → HasTaken a from until inbox i v [] → Took a from until inbox i v
took a from until inbox i v h = record { sent = []; behind = refl; taking = h }

has_taken : (a : CoreView) (from until : ℕ) (inbox : List Message) (i : ℕ) (v : CoreView) → Took a from until inbox i v → HasTaken a from until inbox i v []
has_taken a from until inbox i v h = subst (λ l. HasTaken a from until inbox i v l) (sym h.behind) h.taking

pub behind-first : (a : CoreView) (from until : ℕ) (arriving : Arriving) (first : ℕ) → a.now ≡ from → from ≤ until → IsByAge arriving.credits.now → IsStalled a first
    → IsBehind a from until arriving arriving first a
behind-first a from until arriving first at l s h =
    let inbox = all_arriving arriving in
    record {
      at = a.now;
      since = omega arith;
      took = record {
        taken = 0;
        left = refl;
        by_age = s;
        took = subst (λ v. HasTaken a from until inbox 0 v []) (sym (rested-none a)) (has_taken a from until inbox 0 a (taking-first a from until inbox [] at l));
      };
      stalled = h;
    }

-- where nothing is taken
pub up_to-first : (a : CoreView) (from until : ℕ) (arriving : Arriving) → a.now ≡ from → from ≤ until → IsByAge arriving.credits.now → HasTakenUpTo a from until arriving arriving a
up_to-first a from until arriving at l s =
    let inbox = all_arriving arriving in
    record { taken = 0; left = refl; by_age = s; took = has_taken a from until inbox 0 a (taking-first a from until inbox [] at l) }

-- a core that is behind stands, after its rest
pub behind-standing : (a : CoreView) (from until : ℕ) (arriving rest : Arriving) (first : ℕ) (v : CoreView) → CanRun a from until (all_arriving arriving)
    → (h : IsBehind a from until arriving rest first v) → IsStanding (rested v h.at)
behind-standing a from until arriving rest first v may h =
    let inbox = all_arriving arriving in
    taking-standing a from until inbox h.took.taken (rested v h.at) [] [] may (took a from until inbox h.took.taken (rested v h.at) h.took.took)

pub behind-until : (a : CoreView) (from until : ℕ) (arriving rest : Arriving) (first : ℕ) (v : CoreView) → CanRun a from until (all_arriving arriving)
    → (h : IsBehind a from until arriving rest first v) → h.at ≤ until
behind-until a from until arriving rest first v may h =
    let inbox = all_arriving arriving in
    taking-until a from until inbox h.took.taken (rested v h.at) [] [] may (took a from until inbox h.took.taken (rested v h.at) h.took.took)

pub behind-room : (a : CoreView) (from until : ℕ) (arriving rest : Arriving) (first : ℕ) (v : CoreView) → CanRun a from until (all_arriving arriving)
    → IsBehind a from until arriving rest first v → until < 2 ^ 62 → MayTakeReply v
behind-room a from until arriving rest first v may h l =
    let i = behind-standing a from until arriving rest first v may h in
    let within = behind-until a from until arriving rest first v may h in
    let room : MayTakeReply (rested v h.at) = reply-room i.s i.core i.trace i.steps i.mail (rested v h.at) i.stands (omega arith) in
    record { count = room.count; sum = room.sum }

pub behind-order : (a : CoreView) (from until : ℕ) (arriving rest : Arriving) (first : ℕ) (v : CoreView) → CanRun a from until (all_arriving arriving)
    → IsBehind a from until arriving rest first v → IsByNumber v.outstanding
behind-order a from until arriving rest first v may h =
    let i = behind-standing a from until arriving rest first v may h in
    subst IsByNumber (sym i.stands.outstanding) (outstanding-by_number i.trace i.steps i.mail)

pub behind-channels : (a : CoreView) (from until : ℕ) (arriving rest : Arriving) (first : ℕ) (v : CoreView) → CanRun a from until (all_arriving arriving)
    → IsBehind a from until arriving rest first v → length v.credits ≡ v.config.channels
behind-channels a from until arriving rest first v may h = (sound (rested v h.at) (behind-standing a from until arriving rest first v may h)).channels

pub stalled-rested : (v : CoreView) (first x : ℕ) → IsStalled v first → IsStalled (rested v x) first
stalled-rested v first x h = record { waits = h.waits; unretired = h.unretired; full = h.full; within = h.within }

-- a core that is behind rests further
rests-on : (v : CoreView) (first at x : ℕ) → IsStalled v first → v.now ≤ at → at ≤ x → Advances (x - at) (rested v at) [] (rested v x) []
rests-on v first at x h l m =
    let goes : GoesOnWithoutSending x (rested v at) (rested v x) = subst (GoesOnWithoutSending x (rested v at)) (rested-rested v at x l m) (rests-goes (rested v at) first x (stalled-rested v first at h) m) in
    goes.advances []

-- it may rest up to the cycle of the next message
record ComesUp (a : CoreView) (from until : ℕ) (inbox : List Message) (i : ℕ) (v : CoreView) (at : ℕ) (m : Message) : Type 0 where
  order : at ≤ m.arrival
  within : m.arrival < until
  there : Took a from until inbox i (rested v m.arrival)

comes_up : (a : CoreView) (from until : ℕ) (arriving rest : Arriving) (first : ℕ) (v : CoreView) (m : Message) → CanRun a from until (all_arriving arriving) → a.now ≡ from
    → (h : IsBehind a from until arriving rest first v) → IsAt (all_arriving arriving) h.took.taken m → ComesUp a from until (all_arriving arriving) h.took.taken v h.at m
comes_up a from until arriving rest first v m may start h at =
    let inbox = all_arriving arriving in
    let i = h.took.taken in
    let t : Took a from until inbox i (rested v h.at) = took a from until inbox i (rested v h.at) h.took.took in
    let order : h.at ≤ m.arrival = taking-order a from until inbox i (rested v h.at) [] [] m may t at in
    record {
      order = order;
      within = taking-within a from until inbox i m may at;
      there = taking-on a from until inbox i (rested v h.at) (rested v m.arrival) [] [] [] m start order at t (rests-on v first h.at m.arrival h.stalled h.since order);
    }

-- a core takes the next message, behind the cycle of its arrival
behind-takes : (a : CoreView) (from until : ℕ) (arriving before after : Arriving) (first : ℕ) (v w : CoreView) (m : Message) → CanRun a from until (all_arriving arriving) → a.now ≡ from
    → IsBehind a from until arriving before first v → all_arriving before ≡ m ∷ all_arriving after → IsByAge after.credits.now → w.now ≡ v.now → IsStalled w first
    → ((s : Config) (core : ℕ) (trace : List Entry) (steps : List CoreStep) (mail : List Message) → StandsAt s core trace steps mail (rested v m.arrival) → m.arrival ≡ length steps
    → MayCome s core trace steps mail m → StandsAt s core trace steps (mail ++ m ∷ []) (rested w m.arrival))
    → IsBehind a from until arriving after first w
behind-takes a from until arriving before after first v w m may start h e s same stalled takes =
    let inbox = all_arriving arriving in
    let i = h.took.taken in
    let at : IsAt inbox i m = is_at inbox i m (all_arriving after) (sym h.took.left ∙ e) in
    let up = comes_up a from until arriving before first v m may start h at in
    let later : m ∷ all_arriving after ≡ m ∷ drop (i + 1) inbox = sym e ∙ h.took.left ∙ at.rest in
    record {
      at = m.arrival;
      since = omega (arith, h.since, up.order);
      took = record {
        taken = i + 1;
        left = cc later;
        by_age = s;
        took = has_taken a from until inbox (i + 1) (rested w m.arrival) (taking-more a from until inbox i (rested v m.arrival) (rested w m.arrival) [] [] m up.there at refl takes);
      };
      stalled = stalled;
    }

-- a credit
pub behind-credit : (a : CoreView) (from until : ℕ) (arriving before after : Arriving) (first : ℕ) (v w : CoreView) (m : Message) (kind : Access) (entry : ℕ)
    → CanRun a from until (all_arriving arriving) → a.now ≡ from
    → IsBehind a from until arriving before first v → all_arriving before ≡ m ∷ all_arriving after → IsByAge after.credits.now → m.payload ≡ payload.Credit kind entry
    → w ≡ record v { credits = w.credits } → length w.credits ≡ length v.credits → IsCreditedAt (m.link / 3 % v.config.channels) kind v.credits w.credits
    → IsBehind a from until arriving after first w
behind-credit a from until arriving before after first v w m kind entry may start h e s is rest len credited =
    behind-takes a from until arriving before after first v w m may start h e s (ap (λ (x : CoreView). x.now) rest)
    (subst (λ x. IsStalled x first) (sym rest) (record { waits = h.stalled.waits; unretired = h.stalled.unretired; full = h.stalled.full; within = h.stalled.within }))
    (λ s core trace steps mail st now due. credit-stands s core trace steps mail m (rested v m.arrival) (rested w m.arrival) kind entry st now is
    (subst (MayCarry s core trace steps mail m.link) is due) (ap (λ x. rested x m.arrival) rest) len credited)

-- a reply to an entry
pub takes-reply : (a : CoreView) (m : Message) (entry : ℕ) (s : Config) (core : ℕ) (trace : List Entry) (steps : List CoreStep) (mail : List Message) → m.payload ≡ payload.Reply entry
    → StandsAt s core trace steps mail a → m.arrival ≡ length steps → MayCome s core trace steps mail m → StandsAt s core trace steps (mail ++ m ∷ []) (with_reply a entry m.arrival)
takes-reply a m entry s core trace steps mail is h now due =
    let awaited = subst (MayCarry s core trace steps mail m.link) is due in
    let read : OutstandingRead = record { entry = entry; issued = issue_cycle steps entry } in
    let found : read_of entry a.outstanding ≡ Some read = ap (find (λ (r : OutstandingRead). eqb r.entry entry)) h.outstanding ∙ awaited_found trace steps mail entry awaited in
    reply-stands s core trace steps mail m a (with_reply a entry m.arrival) entry h now is awaited
    (ap (λ o. after_reply_if a o m.arrival) found ∙ ap (after_reply a read) (now ∙ sym h.now))

-- it can be taken before a rest, or after it
reply-rested : (v : CoreView) (entry y x : ℕ) → with_reply (rested v x) entry y ≡ rested (with_reply v entry y) x
reply-rested v entry y x = by (read_of entry v.outstanding)
  where
    by : (o : Option OutstandingRead) → after_reply_if (rested v x) o y ≡ rested (after_reply_if v o y) x
    by None = refl
    by (Some read) = refl

reply-now : (v : CoreView) (entry y : ℕ) → (with_reply v entry y).now ≡ v.now
reply-now v entry y = by (read_of entry v.outstanding)
  where
    by : (o : Option OutstandingRead) → (after_reply_if v o y).now ≡ v.now
    by None = refl
    by (Some read) = refl

-- the first Read that waits still does after the reply to another
first-kept : (issued e : ℕ) (reads : List OutstandingRead) → (e ≡ first_undone issued reads → ⊥) → first_undone issued (filter (λ r. not (eqb r.entry e)) reads) ≡ first_undone issued reads
first-kept issued e [] h = refl
first-kept issued e (r ∷ reads) h =
    ap (λ b. first_undone issued (cond (not b) (r ∷ filter (λ x. not (eqb x.entry e)) reads) (filter (λ x. not (eqb x.entry e)) reads))) (ne_eqb r.entry e (λ q. h (sym q)))

stalled-reply : (v : CoreView) (first entry y : ℕ) → IsStalled v first → (entry ≡ first → ⊥) → IsStalled (with_reply v entry y) first
stalled-reply v first entry y h other = by (read_of entry v.outstanding) refl
  where
    by : (o : Option OutstandingRead) → read_of entry v.outstanding ≡ o → IsStalled (after_reply_if v o y) first
    by None e = h
    by (Some read) e =
        let own : read.entry ≡ entry = found-own entry v.outstanding read e in
        record {
          waits = first-kept v.stats.issued read.entry v.outstanding (λ q. other (sym own ∙ q ∙ h.waits)) ∙ h.waits;
          unretired = h.unretired;
          full = h.full;
          within = h.within;
        }

pub behind-reply : (a : CoreView) (from until : ℕ) (arriving before after : Arriving) (first : ℕ) (v w : CoreView) (m : Message) (entry : ℕ)
    → CanRun a from until (all_arriving arriving) → a.now ≡ from
    → IsBehind a from until arriving before first v → all_arriving before ≡ m ∷ all_arriving after → IsByAge after.credits.now → m.payload ≡ payload.Reply entry
    → (entry ≡ first → ⊥) → w ≡ with_reply v entry m.arrival
    → IsBehind a from until arriving after first w
behind-reply a from until arriving before after first v w m entry may start h e s is other same =
    subst (IsBehind a from until arriving after first) (sym same)
    (behind-takes a from until arriving before after first v (with_reply v entry m.arrival) m may start h e s (reply-now v entry m.arrival)
    (stalled-reply v first entry m.arrival h.stalled other)
    (λ s core trace steps mail st now due. subst (StandsAt s core trace steps (mail ++ m ∷ [])) (reply-rested v entry m.arrival m.arrival)
    (takes-reply (rested v m.arrival) m entry s core trace steps mail is st now due)))

-- up to the end of the span, where nothing is left
rests-out : (a : CoreView) (from until : ℕ) (inbox : List Message) (i : ℕ) (v : CoreView) (first at : ℕ) → a.now ≡ from → at ≤ until → drop i inbox ≡ [] → IsStalled v first → v.now ≤ at
    → HasTaken a from until inbox i (rested v at) [] → HasTaken a from until inbox i (rested v until) []
rests-out a from until inbox i v first at start l none stalled since h s core trace steps mail st fit =
    let adv = rests-on v first at until stalled since l in
    let mid : IsMidway s core trace steps mail from until inbox i (rested v until) ([] ++ adv.sent) =
    goes_on s core trace steps mail from until inbox i (rested v at) (rested v until) [] adv.sent until (sym st.now ∙ start) (h s core trace steps mail st fit) l (omega arith)
    (subst (Each (λ (m : Message). until ≤ m.arrival)) (sym none) tt) adv.sends in
    subst (λ l. IsMidway s core trace steps mail from until inbox i (rested v until) l) (sym adv.behind) mid

-- a core that is behind comes up to the next message, or to the end of the span
pub behind-last : (a : CoreView) (from until : ℕ) (arriving rest : Arriving) (first : ℕ) (v : CoreView) → CanRun a from until (all_arriving arriving) → a.now ≡ from
    → (h : IsBehind a from until arriving rest first v)
    → HasTakenUpTo a from until arriving rest (rested v (first_arrival until (all_arriving rest))) × (h.at ≤ first_arrival until (all_arriving rest)) × (first_arrival until (all_arriving rest) ≤ until)
behind-last a from until arriving rest first v may start h =
    let up = by (all_arriving rest) refl in
    (record { taken = i; left = h.took.left; by_age = h.took.by_age; took = up.0 }, up.1, up.2)
  where
    inbox : List Message
    inbox = all_arriving arriving

    i : ℕ
    i = h.took.taken

    by : (ms : List Message) → all_arriving rest ≡ ms
        → HasTaken a from until (all_arriving arriving) h.took.taken (rested v (first_arrival until ms)) [] × (h.at ≤ first_arrival until ms) × (first_arrival until ms ≤ until)
    by [] e =
        let l = behind-until a from until arriving rest first v may h in
        (rests-out a from until (all_arriving arriving) h.took.taken v first h.at start l (sym h.took.left ∙ e) h.stalled h.since h.took.took, l, omega arith)
    by (m ∷ later) e =
        let up = comes_up a from until arriving rest first v m may start h (is_at (all_arriving arriving) h.took.taken m later (sym h.took.left ∙ e)) in
        (has_taken a from until (all_arriving arriving) h.took.taken (rested v m.arrival) up.there, up.order, omega (arith, up.within))

pub behind-may_rest : (a : CoreView) (from until : ℕ) (arriving rest : Arriving) (first : ℕ) (v : CoreView) (next : ℕ) → CanRun a from until (all_arriving arriving)
    → IsBehind a from until arriving rest first v → next ≤ until → until < 2 ^ 62 → MayRest v next
behind-may_rest a from until arriving rest first v next may h l m =
    let i = behind-standing a from until arriving rest first v may h in
    let few = stops_few i.s i.core i.trace i.steps i.mail (rested v h.at) i.stands in
    let within = behind-until a from until arriving rest first v may h in
    record { none_left = omega (arith, few.0); full = omega (arith, few.1) }
