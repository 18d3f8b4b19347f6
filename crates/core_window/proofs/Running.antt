-- A core over many cycles.
use Rattle.std.proofs.Common.{◌≡◌, ℕ, zero, suc, ◌+◌, ◌-◌, ◌<◌, ◌≤◌, Bool, true, false, ◌&&◌, cond, List, [], ◌∷◌, ◌++◌, length, take, drop, Some, refl, sym, ap, ap₂, subst, ◌∙◌, add-zero, append_assoc, arith}
use Rattle.std.specs.Prelude.{filter}
use Rattle.std.specs.List.{AllByRecursion as Each}
use Rattle.std.proofs.lemmas.Bool.{ne_eqb}
use Rattle.std.proofs.lemmas.List.{append-nil}
use Rattle.sim_base.specs.declared.config.Config.{Config}
use Rattle.sim_base.specs.History.{core_messages}
use Rattle.sim_base.specs.Machine.{core_run}
use Rattle.sim_base.specs.Windows.{held, step}
use Rattle.sim_base.specs.Final.{credits_left}
use Rattle.sim_base.specs.declared.history.CoreStep.{CoreStep}
use Rattle.sim_base.specs.declared.message.Access.TheVariants as access
use Rattle.sim_base.specs.declared.message.Message.{Message}
use Rattle.sim_base.specs.declared.trace.Entry.{Entry}
use Rattle.sim_base.proofs.Arrived.{NotBefore, NotBefore-weaker}
use Rattle.sim_base.proofs.Ordered.{Each-weaker}
use Rattle.sim_base.proofs.Same.{step-same}
use Rattle.sim_base.specs.Counts.{is_reply}
use Rattle.sim_base.proofs.Kept.{arrived-added}
use Rattle.sim_base.proofs.Added.{length-push_suc}
use Rattle.sim_base.proofs.Each.{Each-append, Each-drop}
use Rattle.statistics.specs.Cores.{core_stats, replies_in, is_reply_in}
use Rattle.statistics.specs.Runs.{credits_of}
use Rattle.statistics.specs.declared.final_state.Credits.{Credits}
use Rattle.core_window.specs.Arriving.{IsByAge, all_arriving}
use Rattle.core_window.specs.declared.receive.Arriving.{Arriving}
use Rattle.core_window.specs.Fit.{MayCome, IsByArrival, IsFit, CanRun, RunsOver, RunsOnto}
use Rattle.core_window.specs.Inside.{credits_now, StandsAt, IsStanding, IsReceiving, IsMidway, HasTaken, Sends, Advances, GoesOn}
use Rattle.core_window.specs.Stands.{StandsFor}
use Rattle.core_window.specs.Views.{CoreView}
use Rattle.core_window.proofs.Stepping.{with_none_arrived, held-all}

pub length-core_run : (s : Config) (core : ℕ) (trace : List Entry) (steps : List CoreStep) (mail : List Message) (n : ℕ) → length (core_run s core trace steps mail n) ≡ length steps + n
unfolding core_run
length-core_run s core trace steps mail zero = sym (add-zero (length steps))
length-core_run s core trace steps mail (suc n) =
    let e = length-push_suc (core_run s core trace steps mail n) (step s core trace (core_run s core trace steps mail n) mail).0 in
    omega (arith, length-core_run s core trace steps mail n)

pub core_run-add : (s : Config) (core : ℕ) (trace : List Entry) (steps : List CoreStep) (mail : List Message) (m n : ℕ)
    → core_run s core trace steps mail (m + n) ≡ core_run s core trace (core_run s core trace steps mail m) mail n
unfolding core_run
core_run-add s core trace steps mail m zero = ap (core_run s core trace steps mail) (add-zero m)
core_run-add s core trace steps mail m (suc n) =
    let e : m + suc n ≡ suc (m + n) = omega arith in
    ap (core_run s core trace steps mail) e
    ∙ ap (λ r. r ++ (step s core trace r mail).0 ∷ []) (core_run-add s core trace steps mail m n)

-- messages that come later change nothing
pub core_run-later : (s : Config) (core : ℕ) (trace : List Entry) (steps : List CoreStep) (mail later : List Message) (n : ℕ) → NotBefore (length steps + n) later
    → core_run s core trace steps (mail ++ later) n ≡ core_run s core trace steps mail n
unfolding core_run
core_run-later s core trace steps mail later zero h = refl
core_run-later s core trace steps mail later (suc n) h =
    let before = core_run s core trace steps mail n in
    let len : length before ≡ length steps + n = length-core_run s core trace steps mail n in
    ap (λ r. r ++ (step s core trace r (mail ++ later)).0 ∷ []) (core_run-later s core trace steps mail later n (NotBefore-weaker (length steps + n) (length steps + suc n) (omega arith) later h))
    ∙ ap (λ x. before ++ x.0 ∷ []) (step-same s core trace before (mail ++ later) mail
    (arrived-added (length before + 1) mail later (NotBefore-weaker (length before + 1) (length steps + suc n) (omega arith) later h)))

-- a core that goes on
pub record IsUnderway (until : ℕ) (a : CoreView) (before : List Message) (b : CoreView) (after : List Message) : Type 0 where
  pub since : a.now ≤ b.now
  pub until_then : b.now ≤ until
  pub advances : Advances (b.now - a.now) a before b after

-- no cycle
pub advances-none : (a : CoreView) (sent : List Message) → Advances 0 a sent a sent
unfolding core_run
advances-none a sent = record { sent = []; behind = sym (append-nil sent); sends = λ s core trace steps mail h. (h, sym (append-nil (core_messages s core trace steps))) }

pub underway-first : (until : ℕ) (a : CoreView) (sent : List Message) → a.now ≤ until → IsUnderway until a sent a sent
underway-first until a sent l =
    let z : a.now - a.now ≡ 0 = omega arith in
    record {
      since = omega arith;
      until_then = l;
      advances = subst (λ n. Advances n a sent a sent) (sym z) (advances-none a sent);
    }

-- a core goes over one stretch of cycles after another
sends-add : (m n : ℕ) (a b d : CoreView) (x y : List Message) → Sends m a b x → Sends n b d y → Sends (m + n) a d (x ++ y)
sends-add m n a b d x y one two s core trace steps mail h =
    let first = one s core trace steps mail h in
    let second = two s core trace (core_run s core trace steps mail m) mail first.0 in
    let e : core_run s core trace (core_run s core trace steps mail m) mail n ≡ core_run s core trace steps mail (m + n) = sym (core_run-add s core trace steps mail m n) in (
      subst (λ r. StandsAt s core trace r mail d) e second.0,
      ap (core_messages s core trace) (sym e) ∙ second.1 ∙ ap (λ l. l ++ y) first.1 ∙ append_assoc (core_messages s core trace steps) x y,
    )

pub advances-add : (m n : ℕ) (a b d : CoreView) (x y z : List Message) → Advances m a x b y → Advances n b y d z → Advances (m + n) a x d z
advances-add m n a b d x y z one two =
    record {
      sent = one.sent ++ two.sent;
      behind = two.behind ∙ ap (λ l. l ++ two.sent) one.behind ∙ append_assoc x one.sent two.sent;
      sends = sends-add m n a b d one.sent two.sent one.sends two.sends;
    }

pub underway-more : (until : ℕ) (a b d : CoreView) (x y z : List Message) → IsUnderway until a x b y → GoesOn until b y d z → IsUnderway until a x d z
underway-more until a b d x y z u g =
    let sum : (b.now - a.now) + (d.now - b.now) ≡ d.now - a.now = omega (arith, u.since, g.later) in
    record {
      since = omega (arith, u.since, g.later);
      until_then = g.until_then;
      advances = subst (λ n. Advances n a x d z) sum (advances-add (b.now - a.now) (d.now - b.now) a b d x y z u.advances g.advances);
    }

pub underway-standing : (until : ℕ) (a b : CoreView) (x y : List Message) → IsUnderway until a x b y → IsStanding a → IsStanding b
underway-standing until a b x y u h =
    record { s = h.s; core = h.core; trace = h.trace; steps = core_run h.s h.core h.trace h.steps h.mail (b.now - a.now); mail = h.mail; stands = (u.advances.sends h.s h.core h.trace h.steps h.mail h.stands).0 }

credits_of-now : (s : Config) (core : ℕ) (trace : List Entry) (steps : List CoreStep) (mail : List Message) (channel : ℕ) → Each (λ m. m.arrival < length steps) mail
    → credits_of s core trace steps mail channel ≡ credits_now s core trace steps mail channel
unfolding credits_of credits_left
credits_of-now s core trace steps mail channel h =
    let both : ℕ → ℕ → Credits = λ r w. record { read = r; write = w } in
    ap₂ both (held-all s core mail (core_messages s core trace steps) channel access.Read (length steps) h) (held-all s core mail (core_messages s core trace steps) channel access.Write (length steps) h)

none_now : (n : ℕ) (mail : List Message) → Each (λ m. m.arrival < n) mail → replies_in n mail ≡ []
unfolding replies_in
none_now n [] h = refl
none_now n (m ∷ mail) h =
    ap (λ b. cond (is_reply m && b) (m ∷ filter (is_reply_in n) mail) (filter (is_reply_in n) mail)) (ne_eqb m.arrival n (λ e. omega (arith, h.0)))
    ∙ ap (λ b. cond b (m ∷ filter (is_reply_in n) mail) (filter (is_reply_in n) mail)) (and_false (is_reply m))
    ∙ none_now n mail h.1
  where
    and_false : (b : Bool) → (b && false) ≡ false
    and_false true = refl
    and_false false = refl

-- at the beginning of a cycle
pub stands-at : (s : Config) (core : ℕ) (trace : List Entry) (steps : List CoreStep) (mail : List Message) (a : CoreView) → StandsFor s core trace steps mail a → StandsAt s core trace steps mail a
stands-at s core trace steps mail a h =
    record {
      config = h.config;
      number = h.number;
      entries = h.entries;
      now = h.now;
      outstanding = h.outstanding;
      channels = h.channels;
      credits = λ channel l. h.credits channel l ∙ ap Some (credits_of-now s core trace steps mail channel h.before);
      stats = h.stats ∙ sym (with_none_arrived (core_stats s core trace steps mail) steps mail (none_now (length steps) mail h.before));
      past = h.past;
    }

pub stands-for : (s : Config) (core : ℕ) (trace : List Entry) (steps : List CoreStep) (mail : List Message) (a : CoreView) → StandsAt s core trace steps mail a
    → Each (λ m. m.arrival < length steps) mail → StandsFor s core trace steps mail a
stands-for s core trace steps mail a h before =
    record {
      config = h.config;
      number = h.number;
      entries = h.entries;
      now = h.now;
      outstanding = h.outstanding;
      channels = h.channels;
      credits = λ channel l. h.credits channel l ∙ ap Some (sym (credits_of-now s core trace steps mail channel before));
      stats = h.stats ∙ with_none_arrived (core_stats s core trace steps mail) steps mail (none_now (length steps) mail before);
      before = before;
      past = h.past;
    }

-- what a core that takes its inbox stands for, whatever it stood for, when what it sent is put behind what a list held
pub record IsTaking (a : CoreView) (from until : ℕ) (inbox : List Message) (taken : ℕ) (b : CoreView) (held holds : List Message) : Type 0 where
  pub sent : List Message
  pub behind : holds ≡ held ++ sent
  pub taking : HasTaken a from until inbox taken b sent

-- a message stands at a place of an inbox
pub record IsAt (inbox : List Message) (i : ℕ) (m : Message) : Type 0 where
  pub rest : drop i inbox ≡ m ∷ drop (i + 1) inbox
  pub more : take (i + 1) inbox ≡ take i inbox ++ m ∷ []

-- what is left of an inbox begins with the message at its place
pub is_at : (inbox : List Message) (i : ℕ) (m : Message) (later : List Message) → drop i inbox ≡ m ∷ later → IsAt inbox i m
is_at [] zero m later e = absurd (cc)
is_at [] (suc i) m later e = absurd (cc)
is_at (x ∷ xs) zero m later e = record { rest = cc; more = cc }
is_at (x ∷ xs) (suc i) m later e =
    let h : IsAt xs i m = is_at xs i m later e in
    let n : suc i + 1 ≡ suc (i + 1) = omega arith in
    record { rest = h.rest ∙ ap (λ k. m ∷ drop k (x ∷ xs)) (sym n); more = ap (λ k. take k (x ∷ xs)) n ∙ ap (λ l. x ∷ l) h.more }

take-drop-all : (inbox : List Message) (i : ℕ) → take i inbox ++ drop i inbox ≡ inbox
take-drop-all [] zero = refl
take-drop-all [] (suc i) = refl
take-drop-all (x ∷ xs) zero = refl
take-drop-all (x ∷ xs) (suc i) = ap (λ l. x ∷ l) (take-drop-all xs i)

ordered-drop : (inbox : List Message) (i : ℕ) → IsByArrival inbox → IsByArrival (drop i inbox)
ordered-drop [] zero h = h
ordered-drop [] (suc i) h = h
ordered-drop (x ∷ xs) zero h = h
ordered-drop (x ∷ xs) (suc i) h = ordered-drop xs i h.1

-- no message that is left comes sooner than the next
pub next_first : (inbox : List Message) (i : ℕ) (m : Message) → IsByArrival inbox → IsAt inbox i m → Each (λ n. m.arrival ≤ n.arrival) (drop i inbox)
next_first inbox i m h at =
    subst (Each (λ (n : Message). m.arrival ≤ n.arrival)) (sym at.rest)
    (let k : IsByArrival (m ∷ drop (i + 1) inbox) = subst IsByArrival at.rest (ordered-drop inbox i h) in (omega arith, k.0))

Each-at : (P : Message → Type 0) (inbox : List Message) (i : ℕ) (m : Message) → Each P (drop i inbox) → IsAt inbox i m → P m
Each-at P inbox i m h at = (subst (Each P) at.rest h).0

-- a core goes on up to a cycle before which no message comes
pub goes_on : (s : Config) (core : ℕ) (trace : List Entry) (steps : List CoreStep) (mail : List Message) (from until : ℕ) (inbox : List Message) (i : ℕ) (b d : CoreView) (x y : List Message) (t : ℕ)
    → length steps ≡ from → IsMidway s core trace steps mail from until inbox i b x → b.now ≤ t → t ≤ until → Each (λ m. t ≤ m.arrival) (drop i inbox)
    → Sends (t - b.now) b d y → IsMidway s core trace steps mail from until inbox i d (x ++ y)
goes_on s core trace steps mail from until inbox i b d x y t start mid l u others adv =
    let full = mail ++ inbox in
    let had = mail ++ take i inbox in
    let at = core_run s core trace steps full (b.now - from) in
    let n = t - b.now in
    let all : had ++ drop i inbox ≡ full = append_assoc mail (take i inbox) (drop i inbox) ∙ ap (λ ms. mail ++ ms) (take-drop-all inbox i) in
    let long : length at ≡ b.now = sym mid.stands.now in
    let late : NotBefore (length at + n) (drop i inbox) = Each-weaker (λ (m : Message). t ≤ m.arrival) (λ m. length at + n ≤ m.arrival) (λ m h. omega arith) (drop i inbox) others in
    let sum : (b.now - from) + n ≡ t - from = omega (arith, mid.since) in
    let same : core_run s core trace at had n ≡ core_run s core trace steps full (t - from) =
    sym (core_run-later s core trace at had (drop i inbox) n late) ∙ ap (λ ms. core_run s core trace at ms n) all
    ∙ sym (core_run-add s core trace steps full (b.now - from) n) ∙ ap (core_run s core trace steps full) sum in
    let one = adv s core trace at had mid.stands in
    let stands : StandsAt s core trace (core_run s core trace steps full (t - from)) had d = subst (λ r. StandsAt s core trace r had d) same one.0 in
    let now : d.now ≡ t = omega (arith, stands.now, length-core_run s core trace steps full (t - from), mid.since) in
    let messages : core_messages s core trace (core_run s core trace steps full (t - from)) ≡ core_messages s core trace steps ++ (x ++ y) =
    ap (core_messages s core trace) (sym same) ∙ one.1 ∙ ap (λ l. l ++ y) mid.messages ∙ append_assoc (core_messages s core trace steps) x y in
    record {
      since = omega (arith, mid.since);
      stands = subst (λ k. StandsAt s core trace (core_run s core trace steps full (k - from)) had d) (sym now) stands;
      messages = ap (λ k. core_messages s core trace (core_run s core trace steps full (k - from))) now ∙ messages;
      others = Each-weaker (λ (m : Message). t ≤ m.arrival) (λ m. d.now ≤ m.arrival) (λ m h. omega arith) (drop i inbox) others;
      until_then = omega arith;
    }

pub now_at : (s : Config) (core : ℕ) (trace : List Entry) (steps : List CoreStep) (mail : List Message) (from until : ℕ) (inbox : List Message) (i : ℕ) (b d : CoreView) (x y : List Message) (t : ℕ)
    → length steps ≡ from → IsMidway s core trace steps mail from until inbox i b x → b.now ≤ t → Sends (t - b.now) b d y → d.now ≡ t
now_at s core trace steps mail from until inbox i b d x y t start mid l adv =
    let at = core_run s core trace steps (mail ++ inbox) (b.now - from) in
    let one = adv s core trace at (mail ++ take i inbox) mid.stands in
    omega (arith, one.0.now, mid.stands.now, length-core_run s core trace at (mail ++ take i inbox) (t - b.now))

-- a core takes a message
pub takes : (s : Config) (core : ℕ) (trace : List Entry) (steps : List CoreStep) (mail : List Message) (from until : ℕ) (inbox : List Message) (i : ℕ) (d e : CoreView) (y : List Message) (m : Message)
    → IsMidway s core trace steps mail from until inbox i d y → IsAt inbox i m
    → StandsAt s core trace (core_run s core trace steps (mail ++ inbox) (d.now - from)) ((mail ++ take i inbox) ++ m ∷ []) e
    → IsMidway s core trace steps mail from until inbox (i + 1) e y
takes s core trace steps mail from until inbox i d e y m mid at stands =
    let now : e.now ≡ d.now = stands.now ∙ sym mid.stands.now in
    let had : (mail ++ take i inbox) ++ m ∷ [] ≡ mail ++ take (i + 1) inbox = append_assoc mail (take i inbox) (m ∷ []) ∙ ap (λ ms. mail ++ ms) (sym at.more) in
    let P : ℕ → List Message → Type 0 = λ k ms. StandsAt s core trace (core_run s core trace steps (mail ++ inbox) (k - from)) ms e in
    let st1 : P e.now ((mail ++ take i inbox) ++ m ∷ []) = subst (λ k. P k ((mail ++ take i inbox) ++ m ∷ [])) (sym now) stands in
    record {
      since = omega (arith, mid.since);
      stands = subst (λ ms. P e.now ms) had st1;
      messages = ap (λ k. core_messages s core trace (core_run s core trace steps (mail ++ inbox) (k - from))) now ∙ mid.messages;
      others = Each-weaker (λ (n : Message). d.now ≤ n.arrival) (λ n. e.now ≤ n.arrival) (λ n h. omega arith) (drop (i + 1) inbox) (subst (Each (λ (n : Message). d.now ≤ n.arrival)) at.rest mid.others).1;
      until_then = omega (arith, mid.until_then);
    }

-- a core may take the next message of its inbox
pub may_take : (s : Config) (core : ℕ) (trace : List Entry) (steps : List CoreStep) (mail : List Message) (from until : ℕ) (inbox : List Message) (i : ℕ) (d : CoreView) (y : List Message) (m : Message)
    → IsMidway s core trace steps mail from until inbox i d y → IsAt inbox i m → d.now ≡ m.arrival → IsFit s core trace steps mail from until inbox
    → MayCome s core trace (core_run s core trace steps (mail ++ inbox) (d.now - from)) (mail ++ take i inbox) m
may_take s core trace steps mail from until inbox i d y m mid at now fit =
    let split : inbox ≡ take i inbox ++ m ∷ drop (i + 1) inbox = sym (take-drop-all inbox i) ∙ ap (λ l. take i inbox ++ l) at.rest in
    subst (λ k. MayCome s core trace (core_run s core trace steps (mail ++ inbox) (k - from)) (mail ++ take i inbox) m) (sym now) (fit.due (take i inbox) (drop (i + 1) inbox) m split)

has_taken-first : (a : CoreView) (from until : ℕ) (inbox : List Message) → a.now ≡ from → from ≤ until → HasTaken a from until inbox 0 a []
unfolding core_run
has_taken-first a from until inbox at l s core trace steps mail h fit =
    let z : a.now - from ≡ 0 = omega arith in
    record {
      since = omega arith;
      stands = subst (λ k. StandsAt s core trace (core_run s core trace steps (mail ++ inbox) k) (mail ++ []) a) (sym z)
          (subst (λ ms. StandsAt s core trace steps ms a) (sym (append-nil mail)) (stands-at s core trace steps mail a h));
      messages = ap (λ k. core_messages s core trace (core_run s core trace steps (mail ++ inbox) k)) z ∙ sym (append-nil (core_messages s core trace steps));
      others = Each-weaker (λ (m : Message). from ≤ m.arrival) (λ m. a.now ≤ m.arrival) (λ m k. omega arith) inbox fit.from_then;
      until_then = omega arith;
    }

pub taking-first : (a : CoreView) (from until : ℕ) (inbox held : List Message) → a.now ≡ from → from ≤ until → IsTaking a from until inbox 0 a held held
taking-first a from until inbox held at l = record { sent = []; behind = sym (append-nil held); taking = has_taken-first a from until inbox at l }

pub taking-standing : (a : CoreView) (from until : ℕ) (inbox : List Message) (i : ℕ) (b : CoreView) (w x : List Message) → CanRun a from until inbox → IsTaking a from until inbox i b w x → IsStanding b
taking-standing a from until inbox i b w x may h =
    record {
      s = may.s;
      core = may.core;
      trace = may.trace;
      steps = core_run may.s may.core may.trace may.steps (may.mail ++ inbox) (b.now - from);
      mail = may.mail ++ take i inbox;
      stands = (h.taking may.s may.core may.trace may.steps may.mail may.stands may.fit).stands;
    }

pub taking-order : (a : CoreView) (from until : ℕ) (inbox : List Message) (i : ℕ) (b : CoreView) (w x : List Message) (m : Message) → CanRun a from until inbox → IsTaking a from until inbox i b w x → IsAt inbox i m → b.now ≤ m.arrival
taking-order a from until inbox i b w x m may h at =
    Each-at (λ (n : Message). b.now ≤ n.arrival) inbox i m (h.taking may.s may.core may.trace may.steps may.mail may.stands may.fit).others at

pub taking-within : (a : CoreView) (from until : ℕ) (inbox : List Message) (i : ℕ) (m : Message) → CanRun a from until inbox → IsAt inbox i m → m.arrival < until
taking-within a from until inbox i m may at = Each-at (λ (n : Message). n.arrival < until) inbox i m (Each-drop (λ (n : Message). n.arrival < until) inbox i may.fit.until_then) at

pub taking-until : (a : CoreView) (from until : ℕ) (inbox : List Message) (i : ℕ) (b : CoreView) (w x : List Message) → CanRun a from until inbox → IsTaking a from until inbox i b w x → b.now ≤ until
taking-until a from until inbox i b w x may h = (h.taking may.s may.core may.trace may.steps may.mail may.stands may.fit).until_then

-- up to the cycle of the next message
has_taken-on : (a : CoreView) (from until : ℕ) (inbox : List Message) (i : ℕ) (b d : CoreView) (x y : List Message) (m : Message) → a.now ≡ from → b.now ≤ m.arrival → IsAt inbox i m
    → HasTaken a from until inbox i b x → Sends (m.arrival - b.now) b d y → HasTaken a from until inbox i d (x ++ y)
has_taken-on a from until inbox i b d x y m start l at h adv s core trace steps mail st fit =
    goes_on s core trace steps mail from until inbox i b d x y m.arrival (sym st.now ∙ start) (h s core trace steps mail st fit) l
    (omega (arith, Each-at (λ (n : Message). n.arrival < until) inbox i m (Each-drop (λ (n : Message). n.arrival < until) inbox i fit.until_then) at))
    (next_first inbox i m fit.in_order at) adv

pub taking-on : (a : CoreView) (from until : ℕ) (inbox : List Message) (i : ℕ) (b d : CoreView) (w x y : List Message) (m : Message) → a.now ≡ from → b.now ≤ m.arrival → IsAt inbox i m
    → IsTaking a from until inbox i b w x → Advances (m.arrival - b.now) b x d y → IsTaking a from until inbox i d w y
taking-on a from until inbox i b d w x y m start l at h adv =
    record {
      sent = h.sent ++ adv.sent;
      behind = adv.behind ∙ ap (λ l. l ++ adv.sent) h.behind ∙ append_assoc w h.sent adv.sent;
      taking = has_taken-on a from until inbox i b d h.sent adv.sent m start l at h.taking adv.sends;
    }

pub taking-receives : (a : CoreView) (from until : ℕ) (inbox : List Message) (i : ℕ) (d : CoreView) (w y : List Message) (m : Message) → CanRun a from until inbox → IsTaking a from until inbox i d w y
    → IsAt inbox i m → d.now ≡ m.arrival → IsReceiving d m
taking-receives a from until inbox i d w y m may h at now =
    let mid = h.taking may.s may.core may.trace may.steps may.mail may.stands may.fit in
    record {
      s = may.s;
      core = may.core;
      trace = may.trace;
      steps = core_run may.s may.core may.trace may.steps (may.mail ++ inbox) (d.now - from);
      mail = may.mail ++ take i inbox;
      stands = mid.stands;
      now = sym now ∙ mid.stands.now;
      due = may_take may.s may.core may.trace may.steps may.mail from until inbox i d h.sent m mid at now may.fit;
    }

has_taken-more : (a : CoreView) (from until : ℕ) (inbox : List Message) (i : ℕ) (d e : CoreView) (y : List Message) (m : Message) → HasTaken a from until inbox i d y
    → IsAt inbox i m → d.now ≡ m.arrival
    → ((s : Config) (core : ℕ) (trace : List Entry) (steps : List CoreStep) (mail : List Message) → StandsAt s core trace steps mail d → m.arrival ≡ length steps → MayCome s core trace steps mail m
    → StandsAt s core trace steps (mail ++ m ∷ []) e)
    → HasTaken a from until inbox (i + 1) e y
has_taken-more a from until inbox i d e y m h at now receives s core trace steps mail st fit =
    let mid = h s core trace steps mail st fit in
    takes s core trace steps mail from until inbox i d e y m mid at
    (receives s core trace _ _ mid.stands (sym now ∙ mid.stands.now) (may_take s core trace steps mail from until inbox i d y m mid at now fit))

pub taking-more : (a : CoreView) (from until : ℕ) (inbox : List Message) (i : ℕ) (d e : CoreView) (w y : List Message) (m : Message) → IsTaking a from until inbox i d w y
    → IsAt inbox i m → d.now ≡ m.arrival
    → ((s : Config) (core : ℕ) (trace : List Entry) (steps : List CoreStep) (mail : List Message) → StandsAt s core trace steps mail d → m.arrival ≡ length steps → MayCome s core trace steps mail m
    → StandsAt s core trace steps (mail ++ m ∷ []) e)
    → IsTaking a from until inbox (i + 1) e w y
taking-more a from until inbox i d e w y m h at now receives =
    record { sent = h.sent; behind = h.behind; taking = has_taken-more a from until inbox i d e h.sent m h.taking at now receives }

-- all messages are taken
has_taken-last : (a : CoreView) (from until : ℕ) (inbox : List Message) (i : ℕ) (b d : CoreView) (x y : List Message) → a.now ≡ from → b.now ≤ until → drop i inbox ≡ []
    → HasTaken a from until inbox i b x → Sends (until - b.now) b d y → RunsOver a from until inbox d (x ++ y)
has_taken-last a from until inbox i b d x y start l none h adv s core trace steps mail st fit =
    let before = h s core trace steps mail st fit in
    let len : length steps ≡ from = sym st.now ∙ start in
    let mid : IsMidway s core trace steps mail from until inbox i d (x ++ y) =
    goes_on s core trace steps mail from until inbox i b d x y until len before l (omega arith) (subst (Each (λ (m : Message). until ≤ m.arrival)) (sym none) tt) adv in
    let now : d.now ≡ until = now_at s core trace steps mail from until inbox i b d x y until len before l adv in
    let rows' = core_run s core trace steps (mail ++ inbox) (until - from) in
    let all : mail ++ take i inbox ≡ mail ++ inbox = ap (λ ms. mail ++ ms) (sym (append-nil (take i inbox)) ∙ ap (λ ms. take i inbox ++ ms) (sym none) ∙ take-drop-all inbox i) in
    let P : ℕ → List Message → Type 0 = λ k ms. StandsAt s core trace (core_run s core trace steps (mail ++ inbox) (k - from)) ms d in
    let st1 : P until (mail ++ take i inbox) = subst (λ k. P k (mail ++ take i inbox)) now mid.stands in
    let st2 : StandsAt s core trace rows' (mail ++ inbox) d = subst (λ ms. P until ms) all st1 in
    let long : length rows' ≡ until = sym st2.now ∙ now in (
      stands-for s core trace rows' (mail ++ inbox) d st2
          (Each-append (λ (m : Message). m.arrival < length rows') mail inbox
          (Each-weaker (λ (m : Message). m.arrival < length steps) (λ m. m.arrival < length rows') (λ m k. omega (arith, before.since)) mail st.before)
          (Each-weaker (λ (m : Message). m.arrival < until) (λ m. m.arrival < length rows') (λ m k. omega arith) inbox fit.until_then)),
      ap (λ k. core_messages s core trace (core_run s core trace steps (mail ++ inbox) (k - from))) (sym now) ∙ mid.messages,
    )

pub taking-last : (a : CoreView) (from until : ℕ) (inbox : List Message) (i : ℕ) (b d : CoreView) (w x y : List Message) → a.now ≡ from → b.now ≤ until → drop i inbox ≡ []
    → IsTaking a from until inbox i b w x → Advances (until - b.now) b x d y → RunsOnto a from until inbox d w y
taking-last a from until inbox i b d w x y start l none h adv =
    record {
      sent = h.sent ++ adv.sent;
      behind = adv.behind ∙ ap (λ l. l ++ adv.sent) h.behind ∙ append_assoc w h.sent adv.sent;
      runs = has_taken-last a from until inbox i b d h.sent adv.sent start l none h.taking adv.sends;
    }

-- a core that takes what arrives, by age, and what it has not taken yet
pub record IsTakingArriving (a : CoreView) (from until : ℕ) (arriving rest : Arriving) (b : CoreView) (held holds : List Message) : Type 0 where
  pub taken : ℕ
  pub left : all_arriving rest ≡ drop taken (all_arriving arriving)
  pub by_age : IsByAge rest.credits.now
  pub taking : IsTaking a from until (all_arriving arriving) taken b held holds
