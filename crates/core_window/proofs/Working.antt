-- What a core finds out for a cycle is what it does.
use Rattle.std.proofs.Common.{◌≡◌, ℕ, ◌+◌, ◌-◌, ◌<◌, ◌≤◌, min, Bool, true, false, ◌&&◌, eqb, ltb, List, length, Option, Some, None, refl, sym, ap, subst, ◌∙◌, add-zero, arith, ⊎_elim}
use Rattle.std.specs.Prelude.{slice_get}
use Rattle.std.specs.Option.{IfSome}
use Rattle.std.specs.List.{AllByRecursion as Each}
use Rattle.std.proofs.lemmas.Bool.{cases_lt, lt-ltb, false≢true}
use Rattle.sim_base.specs.declared.config.Config.{Config}
use Rattle.sim_base.specs.History.{retired_before, issued_before, core_messages}
use Rattle.sim_base.specs.Places.{place_of}
use Rattle.sim_base.specs.Windows.{is_memory_in, lacks_credit, first_stop, stop_after, step_with, step}
use Rattle.sim_base.specs.declared.history.CoreStep.{CoreStep}
use Rattle.sim_base.specs.declared.message.Access.TheVariants as access
use Rattle.sim_base.specs.declared.message.Message.{Message}
use Rattle.sim_base.specs.declared.trace.Entry.{Entry}
use Rattle.sim_base.specs.declared.trace.Entry.TheVariants.{Plain, Read, Write}
use Rattle.sim_base.specs.declared.trace.Stop.{Stop}
use Rattle.cpu_trace.specs.declared.entries.MemoryEntry.{MemoryEntry}
use Rattle.statistics.specs.Cores.{core_stats}
use Rattle.statistics.specs.declared.cores.CoreStats.{CoreStats}
use Rattle.statistics.specs.declared.final_state.Credits.{Credits}
use Rattle.statistics.proofs.KeepsToTrace.{retires-le}
use Rattle.core_window.specs.Causes.{first_undone, issue_count}
use Rattle.core_window.specs.Inside.{credits_now, StandsAt, IsStanding, IsLike}
use Rattle.core_window.specs.Stands.{IsPast}
use Rattle.core_window.specs.OneCycle.{IsAhead, IsSeen, IsIssued, IsLast, MayIssue, IsWork, lacks_by}
use Rattle.core_window.specs.Views.{CoreView}
use Rattle.core_window.specs.Outstanding.{outstanding_reads}
use Rattle.core_window.specs.declared.outstanding.OutstandingRead.{OutstandingRead}
use Rattle.core_window.proofs.Retiring.{retires-by}
use Rattle.core_window.proofs.Stepping.{held-now, retired_of}

-- what a core finds out for a cycle
pub record Found (s : Config) (core : ℕ) (trace : List Entry) (mail sent : List Message) (now number before : ℕ) (outstanding : List OutstandingRead) (r first_at second_at : ℕ) (lacks : Bool) (m : ℕ) (why : Stop) (memory : Option MemoryEntry) : Type 0 where
  pub retired : r ≡ min s.width (first_undone number outstanding - before)
  pub ahead : IsAhead trace number first_at second_at
  pub credit : lacks ≡ (ltb first_at (length trace) && lacks_credit s core mail sent now (slice_get trace first_at))
  pub last : MayIssue s core trace mail sent now number (before + r) first_at second_at lacks → IsLast s core trace mail sent now number (before + r) first_at second_at lacks m why
  pub issues : IsIssued trace number m memory
  pub at : IfSome memory (λ e. e.number ≡ first_at)

-- the first Read that waits was issued
pub issued_of : (s : Config) (core : ℕ) (trace : List Entry) (steps : List CoreStep) (mail : List Message) (a : CoreView) → StandsAt s core trace steps mail a → a.stats.issued ≡ issued_before steps
unfolding core_stats
issued_of s core trace steps mail a h = ap (λ (x : CoreStats). x.issued) h.stats ∙ add-zero (issued_before steps)

-- what holds of the numbers of a core
pub record IsSound (a : CoreView) : Type 0 where
  pub issued : a.stats.issued ≤ length a.trace
  pub retired : a.stats.retired ≤ a.stats.issued
  pub window : a.stats.issued ≤ a.stats.retired + a.config.window
  pub channels : length a.credits ≡ a.config.channels

pub sound : (a : CoreView) → IsStanding a → IsSound a
sound a h =
    let s = h.stands in
    let i = issued_of h.s h.core h.trace h.steps h.mail a s in
    let r = retired_of h.s h.core h.trace h.steps h.mail a s in
    let t : length a.trace ≡ length h.trace = ap length s.entries in
    record { issued = omega (arith, s.past.issued); retired = omega (arith, s.past.retired); window = subst (λ (x : Config). a.stats.issued ≤ a.stats.retired + x.window) (sym s.config) (omega (arith, s.past.window)); channels = s.channels ∙ ap (λ (x : Config). x.channels) (sym s.config) }

-- an entry that waits was issued, and no entry that retired waits
undone_within : (s : Config) (core : ℕ) (trace : List Entry) (steps : List CoreStep) (mail : List Message) → IsPast s core trace steps mail
    → retired_before steps + min s.width (first_undone (issued_before steps) (outstanding_reads trace steps mail) - retired_before steps) ≤ issued_before steps
undone_within s core trace steps mail past =
    let e = retires-by s core trace steps mail past in
    omega (arith, retires-le s trace steps mail, past.retired)

lacks-false : (lacks b x : Bool) → lacks ≡ (b && x) → b ≡ true → (lacks ≡ true → ⊥) → x ≡ false
lacks-false lacks true true e t n = absurd (n e)
lacks-false lacks true false e t n = refl
lacks-false lacks false x e t n = absurd (false≢true t)

pub cycle_work-from : (s : Config) (core : ℕ) (trace : List Entry) (steps : List CoreStep) (mail : List Message) (r first_at second_at : ℕ) (lacks : Bool) (m : ℕ) (why : Stop) (memory : Option MemoryEntry)
    → IsPast s core trace steps mail
    → Found s core trace mail (core_messages s core trace steps) (length steps) (issued_before steps) (retired_before steps) (outstanding_reads trace steps mail) r first_at second_at lacks m why memory
    → IsWork s core trace steps mail (record { retired = r; issued = m }) why memory
unfolding step
cycle_work-from s core trace steps mail r first_at second_at lacks m why memory past found =
    record {
      does = ap does_with (retires-by s core trace steps mail past ∙ sym found.retired)
          ∙ ap (λ k. step_with r k (stop_after s core trace mail sent now first (before + r) k)) last.count
          ∙ ap (step_with r m) last.cause;
      window = last.window;
      issues = found.issues;
      credit = by memory found.issues found.at;
    }
  where
    sent : List Message
    sent = core_messages s core trace steps

    now : ℕ
    now = length steps

    first : ℕ
    first = issued_before steps

    before : ℕ
    before = retired_before steps

    does_with : ℕ → CoreStep × Stop
    does_with k = step_with k (first_stop s core trace mail sent now first (before + k)) (stop_after s core trace mail sent now first (before + k) (first_stop s core trace mail sent now first (before + k)))

    last : IsLast s core trace mail sent now first (before + r) first_at second_at lacks m why
    last = found.last (record {
      within = past.issued;
      retired = subst (λ k. before + k ≤ first) (sym found.retired) (undone_within s core trace steps mail past);
      window = omega (arith, past.window);
      ahead = found.ahead;
      credit = found.credit;
    })

    by : (o : Option MemoryEntry) → IsIssued trace first m o → IfSome o (λ e. e.number ≡ first_at) → IfSome o (λ e. lacks_credit s core mail sent now (Some e.entry) ≡ false)
    by None i a = tt
    by (Some e) i a =
        let inside : first_at < length trace = ⊎_elim (λ l. l) (λ g. let t = found.ahead.none g in absurd (omega (arith, i.is_below, last.second, found.ahead.first.is_within, a))) (cases_lt first_at (length trace)) in
        ap (lacks_credit s core mail sent now) (sym i.is_at ∙ ap (slice_get trace) a)
        ∙ lacks-false lacks (ltb first_at (length trace)) (lacks_credit s core mail sent now (slice_get trace first_at)) found.credit (lt-ltb first_at (length trace) inside)
        (λ t. omega (arith, last.first t, i.is_below, a))

pub cycle_work-is : (s : Config) (core : ℕ) (trace : List Entry) (steps : List CoreStep) (mail : List Message) (a v : CoreView) (r first_at second_at : ℕ) (lacks : Bool) (m : ℕ) (why : Stop) (memory : Option MemoryEntry)
    → IsLike a v → StandsAt s core trace steps mail v
    → Found a.config core a.trace mail (core_messages s core trace steps) (length steps) a.stats.issued a.stats.retired a.outstanding r first_at second_at lacks m why memory
    → IsWork s core trace steps mail (record { retired = r; issued = m }) why memory
cycle_work-is s core trace steps mail a v r first_at second_at lacks m why memory i h found =
    let P : Config → List Entry → ℕ → ℕ → List OutstandingRead → Type 0 =
    λ x t n b w. Found x core t mail (core_messages s core trace steps) (length steps) n b w r first_at second_at lacks m why memory in
    let f1 : P s a.trace a.stats.issued a.stats.retired a.outstanding = subst (λ x. P x a.trace a.stats.issued a.stats.retired a.outstanding) (sym i.config ∙ h.config) found in
    let f2 : P s trace a.stats.issued a.stats.retired a.outstanding = subst (λ x. P s x a.stats.issued a.stats.retired a.outstanding) (sym i.entries ∙ h.entries) f1 in
    let f3 : P s trace (issued_before steps) a.stats.retired a.outstanding = subst (λ x. P s trace x a.stats.retired a.outstanding) (sym i.issued ∙ issued_of s core trace steps mail v h) f2 in
    let f4 : P s trace (issued_before steps) (retired_before steps) a.outstanding = subst (λ x. P s trace (issued_before steps) x a.outstanding) (sym i.retired ∙ retired_of s core trace steps mail v h) f3 in
    let f5 : P s trace (issued_before steps) (retired_before steps) (outstanding_reads trace steps mail) = subst (λ x. P s trace (issued_before steps) (retired_before steps) x) (sym i.outstanding ∙ h.outstanding) f4 in
    cycle_work-from s core trace steps mail r first_at second_at lacks m why memory h.past f5

pub like-self : (a : CoreView) → IsLike a a
like-self a = record { config = refl; entries = refl; outstanding = refl; credits = refl; issued = refl; retired = refl }

-- whether the core lacks a credit, by those that it holds
lacks_credit-by : (s : Config) (core : ℕ) (trace : List Entry) (steps : List CoreStep) (mail : List Message) (entry : Entry) → Each (λ m. m.arrival ≤ length steps) mail
    → lacks_credit s core mail (core_messages s core trace steps) (length steps) (Some entry) ≡ lacks_by s (credits_now s core trace steps mail) entry
unfolding lacks_credit
lacks_credit-by s core trace steps mail Plain h = refl
lacks_credit-by s core trace steps mail (Read address) h = ap (λ n. eqb n 0) (held-now s core mail (core_messages s core trace steps) (place_of s address).channel access.Read (length steps) h)
lacks_credit-by s core trace steps mail (Write address) h = ap (λ n. eqb n 0) (held-now s core mail (core_messages s core trace steps) (place_of s address).channel access.Write (length steps) h)

-- what a core finds out of its credits
pub lacks_here : (s : Config) (core : ℕ) (trace : List Entry) (steps : List CoreStep) (mail : List Message) (a v : CoreView) (entry : Entry) (result : Bool) → IsLike a v → StandsAt s core trace steps mail v
    → ((held : ℕ → Credits) → ((channel : ℕ) → channel < a.config.channels → slice_get a.credits channel ≡ Some (held channel)) → result ≡ lacks_by a.config held entry)
    → result ≡ lacks_credit a.config core mail (core_messages s core trace steps) (length steps) (Some entry)
lacks_here s core trace steps mail a v entry result i h says =
    let config : a.config ≡ s = sym i.config ∙ h.config in
    says (credits_now s core trace steps mail) (λ channel l. ap (λ (cs : List Credits). slice_get cs channel) (sym i.credits) ∙ h.credits channel (subst (λ (x : Config). channel < x.channels) config l))
    ∙ ap (λ x. lacks_by x (credits_now s core trace steps mail) entry) config
    ∙ sym (lacks_credit-by s core trace steps mail entry h.past.arrived)
    ∙ ap (λ x. lacks_credit x core mail (core_messages s core trace steps) (length steps) (Some entry)) (sym config)

ahead_from : (trace : List Entry) (number first_at second_at : ℕ) → IsAhead trace number first_at second_at → number ≤ length trace → number ≤ second_at
ahead_from trace number first_at second_at h l =
    ⊎_elim (λ inside. omega (arith, h.first.is_from, (h.second inside).is_from)) (λ none. let e2 = h.none none in omega arith) (cases_lt first_at (length trace))

count_within : (width window number retired_by_end first_at second_at : ℕ) (lacks : Bool) → number ≤ second_at → number + issue_count width window number retired_by_end first_at second_at lacks ≤ second_at
count_within width window number retired_by_end first_at second_at true l = omega arith
count_within width window number retired_by_end first_at second_at false l = omega arith

-- no more entries issue than up to the second memory entry
pub issues_within : (trace : List Entry) (width window number retired_by_end first_at second_at m : ℕ) (lacks : Bool) → IsAhead trace number first_at second_at → number ≤ length trace
    → m ≡ issue_count width window number retired_by_end first_at second_at lacks → number + m ≤ second_at
issues_within trace width window number retired_by_end first_at second_at m lacks h l e =
    subst (λ k. number + k ≤ second_at) (sym e) (count_within width window number retired_by_end first_at second_at lacks (ahead_from trace number first_at second_at h l))

pub two_least : (trace : List Entry) (number first_at second_at : ℕ) → IsAhead trace number first_at second_at → second_at ≤ length trace
two_least trace number first_at second_at h = ⊎_elim (λ inside. (h.second inside).is_within) (λ none. let e = h.none none in omega arith) (cases_lt first_at (length trace))

-- a credit counts only where the first memory entry is near enough to issue
pub lazy-count : (trace : List Entry) (width window number retired_by_end first_at second_at : ℕ) (lacks full : Bool) → IsAhead trace number first_at second_at
    → (first_at < min (number + min width (window - (number - retired_by_end))) (length trace) → lacks ≡ full) → (min (number + min width (window - (number - retired_by_end))) (length trace) ≤ first_at → lacks ≡ false)
    → issue_count width window number retired_by_end first_at second_at lacks ≡ issue_count width window number retired_by_end first_at second_at full
lazy-count trace width window number retired_by_end first_at second_at lacks full ahead near far =
    let end : second_at ≤ length trace = two_least trace number first_at second_at ahead in
    ⊎_elim
    (λ l. ap (issue_count width window number retired_by_end first_at second_at) (near l))
    (λ g. ap (issue_count width window number retired_by_end first_at second_at) (far g) ∙ same full g end)
    (cases_lt first_at (min (number + min width (window - (number - retired_by_end))) (length trace)))
  where
    same : (b : Bool) → min (number + min width (window - (number - retired_by_end))) (length trace) ≤ first_at → second_at ≤ length trace → issue_count width window number retired_by_end first_at second_at false ≡ issue_count width window number retired_by_end first_at second_at b
    same true g end = omega arith
    same false g end = refl

-- the first memory entry ahead is the one that issues, if it is among those that issue
pub issued_seen : (trace : List Entry) (number first_at second_at count : ℕ) (entry : Entry) → IsSeen trace number first_at second_at entry → number + count ≤ second_at → first_at < number + count
    → IsIssued trace number count (Some (record { number = first_at; entry = entry }))
issued_seen trace number first_at second_at count entry h up below =
    let end : second_at ≤ length trace = two_least trace number first_at second_at h.ahead in
    let inside : first_at < length trace = omega arith in
    let second = h.ahead.second inside in
    record {
      is_from = h.ahead.first.is_from;
      is_below = below;
      is_at = h.is_at inside;
      is_read_or_write = sym (ap is_memory_in (h.is_at inside)) ∙ h.ahead.first.is_read_or_write inside;
      is_plain_before = h.ahead.first.is_plain_before;
      is_plain_after = λ k l b. second.is_plain_before k l (omega arith);
    }

pub none_seen : (trace : List Entry) (number first_at second_at count : ℕ) (entry : Entry) → IsSeen trace number first_at second_at entry → number + count ≤ first_at → IsIssued trace number count None
none_seen trace number first_at second_at count entry h up = λ k l b. h.ahead.first.is_plain_before k l (omega arith)
