-- How many entries retire, by the first Read that waits.
use Rattle.std.proofs.Common.{◌≡◌, ℕ, zero, suc, ◌+◌, ◌-◌, ◌<◌, ◌≤◌, min, Bool, true, false, cond, not, ◌&&◌, ◌||◌, List, [], ◌∷◌, ◌++◌, length, Option, Some, None, refl, sym, ap, ap₂, subst, ◌∙◌, arith}
use Rattle.std.specs.Prelude.{slice_get}
use Rattle.std.specs.List.{AllByRecursion as Each, filter_map, prefix_len, range_with_len, cons_option, list_any}
use Rattle.std.proofs.lemmas.Bool.{false≢true, le-leb}
use Rattle.std.proofs.lemmas.List.Elements.{filter_map-append}
use Rattle.std.proofs.lemmas.List.Folds.{length-prefix_len}
use Rattle.sim_base.specs.declared.config.Config.{Config}
use Rattle.sim_base.specs.Counts.{issue_cycle}
use Rattle.sim_base.specs.History.{below, retired_before, issued_before}
use Rattle.sim_base.specs.Windows.{is_reply_to, is_replied, is_done_as, is_done, done_from, retires}
use Rattle.sim_base.specs.declared.history.CoreStep.{CoreStep}
use Rattle.sim_base.specs.declared.message.Message.{Message}
use Rattle.sim_base.specs.declared.trace.Entry.{Entry}
use Rattle.sim_base.specs.declared.trace.Entry.TheVariants.{Plain, Read, Write}
use Rattle.core_window.specs.declared.outstanding.OutstandingRead.{OutstandingRead}
use Rattle.core_window.specs.Causes.{first_undone}
use Rattle.core_window.specs.Stands.{IsPast}
use Rattle.core_window.specs.Outstanding.{is_read_in, is_read_at, is_answered, outstanding_read, outstanding_reads}
use Rattle.core_window.proofs.Ranges.{range-add, filter_map_range-none}

-- all of the mail has arrived
pub replied-answered : (mail : List Message) (now entry : ℕ) → Each (λ m. m.arrival ≤ now) mail → is_replied mail now entry ≡ is_answered mail entry
unfolding is_replied is_answered
replied-answered [] now entry h = refl
replied-answered (m ∷ mail) now entry h =
    ap₂ (λ a b. (is_reply_to entry m.payload && a) || b) (le-leb m.arrival now h.0) (replied-answered mail now entry h.1)
    ∙ ap (λ a. a || list_any (λ (x : Message). is_reply_to entry x.payload) mail) (and_true (is_reply_to entry m.payload))
  where
    and_true : (b : Bool) → (b && true) ≡ b
    and_true true = refl
    and_true false = refl

-- an entry is done, or it waits
data DoneOrWaits (trace : List Entry) (steps : List CoreStep) (mail : List Message) (now entry : ℕ) : Type 0 where
  is_done_here : is_done trace mail now entry ≡ true → outstanding_read trace steps mail entry ≡ None → DoneOrWaits trace steps mail now entry
  waits_here : is_done trace mail now entry ≡ false → outstanding_read trace steps mail entry ≡ Some (record { entry = entry; issued = issue_cycle steps entry }) → DoneOrWaits trace steps mail now entry

done_or_waits : (trace : List Entry) (steps : List CoreStep) (mail : List Message) (now entry : ℕ) → Each (λ m. m.arrival ≤ now) mail → entry < length trace → DoneOrWaits trace steps mail now entry
unfolding is_done outstanding_read
done_or_waits trace steps mail now entry h l = by (slice_get trace entry) refl
  where
    none_within : (xs : List Entry) (k : ℕ) → k < length xs → slice_get xs k ≡ None → ⊥
    none_within [] k l e = omega arith
    none_within (x ∷ xs) zero l e = cc
    none_within (x ∷ xs) (suc k) l e = none_within xs k (omega arith) e

    read : (b : Bool) → is_answered mail entry ≡ b → (a : ℕ) → slice_get trace entry ≡ Some (Read a) → DoneOrWaits trace steps mail now entry
    read true e a is =
        is_done_here (ap (is_done_as mail now entry) is ∙ replied-answered mail now entry h ∙ e)
        (ap₂ (λ o b. cond (is_read_in o && not b) (Some (record { entry = entry; issued = issue_cycle steps entry })) None) is e)
    read false e a is =
        waits_here (ap (is_done_as mail now entry) is ∙ replied-answered mail now entry h ∙ e)
        (ap₂ (λ o b. cond (is_read_in o && not b) (Some (record { entry = entry; issued = issue_cycle steps entry })) None) is e)

    by : (o : Option Entry) → slice_get trace entry ≡ o → DoneOrWaits trace steps mail now entry
    by (Some (Read a)) is = read (is_answered mail entry) refl a is
    by (Some (Write a)) is =
        is_done_here (ap (is_done_as mail now entry) is)
        (ap (λ o. cond (is_read_in o && not (is_answered mail entry)) (Some (record { entry = entry; issued = issue_cycle steps entry })) None) is)
    by (Some Plain) is =
        is_done_here (ap (is_done_as mail now entry) is)
        (ap (λ o. cond (is_read_in o && not (is_answered mail entry)) (Some (record { entry = entry; issued = issue_cycle steps entry })) None) is)
    by None is = absurd (none_within trace entry l is)

-- where the first Read that waits stands
record Bounds (a b n : ℕ) : Type 0 where
  low : a ≤ n
  high : n ≤ b

first_undone-bounds : (trace : List Entry) (steps : List CoreStep) (mail : List Message) (n a : ℕ)
    → Bounds a (a + n) (first_undone (a + n) (filter_map (outstanding_read trace steps mail) (range_with_len a n)))
unfolding outstanding_read
first_undone-bounds trace steps mail zero a = record { low = omega arith; high = omega arith }
first_undone-bounds trace steps mail (suc n) a =
    let e : a + 1 + n ≡ a + suc n = omega arith in
    let h : Bounds (a + 1) (a + 1 + n) (first_undone (a + 1 + n) rest) = first_undone-bounds trace steps mail n (a + 1) in
    by (subst (λ m. Bounds (a + 1) m (first_undone m rest)) e h) (is_read_at trace a && not (is_answered mail a))
  where
    rest : List OutstandingRead
    rest = filter_map (outstanding_read trace steps mail) (range_with_len (a + 1) n)

    by : Bounds (a + 1) (a + suc n) (first_undone (a + suc n) rest) → (b : Bool)
        → Bounds a (a + suc n) (first_undone (a + suc n) (cons_option (cond b (Some (record { entry = a; issued = issue_cycle steps a })) None) rest))
    by h true = record { low = omega arith; high = omega arith }
    by h false = record { low = omega arith; high = omega arith }

prefix_by : (trace : List Entry) (steps : List CoreStep) (mail : List Message) (now : ℕ) → Each (λ m. m.arrival ≤ now) mail → (n a k : ℕ) → a + n ≤ length trace → k ≤ n
    → prefix_len (is_done trace mail now) (range_with_len a k) ≡ min k (first_undone (a + n) (filter_map (outstanding_read trace steps mail) (range_with_len a n)) - a)
prefix_by trace steps mail now h n a zero l b = omega arith
prefix_by trace steps mail now h zero a (suc k) l b = absurd (omega arith)
prefix_by trace steps mail now h (suc n) a (suc k) l b = by (prefix_by trace steps mail now h n (a + 1) k (omega arith) (omega arith)) (done_or_waits trace steps mail now a h (omega arith))
  where
    f : ℕ → Option OutstandingRead
    f = outstanding_read trace steps mail

    rest : List OutstandingRead
    rest = filter_map (outstanding_read trace steps mail) (range_with_len (a + 1) n)

    more : ℕ
    more = prefix_len (is_done trace mail now) (range_with_len (a + 1) k)

    by : more ≡ min k (first_undone (a + 1 + n) rest - (a + 1)) → DoneOrWaits trace steps mail now a → cond (is_done trace mail now a) (1 + more) 0 ≡ min (suc k) (first_undone (a + suc n) (cons_option (f a) rest) - a)
    by r (is_done_here d w) =
        let e : a + 1 + n ≡ a + suc n = omega arith in
        let le : Bounds (a + 1) (a + 1 + n) (first_undone (a + 1 + n) rest) = first_undone-bounds trace steps mail n (a + 1) in
        let x : 1 + more ≡ min (suc k) (first_undone (a + 1 + n) rest - a) = omega arith in
        ap (λ b. cond b (1 + more) 0) d ∙ x ∙ ap (λ m. min (suc k) (first_undone m rest - a)) e
        ∙ ap (λ o. min (suc k) (first_undone (a + suc n) (cons_option o rest) - a)) (sym w)
    by r (waits_here d w) =
        let x : 0 ≡ min (suc k) (a - a) = omega arith in
        ap (λ b. cond b (1 + more) 0) d ∙ x
        ∙ ap (λ o. min (suc k) (first_undone (a + suc n) (cons_option o rest) - a)) (sym w)

-- no Read that retired waits
outstanding-none : (trace : List Entry) (steps : List CoreStep) (mail : List Message) (entry : ℕ) → (is_read_at trace entry ≡ true → is_answered mail entry ≡ true)
    → outstanding_read trace steps mail entry ≡ None
unfolding outstanding_read
outstanding-none trace steps mail entry h = ap wait_if (by (is_read_at trace entry) (is_answered mail entry) h)
  where
    wait_if : Bool → Option OutstandingRead
    wait_if b = cond b (Some (record { entry = entry; issued = issue_cycle steps entry })) None

    by : (a b : Bool) → (a ≡ true → b ≡ true) → (a && not b) ≡ false
    by true true h = refl
    by true false h = absurd (false≢true (h refl))
    by false b h = refl

pub outstanding_reads-split : (trace : List Entry) (steps : List CoreStep) (mail : List Message) → retired_before steps ≤ issued_before steps
    → ((entry : ℕ) → entry < retired_before steps → is_read_at trace entry ≡ true → is_answered mail entry ≡ true)
    → outstanding_reads trace steps mail ≡ filter_map (outstanding_read trace steps mail) (range_with_len (retired_before steps) (issued_before steps - retired_before steps))
unfolding outstanding_reads
outstanding_reads-split trace steps mail l done =
    let f = outstanding_read trace steps mail in
    let e : issued_before steps ≡ retired_before steps + (issued_before steps - retired_before steps) = omega arith in
    let z : (k : ℕ) → 0 + k ≡ k = λ k. omega arith in
    ap (λ n. filter_map f (below n)) e
    ∙ ap (filter_map f) (range-add 0 (retired_before steps) (issued_before steps - retired_before steps))
    ∙ filter_map-append f (below (retired_before steps)) (range_with_len (0 + retired_before steps) (issued_before steps - retired_before steps))
    ∙ ap₂ (λ x y. x ++ filter_map f (range_with_len y (issued_before steps - retired_before steps)))
    (filter_map_range-none f 0 (retired_before steps) (λ k b. ap f (z k) ∙ outstanding-none trace steps mail k (done k b)))
    (z (retired_before steps))

pub retires-by : (s : Config) (core : ℕ) (trace : List Entry) (steps : List CoreStep) (mail : List Message) → IsPast s core trace steps mail
    → retires s trace steps mail ≡ min s.width (first_undone (issued_before steps) (outstanding_reads trace steps mail) - retired_before steps)
unfolding retires done_from
retires-by s core trace steps mail past =
    let first = retired_before steps in
    let n = issued_before steps - first in
    let most = min s.width n in
    let e : first + n ≡ issued_before steps = omega (arith, past.retired) in
    let r : prefix_len (is_done trace mail (length steps)) (range_with_len first most) ≡ min most (first_undone (first + n) (filter_map (outstanding_read trace steps mail) (range_with_len first n)) - first) =
    prefix_by trace steps mail (length steps) past.arrived n first most (omega (arith, past.issued)) (omega arith) in
    let up : first_undone (issued_before steps) (outstanding_reads trace steps mail) ≤ issued_before steps = undone-le in
    let same : first_undone (first + n) (filter_map (outstanding_read trace steps mail) (range_with_len first n)) ≡ first_undone (issued_before steps) (outstanding_reads trace steps mail) =
    ap₂ first_undone e (sym (outstanding_reads-split trace steps mail past.retired past.done)) in
    let m : min most (first_undone (issued_before steps) (outstanding_reads trace steps mail) - first) ≡ min s.width (first_undone (issued_before steps) (outstanding_reads trace steps mail) - first) = omega arith in
    length-prefix_len (is_done trace mail (length steps)) (range_with_len first most) ∙ r ∙ ap (λ x. min most (x - first)) same ∙ m
  where
    undone-le : first_undone (issued_before steps) (outstanding_reads trace steps mail) ≤ issued_before steps
    undone-le =
        let first = retired_before steps in
        let n = issued_before steps - first in
        let e : first + n ≡ issued_before steps = omega (arith, past.retired) in
        let b : Bounds first (first + n) (first_undone (first + n) (filter_map (outstanding_read trace steps mail) (range_with_len first n))) = first_undone-bounds trace steps mail n first in
        let same : first_undone (first + n) (filter_map (outstanding_read trace steps mail) (range_with_len first n)) ≡ first_undone (issued_before steps) (outstanding_reads trace steps mail) =
        ap₂ first_undone e (sym (outstanding_reads-split trace steps mail past.retired past.done)) in
        omega arith
