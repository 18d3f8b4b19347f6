-- What a core issues in a cycle: at most one memory entry, for which it holds a credit.
use Rattle.std.proofs.Common.{◌≡◌, ℕ, zero, suc, ◌+◌, ◌-◌, ◌<◌, ◌≤◌, Bool, true, false, ◌&&◌, ◌||◌, cond, List, [], ◌∷◌, length, take, drop, Some, None, refl, sym, ap, subst, ◌∙◌, arith, zero-add}
use Rattle.std.specs.Prelude.{count_by, filter_map, slice_get, is_some}
use Rattle.std.specs.Option.{IfSome}
use Rattle.std.specs.List.{AllByRecursion as Each, list_any, enumerate_from}
use Rattle.std.proofs.lemmas.Bool.{true≢false}
use Rattle.sim_base.specs.declared.config.Config.{Config}
use Rattle.sim_base.specs.History.{request_of, requests_between, issued_before, retired_before, core_messages}
use Rattle.sim_base.specs.Windows.{is_memory, is_memory_in, has_memory, meets_memory, lacks_credit, stop_after, has_cause, first_stop, retires, step}
use Rattle.sim_base.specs.declared.history.CoreStep.{CoreStep}
use Rattle.sim_base.specs.declared.message.Message.{Message}
use Rattle.sim_base.specs.declared.trace.Entry.{Entry}
use Rattle.sim_base.specs.declared.trace.Entry.TheVariants.{Plain, Read, Write}
use Rattle.sim_base.specs.declared.trace.Stop.TheVariants as stop
use Rattle.sim_base.proofs.Each.{Each-filter_map}
use Rattle.sim_base.proofs.Lists.{count-cons}
use Rattle.laws.proofs.Lists.{take-enumerate, Each-enumerate_from, slice_get-take_drop, fails_before_first}
use Rattle.sim_base.proofs.Lists.{slice_get-drop}
use Rattle.statistics.proofs.Replies.{drop-enumerate_from}

no_stop : (a b c d e : Bool) → is_some (cond a (Some stop.End) (cond b (Some stop.Width) (cond c (Some stop.Window) (cond d (Some stop.Memory) (cond e (Some stop.Credit) None))))) ≡ false
    → (d ≡ false) × (e ≡ false)
no_stop true b c d e h = absurd (true≢false h)
no_stop false true c d e h = absurd (true≢false h)
no_stop false false true d e h = absurd (true≢false h)
no_stop false false false true e h = absurd (true≢false h)
no_stop false false false false true h = absurd (true≢false h)
no_stop false false false false false h = (refl, refl)

-- the j-th entry after those that were issued meets no memory entry of its cycle, and wants for no credit
abbrev pub GoesOn : Config → ℕ → List Entry → List CoreStep → List Message → ℕ → Type 0
GoesOn s core trace steps inbox j =
    (meets_memory trace (issued_before steps) j ≡ false)
    × (lacks_credit s core inbox (core_messages s core trace steps) (length steps) (slice_get trace (issued_before steps + j)) ≡ false)

pub goes_on : (s : Config) (core : ℕ) (trace : List Entry) (steps : List CoreStep) (inbox : List Message) (j : ℕ)
    → j < (step s core trace steps inbox).0.issued → GoesOn s core trace steps inbox j
unfolding step first_stop has_cause stop_after
goes_on s core trace steps inbox j l =
    let retired_by_end = retired_before steps + retires s trace steps inbox in
    let h : has_cause s core trace inbox (core_messages s core trace steps) (length steps) (issued_before steps) retired_by_end j ≡ false =
    fails_before_first (has_cause s core trace inbox (core_messages s core trace steps) (length steps) (issued_before steps) retired_by_end) s.width j l in
    no_stop _ _ _ _ _ h

-- the entries of a cycle, with their numbers
pub issued-each : (P : ℕ × Entry → Type 0) (trace : List Entry) (first end : ℕ)
    → ((j : ℕ) (e : Entry) → j < end - first → slice_get trace (first + j) ≡ Some e → P (first + j, e))
    → Each P (take (end - first) (drop first (enumerate_from 0 trace)))
issued-each P trace first end h =
    let m = end - first in
    subst (Each P)
    (sym (ap (take m) (drop-enumerate_from first 0 trace ∙ ap (λ i. enumerate_from i (drop first trace)) (zero-add first)) ∙ take-enumerate m first (drop first trace)))
    (Each-enumerate_from P first (take m (drop first trace)) (λ j e f. let k = slice_get-take_drop m first trace j e f in h j e k.0 k.1))

pub between-each : (P : Message → Type 0) (s : Config) (core : ℕ) (trace : List Entry) (cycle first end : ℕ)
    → ((j : ℕ) (e : Entry) → j < end - first → slice_get trace (first + j) ≡ Some e → IfSome (request_of s core cycle (first + j) e) P)
    → Each P (requests_between s core trace cycle first end)
unfolding requests_between
between-each P s core trace cycle first end h =
    Each-filter_map P (λ e. request_of s core cycle e.0 e.1) _
    (issued-each (λ (e : ℕ × Entry). IfSome (request_of s core cycle e.0 e.1) P) trace first end h)

-- of some entries in a row that do not meet a memory entry after another, at most one is a memory entry
one_memory : (xs : List Entry) (m : ℕ) (seen : Bool) → ((j : ℕ) → j < m → (is_memory_in (slice_get xs j) && (seen || list_any is_memory (take j xs))) ≡ false)
    → count_by is_memory (take m xs) + cond seen 1 0 ≤ 1
one_memory xs zero true h = omega arith
one_memory xs zero false h = omega arith
one_memory [] (suc m) true h = omega arith
one_memory [] (suc m) false h = omega arith
one_memory (Plain ∷ xs) (suc m) seen h =
    let rest : count_by is_memory (take m xs) + cond seen 1 0 ≤ 1 = one_memory xs m seen (λ j l. h (suc j) (omega arith)) in
    omega (arith, count-cons is_memory Plain (take m xs))
one_memory (Read address ∷ xs) (suc m) true h = absurd (true≢false (h 0 (omega arith)))
one_memory (Read address ∷ xs) (suc m) false h =
    let rest : count_by is_memory (take m xs) + 1 ≤ 1 = one_memory xs m true (λ j l. h (suc j) (omega arith)) in
    omega (arith, count-cons is_memory (Read address) (take m xs))
one_memory (Write address ∷ xs) (suc m) true h = absurd (true≢false (h 0 (omega arith)))
one_memory (Write address ∷ xs) (suc m) false h =
    let rest : count_by is_memory (take m xs) + 1 ≤ 1 = one_memory xs m true (λ j l. h (suc j) (omega arith)) in
    omega (arith, count-cons is_memory (Write address) (take m xs))

length-requests : (s : Config) (core cycle first : ℕ) (xs : List Entry)
    → length (filter_map (λ (e : ℕ × Entry). request_of s core cycle e.0 e.1) (enumerate_from first xs)) ≡ count_by is_memory xs
length-requests s core cycle first [] = refl
length-requests s core cycle first (Plain ∷ xs) = length-requests s core cycle (first + 1) xs ∙ sym (count-cons is_memory Plain xs ∙ zero-add _)
length-requests s core cycle first (Read address ∷ xs) =
    let rest = length-requests s core cycle (first + 1) xs in
    omega (arith, count-cons is_memory (Read address) xs)
length-requests s core cycle first (Write address ∷ xs) =
    let rest = length-requests s core cycle (first + 1) xs in
    omega (arith, count-cons is_memory (Write address) xs)

-- where no memory entry is met after another, there is at most one request
pub one_request : (s : Config) (core : ℕ) (trace : List Entry) (cycle first m : ℕ) → ((j : ℕ) → j < m → meets_memory trace first j ≡ false)
    → length (requests_between s core trace cycle first (first + m)) ≤ 1
unfolding requests_between meets_memory has_memory
one_request s core trace cycle first m h =
    let xs = drop first trace in
    let one : count_by is_memory (take m xs) + 0 ≤ 1 = one_memory xs m false (λ j l. ap (λ o. is_memory_in o && list_any is_memory (take j xs)) (slice_get-drop trace first j) ∙ h j l) in
    let e : first + m - first ≡ m = omega arith in
    let f : take (first + m - first) (drop first (enumerate_from 0 trace)) ≡ enumerate_from first (take m xs) =
    ap (λ k. take k (drop first (enumerate_from 0 trace))) e
    ∙ ap (take m) (drop-enumerate_from first 0 trace ∙ ap (λ i. enumerate_from i xs) (zero-add first)) ∙ take-enumerate m first xs in
    let g : length (filter_map (λ (e : ℕ × Entry). request_of s core cycle e.0 e.1) (take (first + m - first) (drop first (enumerate_from 0 trace)))) ≡ count_by is_memory (take m xs) =
    ap (λ es. length (filter_map (λ (e : ℕ × Entry). request_of s core cycle e.0 e.1) es)) f ∙ length-requests s core cycle first (take m xs) in
    omega arith
