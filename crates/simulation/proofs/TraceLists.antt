-- Traces read one after the other.
use Rattle.std.proofs.Common.{◌≡◌, ℕ, ◌+◌, ◌<◌, ◌≤◌, ◌^◌, Bool, true, false, cond, leb, List, [], ◌∷◌, ◌++◌, length, map, get_or, drop, Result, Ok, Err, ◌⊎◌, inl, inr, refl, sym, ap, subst, ◌∙◌, arith, add-one, append_assoc, drop-cons}
use Rattle.std.specs.Borrow.{Bor}
use Rattle.std.specs.Prelude.{Option}
use Rattle.std.proofs.Math.ListN.{drop_of_length-le, length-append}
use Rattle.std.proofs.Math.Seq.{get_or-append_seam}
use Rattle.std.proofs.lemmas.Bool.{cases_lt}
use Rattle.std.proofs.lemmas.List.{append-nil, get_or_append_left, get_or_default}
use Rattle.sim_base.specs.declared.fault.Fault.{Fault}
use Rattle.sim_base.specs.declared.trace.Entry.{Entry}
use Rattle.sim_base.specs.declared.fault.Fault.TheVariants.{TraceTooLong}
use Rattle.sim_base.specs.TraceText.{◌>>=◌, BadLine, in_trace, limited, trace_answer, trace_entries}
use Rattle.simulation.specs.Runs.{traces_of}
use Rattle.simulation.specs.Traces.{text_of, len_to_read, bytes_to_read, trace_in, IsTraceFor}
use Rattle.simulation.specs.declared.input.CoreTrace.{CoreTrace}
use Rattle.simulation.specs.declared.input.CoreTrace.TheVariants.{Own, SharedWith}
use Rattle.config_reader.proofs.TableViews.{prepend}

-- each of these traces is what the text of its core means
abbrev pub AreRead : List (List ℕ) → List (List Entry) → Type 0
AreRead texts traces =
    (k : ℕ) (text : List ℕ) (trace : List Entry) → k < length traces
    → trace_answer k (get_or texts k text) ≡ Ok (get_or traces k trace)

-- the texts from a number on
abbrev pub texts_from : List (Bor (List ℕ)) → ℕ → List (List ℕ)
texts_from texts i = map (λ t. t.now) (drop i texts)

pub prepend_none : (r : Result (List (List Entry)) Fault) → r ≡ prepend [] r
prepend_none (Ok ys) = refl
prepend_none (Err e) = refl

prepend_one : (ts : List (List Entry)) (t : List Entry) (r : Result (List (List Entry)) Fault) → prepend ts (r >>= (λ others. Ok (t ∷ others))) ≡ prepend (ts ++ t ∷ []) r
prepend_one ts t (Ok ys) = ap Ok (sym (append_assoc ts (t ∷ []) ys))
prepend_one ts t (Err e) = refl

traces_next : (texts : List (Bor (List ℕ))) (i : ℕ) (d : Bor (List ℕ)) → i < length texts
    → traces_of i (texts_from texts i) ≡ (trace_answer i (get_or texts i d).now >>= (λ first. traces_of (i + 1) (texts_from texts (i + 1)) >>= (λ others. Ok (first ∷ others))))
unfolding traces_of
traces_next texts i d l =
    ap (λ x. traces_of i (map (λ (t : Bor (List ℕ)). t.now) x)) (drop-cons texts i d l)
    ∙ ap (λ k. trace_answer i (get_or texts i d).now >>= (λ first. traces_of (i + 1) (map (λ (t : Bor (List ℕ)). t.now) (drop k texts)) >>= (λ others. Ok (first ∷ others)))) (sym (add-one i))

limited-any : (a b : ℕ) (short : Bool) (entries trace : List Entry) → cond {A = Result (List Entry) Fault} short (Ok entries) (Err (TraceTooLong a)) ≡ Ok trace → cond {A = Result (List Entry) Fault} short (Ok entries) (Err (TraceTooLong b)) ≡ Ok trace
limited-any a b true entries trace e = e
limited-any a b false entries trace e = cc e

-- a text that is some core's trace is that of every core
pub answer-any : (a b : ℕ) (text : List ℕ) (trace : List Entry) → trace_answer a text ≡ Ok trace → trace_answer b text ≡ Ok trace
unfolding trace_answer limited
answer-any a b text trace e = by (trace_entries text) e
  where
    by : (r : Result (List Entry) BadLine) → (in_trace a r >>= limited a) ≡ Ok trace → (in_trace b r >>= limited b) ≡ Ok trace
    by (Ok entries) e = limited-any a b (leb (length entries) (2 ^ 62)) entries trace e
    by (Err bad) e = cc e

-- the bytes of the next text that are read, and of those behind it
pub bytes-next : (texts : List (Bor (List ℕ))) (sources : List (Option ℕ)) (i : ℕ) (d : Bor (List ℕ)) (none : Option ℕ) → i < length texts → i < length sources
    → bytes_to_read (texts_from texts i) (drop i sources) ≡ len_to_read (get_or texts i d).now (get_or sources i none) + bytes_to_read (texts_from texts (i + 1)) (drop (i + 1) sources)
bytes-next texts sources i d none l m = rw (drop-cons texts i d l, drop-cons sources i none m, add-one i) refl

-- the trace of a core is what its text means, be it its own or that of an earlier core
pub answer-found : (texts : List (List ℕ)) (traces : List (List Entry)) (found : CoreTrace) → AreRead texts traces → IsTraceFor texts (length traces) found
    → trace_answer (length traces) (text_of texts (length traces)) ≡ Ok (trace_in traces found)
answer-found texts traces (Own trace) known is_for = is_for
answer-found texts traces (SharedWith first) known is_for =
    answer-any first (length traces) (text_of texts (length traces)) (trace_in traces (SharedWith first)) (ap (trace_answer first) (sym is_for.1) ∙ known first [] [] is_for.0)

-- with one trace more each is still what its text means
pub each-more : (texts : List (List ℕ)) (traces : List (List Entry)) (trace : List Entry) (d : List ℕ) → AreRead texts traces → length traces < length texts
    → trace_answer (length traces) (get_or texts (length traces) d) ≡ Ok trace → AreRead texts (traces ++ trace ∷ [])
each-more texts traces trace d known within read k text other l = by (cases_lt k (length traces))
  where
    by : (k < length traces) ⊎ (length traces ≤ k) → trace_answer k (get_or texts k text) ≡ Ok (get_or (traces ++ trace ∷ []) k other)
    by (inl m) = known k text other m ∙ ap Ok (sym (get_or_append_left traces (trace ∷ []) other k m))
    by (inr m) =
        let count : length (traces ++ trace ∷ []) ≡ length traces + 1 = length-append traces (trace ∷ []) in
        let last : length traces ≡ k = omega (arith, l, m, count) in
        let own : trace_answer (length traces) (get_or texts (length traces) text) ≡ Ok (get_or (traces ++ trace ∷ []) (length traces) other) =
        ap (trace_answer (length traces)) (get_or_default texts (length traces) text d within) ∙ read ∙ ap Ok (sym (get_or-append_seam traces trace [] other)) in
        subst (λ n. trace_answer n (get_or texts n text) ≡ Ok (get_or (traces ++ trace ∷ []) n other)) last own

-- a trace that is read
pub traces_here : (texts : List (Bor (List ℕ))) (ts : List (List Entry)) (i : ℕ) (d : Bor (List ℕ)) (t : List Entry) → i < length texts
    → trace_answer i (get_or texts i d).now ≡ Ok t
    → prepend ts (traces_of i (texts_from texts i)) ≡ prepend (ts ++ t ∷ []) (traces_of (i + 1) (texts_from texts (i + 1)))
traces_here texts ts i d t l e =
    ap (prepend ts) (traces_next texts i d l ∙ ap (λ r. r >>= (λ first. traces_of (i + 1) (texts_from texts (i + 1)) >>= (λ others. Ok (first ∷ others)))) e)
    ∙ prepend_one ts t (traces_of (i + 1) (texts_from texts (i + 1)))

-- a trace that is refused
pub refused_here : (texts : List (Bor (List ℕ))) (ts : List (List Entry)) (i : ℕ) (d : Bor (List ℕ)) (fault : Fault) → i < length texts
    → trace_answer i (get_or texts i d).now ≡ Err fault → prepend ts (traces_of i (texts_from texts i)) ≡ Err fault
refused_here texts ts i d fault l e =
    ap (prepend ts) (traces_next texts i d l ∙ ap (λ r. r >>= (λ first. traces_of (i + 1) (texts_from texts (i + 1)) >>= (λ others. Ok (first ∷ others)))) e)

-- no trace is left
pub traces_end : (texts : List (Bor (List ℕ))) (ts : List (List Entry)) (i : ℕ) → length texts ≤ i → prepend ts (traces_of i (texts_from texts i)) ≡ Ok ts
unfolding traces_of
traces_end texts ts i l =
    ap (λ x. prepend ts (traces_of i (map (λ (t : Bor (List ℕ)). t.now) x))) (drop_of_length-le texts l) ∙ ap Ok (append-nil ts)
