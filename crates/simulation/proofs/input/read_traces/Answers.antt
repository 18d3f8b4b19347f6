-- What was found for each core in turn is its trace, or the fault of its text.
use Rattle.std.proofs.Common.{◌≡◌, ◌+◌, ◌≤◌, ℕ, List, Bor, [], ◌∷◌, ◌++◌, Result, Ok, Err, length, get_or, vec_len, sym, ap, subst, ◌∙◌, arith, rules}
use Rattle.std.proofs.Math.ListN.{get_or-map}
use Rattle.std.proofs.lemmas.List.{length-map}
use Rattle.std.proofs.lemmas.List.FromFn.{length-range_with_len}
use Rattle.std.proofs.lemmas.Slice.Zip.{AllZip-long}
use Rattle.std.specs.List.{AllZip, range_with_len}
use Rattle.std.specs.Vec.Iter.{into_iter_items}
use Rattle.sim_base.specs.declared.fault.Fault.{Fault}
use Rattle.sim_base.specs.TraceText.{trace_answer}
use Rattle.simulation.specs.Runs.{traces_of}
use Rattle.sim_base.specs.Texts.{texts_of}
use Rattle.simulation.specs.Traces.{text_of, trace_in, IsFound, IsTraceFor}
use Rattle.simulation.specs.declared.input.CoreTrace.{CoreTrace}
use Rattle.simulation.proofs.TraceLists.{prepend_none, texts_from, traces_here, refused_here, traces_end, each-more, answer-found}
use Rattle.config_reader.proofs.TableViews.{prepend}
use Rattle.simulation.proofs.input.read_traces.Goals as goal

pub loop-found-init : goal.loop-found-init
loop-found-init g c =
    let texts = c.args.texts.now in
    let found = c.in_ok-found-items.found-items in
    let all : into_iter_items c.into_iter-found-iterator.result ≡ found.items = c.into_iter-found-iterator.ensures.into_iter_gives.0 in
    let count : length found.items ≡ length texts =
    AllZip-long (IsFound (texts_of texts)) (range_with_len 0 (length texts)) found.items (c.in_ok-found-items.ensures {u = tt}) ∙ length-range_with_len 0 (length texts) in
    rw (c.new-traces.ensures.items, c.new-traces.ensures.len, all) (record {
      read = prepend_none (traces_of 0 (texts_of texts));
      each = λ k text trace l. absurd (omega (arith, l));
      found = subst (λ n. AllZip (IsFound (texts_of texts)) (range_with_len 0 n) found.items) (sym count) (c.in_ok-found-items.ensures {u = tt});
      count = omega (arith, count);
      left = c.into_iter-found-iterator.ensures.into_iter_gives.1 ∙ search rules;
    })

-- what was found for the next core, and for those behind it
next_found : (texts : List (List ℕ)) (core : ℕ) (items rest : List (Result CoreTrace Fault)) (next : Result CoreTrace Fault) → items ≡ next ∷ rest
    → AllZip (IsFound texts) (range_with_len core (length items)) items
    → IsFound texts core next × AllZip (IsFound texts) (range_with_len (core + 1) (length rest)) rest
next_found texts core items rest next e h = rw e at h

pub returns-in-Err-clause-refused : goal.returns-in-Err-clause-refused
returns-in-Err-clause-refused g c = λ h.
    let texts = c.args.texts.now in
    let at = c.loop-found.invariant in
    let here = vec_len c.loop-found.traces in
    let none : Bor (List ℕ) = record { ref_ptr = (0, 0); now = [] } in
    let next = next_found (texts_of texts) here _ _ _ c.in-Some.ensures.steps.0 at.found in
    let some = ap length c.in-Some.ensures.steps.0 in
    let refused : IsFound (texts_of texts) here (Err c.in-Err.fault) = subst (IsFound (texts_of texts) here) c.in-Err.is next.0 in
    let e : trace_answer here (get_or texts here none).now ≡ Err c.in-Err.fault = ap (trace_answer here) (sym (get_or-map (λ (t : Bor (List ℕ)). t.now) texts here none)) ∙ refused h in
    at.read ∙ refused_here texts c.loop-found.traces.items here none c.in-Err.fault (omega (arith, at.count, some)) e

pub loop-found-preserved : goal.loop-found-preserved
loop-found-preserved g c =
    let texts = c.args.texts.now in
    let at = c.loop-found.invariant in
    let here = vec_len c.loop-found.traces in
    let none : Bor (List ℕ) = record { ref_ptr = (0, 0); now = [] } in
    let next = next_found (texts_of texts) here _ _ _ c.in-Some.ensures.steps.0 at.found in
    let some = ap length c.in-Some.ensures.steps.0 in
    let gone = c.in-Some.ensures.steps.1 in
    let is_for : IsTraceFor (texts_of texts) here c.in-Ok.found = subst (IsFound (texts_of texts) here) c.in-Ok.is next.0 in
    let same : length c.loop-found.traces.items ≡ here = ap length (sym c.deref-in-loop-found.ensures.value) ∙ c.deref-in-loop-found.ensures.len in
    let own : trace_answer (length c.loop-found.traces.items) (text_of (texts_of texts) (length c.loop-found.traces.items)) ≡ Ok c.in_ok-trace.trace =
    answer-found (texts_of texts) c.loop-found.traces.items c.in-Ok.found at.each (subst (λ n. IsTraceFor (texts_of texts) n c.in-Ok.found) (sym same) is_for)
    ∙ ap (λ ts. Ok (trace_in ts c.in-Ok.found)) (sym c.deref-in-loop-found.ensures.value) ∙ ap Ok (sym (c.in_ok-trace.ensures {u = tt})) in
    let e : trace_answer here (get_or texts here none).now ≡ Ok c.in_ok-trace.trace =
    ap (trace_answer here) (sym (get_or-map (λ (t : Bor (List ℕ)). t.now) texts here none)) ∙ subst (λ n. trace_answer n (text_of (texts_of texts) n) ≡ Ok c.in_ok-trace.trace) same own in
    let all : length (texts_of texts) ≡ length texts = length-map texts _ in
    let pushed : c.push.new.self.items ≡ c.loop-found.traces.items ++ c.in_ok-trace.trace ∷ [] = (c.in-Ok-push.ensures {u = tt}).items in
    let longer : vec_len c.push.new.self ≡ here + 1 = (c.in-Ok-push.ensures {u = tt}).len in
    record {
      read =
          at.read
          ∙ traces_here texts c.loop-found.traces.items here none c.in_ok-trace.trace (omega (arith, at.count, some)) e
          ∙ ap (λ ts. prepend ts (traces_of (here + 1) (texts_from texts (here + 1)))) (sym pushed)
          ∙ ap (λ n. prepend c.push.new.self.items (traces_of n (texts_from texts n))) (sym longer);
      each = rw pushed (each-more (texts_of texts) c.loop-found.traces.items c.in_ok-trace.trace [] at.each (omega (arith, all, same, at.count, some)) own);
      found = rw longer next.1;
      count = omega (arith, longer, at.count, some);
      left = omega (arith, at.left, gone, some);
    }

pub returns-clause-ok : goal.returns-clause-ok
returns-clause-ok g c =
    let texts = c.args.texts.now in
    let at = c.loop-found.invariant in
    let none = c.in-None.ensures.steps.0 in
    let end : length texts ≤ vec_len c.loop-found.traces = omega (arith, at.count, at.left, none) in
    at.read ∙ traces_end texts c.loop-found.traces.items (vec_len c.loop-found.traces) end
