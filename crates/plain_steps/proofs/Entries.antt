-- The entries of a trace, one more at a time.
use Rattle.std.proofs.Common.{◌≡◌, ℕ, zero, suc, ◌+◌, ◌-◌, false, ◌||◌, List, [], ◌∷◌, take, drop, refl, sym, ap, ap₂, ◌∙◌}
use Rattle.std.specs.Prelude.{slice_get}
use Rattle.std.specs.Option.{option_to_list}
use Rattle.std.specs.List.{list_any}
use Rattle.std.proofs.lemmas.List.Folds.{list_any-append}
use Rattle.sim_base.specs.declared.trace.Entry.{Entry}
use Rattle.sim_base.specs.History.{below}
use Rattle.sim_base.specs.Windows.{is_memory, is_memory_in, has_memory}
use Rattle.sim_base.proofs.Below.{below_more}
use Rattle.sim_base.proofs.Lists.{take_more, slice_get-drop}
use Rattle.sim_base.proofs.Requested.{one_memory}

has_memory_below : (trace : List Entry) (first m : ℕ) → list_any (λ k. is_memory_in (slice_get trace (first + k))) (below m) ≡ list_any is_memory (take m (drop first trace))
has_memory_below trace first zero = refl
has_memory_below trace first (suc m) =
    let p = λ (k : ℕ). is_memory_in (slice_get trace (first + k)) in
    ap (list_any p) (below_more m)
    ∙ list_any-append p (below m) (m ∷ [])
    ∙ ap₂ (λ a b. a || b) (has_memory_below trace first m)
    (ap (λ o. is_memory_in o || false) (sym (slice_get-drop trace first m)) ∙ sym (one_memory (slice_get (drop first trace) m)))
    ∙ sym (list_any-append is_memory (take m (drop first trace)) (option_to_list (slice_get (drop first trace) m)))
    ∙ ap (list_any is_memory) (sym (take_more (drop first trace) m))

pub has_memory_numbers : (trace : List Entry) (first m : ℕ) → has_memory trace first m ≡ list_any (λ k. is_memory_in (slice_get trace (first + k))) (below m)
unfolding has_memory
has_memory_numbers trace first m = sym (has_memory_below trace first m)
