-- The requests that a core sends of some entries, and whether one of these is for memory, one entry more at a time.
use Rattle.std.proofs.Common.{◌≡◌, ℕ, suc, ◌+◌, ◌-◌, false, ◌||◌, List, [], ◌++◌, take, drop, Option, Some, None, refl, sym, ap, ap₂, ◌∙◌, zero-add, arith}
use Rattle.std.specs.Prelude.{filter_map, slice_get, option_map, option_and_then}
use Rattle.std.specs.Option.{option_to_list}
use Rattle.std.specs.List.{list_any, enumerate_from, cons_option}
use Rattle.std.proofs.lemmas.List.Elements.{filter_map-append}
use Rattle.sim_base.specs.declared.config.Config.{Config}
use Rattle.sim_base.specs.declared.trace.Entry.{Entry}
use Rattle.sim_base.specs.History.{request_of, requests_between}
use Rattle.sim_base.specs.Windows.{is_memory, is_memory_in}
use Rattle.sim_base.proofs.Lists.{take_more, slice_get-drop, slice_get-enumerate, cons_option-none}

one_request : (s : Config) (core cycle n : ℕ) (o : Option Entry)
    → filter_map (λ (e : ℕ × Entry). request_of s core cycle e.0 e.1) (option_to_list (option_map (λ x. (0 + n, x)) o)) ≡ option_to_list (option_and_then (request_of s core cycle n) o)
one_request s core cycle n None = refl
one_request s core cycle n (Some x) = ap (λ i. cons_option (request_of s core cycle i x) []) (zero-add n) ∙ cons_option-none (request_of s core cycle n x)

pub requests_between_none : (s : Config) (core : ℕ) (trace : List Entry) (cycle first : ℕ) → requests_between s core trace cycle first (first + 0) ≡ []
unfolding requests_between
requests_between_none s core trace cycle first =
    let e : first + 0 - first ≡ 0 = omega arith in
    ap (λ n. filter_map (λ (e : ℕ × Entry). request_of s core cycle e.0 e.1) (take n (drop first (enumerate_from 0 trace)))) e

pub requests_between_more : (s : Config) (core : ℕ) (trace : List Entry) (cycle first k : ℕ)
    → requests_between s core trace cycle first (first + suc k) ≡ requests_between s core trace cycle first (first + k) ++ option_to_list (option_and_then (request_of s core cycle (first + k)) (slice_get trace (first + k)))
unfolding requests_between
requests_between_more s core trace cycle first k =
    let es = drop first (enumerate_from 0 trace) in
    let f = λ (e : ℕ × Entry). request_of s core cycle e.0 e.1 in
    let e1 : first + suc k - first ≡ suc k = omega arith in
    let e2 : first + k - first ≡ k = omega arith in
    ap (λ n. filter_map f (take n es)) e1
    ∙ ap (filter_map f) (take_more es k)
    ∙ filter_map-append f (take k es) (option_to_list (slice_get es k))
    ∙ ap₂ (λ a b. a ++ b) (ap (λ n. filter_map f (take n es)) (sym e2))
    (ap (λ o. filter_map f (option_to_list o)) (slice_get-drop (enumerate_from 0 trace) first k ∙ slice_get-enumerate 0 trace (first + k))
    ∙ one_request s core cycle (first + k) (slice_get trace (first + k)))

pub one_memory : (o : Option Entry) → list_any is_memory (option_to_list o) ≡ (is_memory_in o || false)
one_memory None = refl
one_memory (Some e) = refl
