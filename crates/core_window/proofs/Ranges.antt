-- Numbers in a core_step, and what is found among them.
use Rattle.std.proofs.Common.{◌≡◌, ℕ, zero, suc, ◌+◌, ◌<◌, [], ◌∷◌, ◌++◌, Option, None, refl, sym, ap, ap₂, ◌∙◌, add-zero, zero-add, arith}
use Rattle.std.specs.Option.{option_to_list}
use Rattle.std.specs.List.{filter_map, range_with_len}
use Rattle.std.proofs.lemmas.List.Elements.{filter_map-append}
use Rattle.sim_base.proofs.Below.{range_more}
use Rattle.sim_base.proofs.Lists.{cons_option-none}

pub range-add : (a m n : ℕ) → range_with_len a (m + n) ≡ range_with_len a m ++ range_with_len (a + m) n
range-add a zero n = ap₂ range_with_len (sym (add-zero a)) (zero-add n)
range-add a (suc m) n =
    let e1 : suc m + n ≡ suc (m + n) = omega arith in
    let e2 : a + 1 + m ≡ a + suc m = omega arith in
    ap (range_with_len a) e1 ∙ ap (λ l. a ∷ l) (range-add (a + 1) m n ∙ ap (λ b. range_with_len (a + 1) m ++ range_with_len b n) e2)

pub filter_map_range-more : {X : Type 0} (f : ℕ → Option X) (a n : ℕ) → filter_map f (range_with_len a (suc n)) ≡ filter_map f (range_with_len a n) ++ option_to_list (f (a + n))
filter_map_range-more f a n =
    ap (filter_map f) (range_more a n) ∙ filter_map-append f (range_with_len a n) ((a + n) ∷ [])
    ∙ ap (λ l. filter_map f (range_with_len a n) ++ l) (cons_option-none (f (a + n)))

pub filter_map_range-same : {X : Type 0} (f g : ℕ → Option X) (a n : ℕ) → ((k : ℕ) → k < n → f (a + k) ≡ g (a + k)) → filter_map f (range_with_len a n) ≡ filter_map g (range_with_len a n)
filter_map_range-same f g a zero h = refl
filter_map_range-same f g a (suc n) h =
    filter_map_range-more f a n
    ∙ ap₂ (λ x y. x ++ option_to_list y) (filter_map_range-same f g a n (λ k l. h k (omega arith))) (h n (omega arith))
    ∙ sym (filter_map_range-more g a n)

pub filter_map_range-none : {X : Type 0} (f : ℕ → Option X) (a n : ℕ) → ((k : ℕ) → k < n → f (a + k) ≡ None) → filter_map f (range_with_len a n) ≡ []
filter_map_range-none f a zero h = refl
filter_map_range-none f a (suc n) h =
    filter_map_range-more f a n ∙ ap₂ (λ x y. x ++ option_to_list y) (filter_map_range-none f a n (λ k l. h k (omega arith))) (h n (omega arith))

-- where the first m numbers of a range pass a test, and the next does not, the front that passes has length m
