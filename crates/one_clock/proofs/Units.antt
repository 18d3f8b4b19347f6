-- A list with one element for each unit, in which the units below i have what they get next, and the others what they
-- had.
use Rattle.std.proofs.Common.{◌≡◌, ℕ, suc, Bool, ◌&&◌, Option, ◌+◌, ◌<◌, List, [], ◌∷◌, ◌++◌, length, map, get_or, drop, refl, sym, ap, ap₂, subst, ◌∙◌, ◌-◌, append_assoc, length-append, length-drop, zero-add, add-one, drop-cons, arith}
use Rattle.std.proofs.Math.ListN.{set, drop_of_length-le}
use Rattle.std.proofs.Math.Seq.{set-append_seam, get_or-append_seam}
use Rattle.std.proofs.lemmas.List.{append-nil}
use Rattle.std.proofs.lemmas.List.FromFn.{get_or-map-range_with_len}
use Rattle.std.proofs.Math.Bool.{and-true}
use Rattle.std.specs.Prelude.{filter_map}
use Rattle.std.specs.Option.{option_to_list}
use Rattle.std.specs.List.{list_all}
use Rattle.std.proofs.lemmas.List.Folds.{list_all-append}
use Rattle.std.proofs.lemmas.List.Elements.{filter_map-append}
use Rattle.sim_base.specs.History.{below}
use Rattle.sim_base.proofs.Below.{below_more as below_suc}
use Rattle.sim_base.proofs.Lists.{length-map_below, map_below-more, cons_option-none}

pub length_units : {X : Type 0} (xs : List X) (f : ℕ → X) (n : ℕ) → xs ≡ map f (below n) → length xs ≡ n
length_units xs f n e = ap length e ∙ length-map_below f n

pub at_unit : {X : Type 0} (f : ℕ → X) (n i : ℕ) (d : X) → i < n → get_or (map f (below n)) i d ≡ f i
at_unit f n i d l = get_or-map-range_with_len f 0 n i i d l (zero-add i)

pub at_unit_of : {X : Type 0} (xs : List X) (f : ℕ → X) (n i : ℕ) (d : X) → xs ≡ map f (below n) → i < n → get_or xs i d ≡ f i
at_unit_of xs f n i d e l = ap (λ x. get_or x i d) e ∙ at_unit f n i d l

pub below_units : {X : Type 0} (xs : List X) (f : ℕ → X) (n i : ℕ) → xs ≡ map f (below n) → i < n → i < length xs
below_units xs f n i e l = subst (λ k. i < k) (sym (length_units xs f n e)) l

-- the units below i have what they get next
unfoldable pub halfway : {X : Type 0} → (ℕ → X) → (ℕ → X) → ℕ → ℕ → List X
halfway new old n i = map new (below i) ++ drop i (map old (below n))

pub halfway_none : {X : Type 0} (new old : ℕ → X) (n : ℕ) → halfway new old n 0 ≡ map old (below n)
unfolding halfway
halfway_none new old n = refl

halfway_here : {X : Type 0} (new old : ℕ → X) (n i : ℕ) (d : X) → i < n → halfway new old n i ≡ map new (below i) ++ old i ∷ drop (i + 1) (map old (below n))
unfolding halfway
halfway_here new old n i d l =
    let h : i < length (map old (below n)) = subst (λ k. i < k) (sym (length-map_below old n)) l in
    ap (λ x. map new (below i) ++ x) (drop-cons (map old (below n)) i d h ∙ ap₂ (λ x k. x ∷ drop k (map old (below n))) (at_unit old n i d l) (sym (add-one i)))

pub halfway_at : {X : Type 0} (new old : ℕ → X) (n i : ℕ) (d : X) → i < n → get_or (halfway new old n i) i d ≡ old i
halfway_at new old n i d l =
    ap (λ x. get_or x i d) (halfway_here new old n i d l)
    ∙ ap (λ k. get_or (map new (below i) ++ old i ∷ drop (i + 1) (map old (below n))) k d) (sym (length-map_below new i))
    ∙ get_or-append_seam (map new (below i)) (old i) _ d

pub below_halfway : {X : Type 0} (xs : List X) (new old : ℕ → X) (n i : ℕ) → xs ≡ halfway new old n i → i < n → i < length xs
unfolding halfway
below_halfway xs new old n i e l =
    let a : length (map new (below i)) ≡ i = length-map_below new i in
    let b : length (map old (below n)) ≡ n = length-map_below old n in
    let c : length (drop i (map old (below n))) ≡ length (map old (below n)) - i = length-drop i (map old (below n)) in
    let d : length (map new (below i) ++ drop i (map old (below n))) ≡ length (map new (below i)) + length (drop i (map old (below n))) = length-append (map new (below i)) _ in
    let h : length xs ≡ length (map new (below i) ++ drop i (map old (below n))) = ap length e in
    omega arith

pub halfway_more : {X : Type 0} (new old : ℕ → X) (n i : ℕ) (d : X) → i < n → set (halfway new old n i) i (new i) ≡ halfway new old n (i + 1)
unfolding halfway
halfway_more new old n i d l =
    let rest = drop (i + 1) (map old (below n)) in
    ap (λ x. set x i (new i)) (halfway_here new old n i d l)
    ∙ ap (λ k. set (map new (below i) ++ old i ∷ rest) k (new i)) (sym (length-map_below new i))
    ∙ set-append_seam (map new (below i)) (old i) rest (new i)
    ∙ sym (ap (λ x. x ++ rest) (map_below-more new i) ∙ append_assoc (map new (below i)) (new i ∷ []) rest)

pub halfway_all : {X : Type 0} (new old : ℕ → X) (n : ℕ) → halfway new old n n ≡ map new (below n)
unfolding halfway
halfway_all new old n =
    let e : length (map old (below n)) ≡ n = length-map_below old n in
    ap (λ x. map new (below n) ++ x) (drop_of_length-le (map old (below n)) (omega arith)) ∙ append-nil (map new (below n))

pub list_all_below_more : (p : ℕ → Bool) (n : ℕ) → list_all p (below (n + 1)) ≡ (list_all p (below n) && p n)
list_all_below_more p n = ap (λ k. list_all p (below k)) (add-one n) ∙ ap (list_all p) (below_suc n) ∙ list_all-append p (below n) (n ∷ []) ∙ ap (λ b. list_all p (below n) && b) (and-true (p n))

filter_map_below_suc : {X : Type 0} (f : ℕ → Option X) (n : ℕ) → filter_map f (below (suc n)) ≡ filter_map f (below n) ++ option_to_list (f n)
filter_map_below_suc f n = ap (filter_map f) (below_suc n) ∙ filter_map-append f (below n) (n ∷ []) ∙ ap (λ l. filter_map f (below n) ++ l) (cons_option-none (f n))

pub filter_map_below_more : {X : Type 0} (f : ℕ → Option X) (n : ℕ) → filter_map f (below (n + 1)) ≡ filter_map f (below n) ++ option_to_list (f n)
filter_map_below_more f n = ap (λ k. filter_map f (below k)) (add-one n) ∙ filter_map_below_suc f n
