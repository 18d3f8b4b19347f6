-- Texts and searches with one part more.
use Rattle.std.proofs.Common.{◌≡◌, ℕ, ◌+◌, ◌/◌, ◌<◌, ◌≤◌, Bor, List, [], ◌∷◌, ◌++◌, length, map, get_or, ap, ◌∙◌, add-one}
use Rattle.std.specs.List.{flat_map, fold}
use Rattle.std.proofs.Math.Nat.{div-le_self}
use Rattle.std.proofs.lemmas.List.{get_or-map}
use Rattle.std.proofs.lemmas.List.Sums.{fold-append}
use Rattle.sim_base.specs.History.{below}
use Rattle.sim_base.proofs.Below.{below_more as below_suc}
use Rattle.sim_base.proofs.Lists.{flat_map_below-more}
use Rattle.compare.specs.Comparison.{name_text}

-- a search among numbers with one more
pub fold_below_more : {A : Type 0} (f : A → ℕ → A) (start : A) (n : ℕ) → fold f start (below (n + 1)) ≡ f (fold f start (below n)) n
fold_below_more f start n = ap (λ k. fold f start (below k)) (add-one n) ∙ ap (fold f start) (below_suc n) ∙ fold-append f start (below n) (n ∷ [])

-- one more name
pub names_more : (names : List (Bor (List ℕ))) (k : ℕ) (d : Bor (List ℕ)) → k < length names
    → flat_map (λ place. name_text (place + 1) (get_or (map (λ n. n.now) names) place [])) (below (k + 1))
    ≡ flat_map (λ place. name_text (place + 1) (get_or (map (λ n. n.now) names) place [])) (below k) ++ name_text (k + 1) (get_or names k d).now
names_more names k d within =
    flat_map_below-more (λ place. name_text (place + 1) (get_or (map (λ n. n.now) names) place [])) k
    ∙ ap (λ name. flat_map (λ place. name_text (place + 1) (get_or (map (λ n. n.now) names) place [])) (below k) ++ name_text (k + 1) name) (get_or-map (λ n. n.now) names k d [] within)

-- a quotient is no more than what is divided (by a name that a tactic can be given)
pub quotient_le : (n k : ℕ) → n / k ≤ n
quotient_le n k = div-le_self n k
