-- Tests, and lists of them.
use Rattle.std.proofs.Common.{◌≡◌, ℕ, zero, suc, ◌+◌, ◌<◌, Bool, true, false, ◌&&◌, ◌||◌, List, [], ◌∷◌, refl, sym, ap, ◌∙◌, arith}
use Rattle.std.proofs.lemmas.List.Folds.{list_any_at}
use Rattle.std.proofs.lemmas.List.FromFn.{length-range_with_len, get_or-range_with_len}
use Rattle.std.specs.List.{list_any, range_with_len}
use Rattle.std.proofs.Math.Bool.{or-false, or_assoc, and-false}
use Rattle.sim_base.specs.History.{below}

any_range_more : (p : ℕ → Bool) (a n : ℕ) → list_any p (range_with_len a (suc n)) ≡ (list_any p (range_with_len a n) || p (a + n))
any_range_more p a zero = let here : a ≡ a + 0 = omega arith in or-false (p a) ∙ ap p here
any_range_more p a (suc n) =
    let there : (a + 1) + n ≡ a + suc n = omega arith in
    ap (λ b. p a || b) (any_range_more p (a + 1) n ∙ ap (λ k. list_any p (range_with_len (a + 1) n) || p k) there)
    ∙ sym (or_assoc (p a) (list_any p (range_with_len (a + 1) n)) (p (a + suc n)))

pub any_below_more : (p : ℕ → Bool) (n : ℕ) → list_any p (below (n + 1)) ≡ (list_any p (below n) || p n)
any_below_more p n =
    let next : n + 1 ≡ suc n = omega arith in
    let here : 0 + n ≡ n = omega arith in
    ap (λ k. list_any p (range_with_len 0 k)) next ∙ any_range_more p 0 n ∙ ap (λ k. list_any p (range_with_len 0 n) || p k) here

pub any_below_at : (p : ℕ → Bool) (n k : ℕ) → k < n → p k ≡ true → list_any p (below n) ≡ true
any_below_at p n k exists holds =
    let there : 0 + k ≡ k = omega arith in
    list_any_at p (range_with_len 0 n) k 0 (omega (arith, length-range_with_len 0 n)) (ap p (get_or-range_with_len 0 n k 0 exists ∙ there) ∙ holds)

pub any_never : {X : Type 0} (p : X → Bool) (xs : List X) → list_any (λ x. p x && false) xs ≡ false
any_never p [] = refl
any_never p (x ∷ xs) = ap (λ b. b || list_any (λ y. p y && false) xs) (and-false (p x)) ∙ any_never p xs
