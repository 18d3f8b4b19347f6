-- Two lists that weigh the same, however their items are weighed, are one list in two orders.
use Rattle.std.proofs.Common.{◌≡◌, ℕ, zero, suc, ◌+◌, ◌<◌, Bool, true, false, cond, ◌&&◌, List, [], ◌∷◌, length, get_or, refl, ap, subst, arith, eqb, eqb-true, eq-eqb}
use Rattle.std.specs.Coded.{Coded}
use Rattle.std.specs.List.{remove, fold}
use Rattle.std.specs.List.Sorted.{IsPermutation}
use Rattle.std.proofs.lemmas.List.Sorted.{IsPermutation-refl, IsPermutation-cons, IsPermutation-sym, IsPermutation-trans, IsPermutation-remove, sum_by-IsPermutation}
use base.Stored.{Gv, gnil, gnum, gcons}
use Rattle.crew.specs.Rule.{weigh}
use Rattle.crew.proofs.Keeps.{weigh_ones}

-- two codes are the same
abbrev same : Gv → Gv → Bool
same gnil gnil = true
same gnil (gnum n) = false
same gnil (gcons a b) = false
same (gnum m) gnil = false
same (gnum m) (gnum n) = eqb m n
same (gnum m) (gcons a b) = false
same (gcons a b) gnil = false
same (gcons a b) (gnum n) = false
same (gcons a b) (gcons c d) = same a c && same b d

same_self : (a : Gv) → same a a ≡ true
same_self gnil = refl
same_self (gnum n) = eq-eqb n n refl
same_self (gcons a b) = rw (same_self a, same_self b) refl

both : (p q : Bool) → p && q ≡ true → (p ≡ true) × (q ≡ true)
both true q h = (refl, h)
both false q h = cc

same_is : (a b : Gv) → same a b ≡ true → a ≡ b
same_is gnil gnil h = refl
same_is gnil (gnum n) h = cc
same_is gnil (gcons a b) h = cc
same_is (gnum m) gnil h = cc
same_is (gnum m) (gnum n) h = ap (λ k. gnum k) (eqb-true m n h)
same_is (gnum m) (gcons a b) h = cc
same_is (gcons a b) gnil h = cc
same_is (gcons a b) (gnum n) h = cc
same_is (gcons a b) (gcons c d) h = let x = both _ _ h in let p = same_is a c x.0 in let q = same_is b d x.1 in λ i. gcons (p i) (q i)

none_left : {X : Type 0} (ys : List X) → 0 ≡ length ys → [] ≡ ys
none_left [] h = refl
none_left (y ∷ ys) h = absurd (omega arith)

module _ {X : Type 0} (c : Coded X) where
  abbrev is_it : X → X → ℕ
  is_it x y = cond (same (c.code x) (c.code y)) 1 0

  at_or_after : (x y : X) (ys : List X) (b : Bool) → same (c.code x) (c.code y) ≡ b → (0 < weigh (is_it x) ys → (i : ℕ) × (i < length ys) × (x ≡ get_or ys i x)) → 0 < cond b 1 0 + weigh (is_it x) ys
      → (i : ℕ) × (i < length (y ∷ ys)) × (x ≡ get_or (y ∷ ys) i x)
  at_or_after x y ys true e later h = (0, omega arith, c.inj x y (same_is _ _ e))
  at_or_after x y ys false e later h = let r = later (omega arith) in (suc r.0, (let l = r.1 in omega arith), r.2)

  -- an item that weighs something stands somewhere
  stands : (x : X) (ys : List X) → 0 < weigh (is_it x) ys → (i : ℕ) × (i < length ys) × (x ≡ get_or ys i x)
  stands x [] h = absurd (omega arith)
  stands x (y ∷ ys) h = at_or_after x y ys (same (c.code x) (c.code y)) refl (stands x ys) h

  weigh_remove : (h : X → ℕ) (ys : List X) (i : ℕ) (x : X) → i < length ys → x ≡ get_or ys i x → weigh h ys ≡ h x + weigh h (remove ys i)
  weigh_remove h [] i x low at = absurd (omega arith)
  weigh_remove h (y ∷ ys) zero x low at = let e = ap h at in omega arith
  weigh_remove h (y ∷ ys) (suc i) x low at = let r = weigh_remove h ys i x (omega arith) at in omega arith

  pub same_bag : (xs ys : List X) → ((h : X → ℕ) → weigh h ys ≡ weigh h xs) → IsPermutation xs ys
  same_bag [] ys same_weight = subst (λ (l : List X). IsPermutation [] l) (none_left ys (let one : X → ℕ = λ _. 1 in let s = same_weight one in omega (arith, weigh_ones ys))) (IsPermutation-refl [])
  same_bag (x ∷ xs) ys same_weight =
      let s = same_weight (is_it x) in
      let e : is_it x x ≡ 1 = ap (λ b. cond b 1 0) (same_self (c.code x)) in
      let at = stands x ys (omega arith) in
      let less : (h : X → ℕ) → weigh h (remove ys at.0) ≡ weigh h xs = λ h. let a = same_weight h in let b = weigh_remove h ys at.0 x at.1 at.2 in omega arith in
      IsPermutation-trans _ _ _ (IsPermutation-cons x _ _ (same_bag xs (remove ys at.0) less)) (IsPermutation-sym _ _ (IsPermutation-remove ys at.0 x at.1 at.2))

module _ {X : Type 0} (f : X → ℕ) where
  folded : (n : ℕ) (xs : List X) → fold (λ a x. a + f x) n xs ≡ n + weigh f xs
  folded n [] = omega arith
  folded n (x ∷ xs) = let r = folded (n + f x) xs in omega arith

  -- the order does not weigh
  pub weigh_permutation : (xs ys : List X) → IsPermutation xs ys → weigh f ys ≡ weigh f xs
  weigh_permutation xs ys h = let r = sum_by-IsPermutation f xs ys h in let a = folded 0 xs in let b = folded 0 ys in omega arith
