-- Lists that are made of a part for each cycle.
use Rattle.std.proofs.Common.{◌≡◌, ℕ, zero, suc, ◌+◌, ◌<◌, ◌≤◌, List, [], ◌∷◌, ◌++◌, append_assoc, refl, sym, ap, ap₂, ◌∙◌, ◌⊎◌, inl, inr, arith}
use Rattle.std.specs.Prelude.{flat_map}
use Rattle.std.specs.List.{range_with_len}
use Rattle.std.proofs.lemmas.Bool.{cases_lt}

-- two functions that have the same part in each cycle make the same list
pub flat-same : {X : Type 0} (f g : ℕ → List X) (a n : ℕ) → ((t : ℕ) → a ≤ t → f t ≡ g t) → flat_map f (range_with_len a n) ≡ flat_map g (range_with_len a n)
flat-same f g a zero h = refl
flat-same f g a (suc n) h = ap₂ (λ x y. x ++ y) (h a (omega arith)) (flat-same f g (a + 1) n (λ t l. h t (omega (arith, l))))

-- parts with nothing in them
pub flat-none : {X : Type 0} (f : ℕ → List X) (a n : ℕ) → ((t : ℕ) → a ≤ t → f t ≡ []) → flat_map f (range_with_len a n) ≡ []
flat-none f a zero h = refl
flat-none f a (suc n) h = ap₂ (λ x y. x ++ y) (h a (omega arith)) (flat-none f (a + 1) n (λ t l. h t (omega (arith, l))))

-- the first element stands in the part of a cycle
pub flat-first : {X : Type 0} (f g : ℕ → List X) (x : X) (c : ℕ) → ((t : ℕ) → t < c → (f t ≡ []) × (g t ≡ [])) → f c ≡ x ∷ g c → ((t : ℕ) → c < t → f t ≡ g t)
    → (a n : ℕ) → a ≤ c → c < a + n → flat_map f (range_with_len a n) ≡ x ∷ flat_map g (range_with_len a n)
flat-first f g x c before here behind a zero l m = absurd (omega (arith, l, m))
flat-first f g x c before here behind a (suc n) l m = by (cases_lt a c) (λ k. flat-first f g x c before here behind (a + 1) n (omega (arith, k)) (omega (arith, m)))
  where
    by : (a < c) ⊎ (c ≤ a) → (a < c → flat_map f (range_with_len (a + 1) n) ≡ x ∷ flat_map g (range_with_len (a + 1) n)) → flat_map f (range_with_len a (suc n)) ≡ x ∷ flat_map g (range_with_len a (suc n))
    by (inl k) rest =
        ap₂ (λ y z. y ++ z) (before a k).0 (rest k)
        ∙ ap (λ y. x ∷ (y ++ flat_map g (range_with_len (a + 1) n))) (sym (before a k).1)
    by (inr k) rest =
        let e : c ≡ a = omega (arith, k, l) in
        ap₂ (λ y z. y ++ z) (ap f (sym e) ∙ here ∙ ap (λ t. x ∷ g t) e) (flat-same f g (a + 1) n (λ t j. behind t (omega (arith, e, j))))

-- the parts up to a cycle, and those behind it
pub flat-parts : {X : Type 0} (f g h : ℕ → List X) (c : ℕ) → ((t : ℕ) → t ≤ c → (g t ≡ f t) × (h t ≡ [])) → ((t : ℕ) → c < t → (g t ≡ []) × (h t ≡ f t))
    → (a n : ℕ) → flat_map f (range_with_len a n) ≡ flat_map g (range_with_len a n) ++ flat_map h (range_with_len a n)
flat-parts f g h c low high a zero = refl
flat-parts f g h c low high a (suc n) = by (cases_lt c a) (flat-parts f g h c low high (a + 1) n)
  where
    by : (c < a) ⊎ (a ≤ c) → flat_map f (range_with_len (a + 1) n) ≡ flat_map g (range_with_len (a + 1) n) ++ flat_map h (range_with_len (a + 1) n) → flat_map f (range_with_len a (suc n)) ≡ flat_map g (range_with_len a (suc n)) ++ flat_map h (range_with_len a (suc n))
    by (inl k) rest =
        sym (ap₂ (λ y z. y ++ z) (flat-none g a (suc n) (λ t l. (high t (omega (arith, k, l))).0)) (flat-same h f a (suc n) (λ t l. (high t (omega (arith, k, l))).1)))
    by (inr k) rest =
        let G = flat_map g (range_with_len (a + 1) n) in
        let H = flat_map h (range_with_len (a + 1) n) in
        ap₂ (λ y z. y ++ z) (sym (low a k).0) rest
        ∙ sym (append_assoc (g a) G H)
        ∙ ap (λ y. (g a ++ G) ++ (y ++ H)) (sym (low a k).1)
