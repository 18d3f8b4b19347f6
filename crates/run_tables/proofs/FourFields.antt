-- A record of four fields.
use Rattle.std.proofs.Common.{◌≡◌, ℕ, List, [], ◌∷◌, length, arith}
use Rattle.csv.specs.Records.{field_at}
use Rattle.rule_check.specs.Fields.{text_at}

-- its first three texts
pub three_texts : (fs : List (List ℕ)) (a b c : List ℕ) → length fs ≡ 4 → text_at fs 0 ≡ a → text_at fs 1 ≡ b → text_at fs 2 ≡ c → fs ≡ a ∷ b ∷ c ∷ text_at fs 3 ∷ []
unfolding text_at field_at
three_texts [] a b c n x y z = absurd (omega (arith, n))
three_texts (f ∷ []) a b c n x y z = absurd (omega (arith, n))
three_texts (f ∷ g ∷ []) a b c n x y z = absurd (omega (arith, n))
three_texts (f ∷ g ∷ h ∷ []) a b c n x y z = absurd (omega (arith, n))
three_texts (f ∷ g ∷ h ∷ k ∷ []) a b c n x y z = cc (x, y, z)
three_texts (f ∷ g ∷ h ∷ k ∷ l ∷ rest) a b c n x y z = absurd (omega (arith, n))

-- all of its texts
pub four_texts : (fs : List (List ℕ)) (a b c d : List ℕ) → length fs ≡ 4 → text_at fs 0 ≡ a → text_at fs 1 ≡ b → text_at fs 2 ≡ c → text_at fs 3 ≡ d → fs ≡ a ∷ b ∷ c ∷ d ∷ []
four_texts fs a b c d n x y z w = cc (three_texts fs a b c n x y z, w)
