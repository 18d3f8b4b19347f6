-- The last field of a row.
use Rattle.std.proofs.Common.{◌≡◌, ℕ, List, [], ◌++◌, length, drop, ap, ◌∙◌, arith}
use Rattle.std.proofs.lemmas.List.{append-nil, drop_all}

-- nothing stands behind it
pub nothing_behind : (line : List ℕ) → length line ≡ 256 → drop 256 line ≡ []
nothing_behind line size = drop_all 256 line (omega (arith, size))

pub last_field : (text field line : List ℕ) → length line ≡ 256 → text ≡ field ++ drop 256 line → text ≡ field
last_field text field line size is = is ∙ ap (λ t. field ++ t) (nothing_behind line size) ∙ append-nil field
