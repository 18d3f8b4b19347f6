-- A number that is cut off at the limit of numbers, digit by digit.
use Rattle.std.proofs.Common.{◌≡◌, ℕ, ◌+◌, ◌-◌, ◌*◌, min, List, [], ◌∷◌, fold, arith, refl}
use Rattle.rule_check.specs.Numbers.{number_limit, with_digit, capped_digit, value_of}

capped : (limit n d : ℕ) → min (min n limit * 10 + d) limit ≡ min (n * 10 + d) limit
capped limit n d = omega arith

fold-capped : (a b : ℕ) (digits : List ℕ) → a ≡ min b number_limit → fold capped_digit a digits ≡ min (fold with_digit b digits) number_limit
fold-capped a b [] e = e
fold-capped a b (d ∷ digits) e = fold-capped (capped_digit a d) (with_digit b d) digits (rw e (capped number_limit b (d - 48)))

pub capped_value_is : (digits : List ℕ) → fold capped_digit 0 digits ≡ min (value_of digits) number_limit
unfolding value_of
capped_value_is digits = fold-capped 0 0 digits refl
