-- Decimal digits are read as the number that they were written from.
use Rattle.std.proofs.Common.{◌≡◌, ℕ, ◌+◌, ◌%◌, ◌^◌, ◌<◌, ◌∙◌, ◌==◌, true, false, nat_lt, List, [], ◌∷◌, ◌++◌, length, Some, refl, arith}
use Rattle.std.specs.Char.{is_ascii_digit}
use Rattle.std.specs.List.{list_all}
use Rattle.std.specs.Fmt.{decimal}
use Rattle.std.proofs.lemmas.Bool.{ne_eqb, lt-ltb}
use Rattle.std.proofs.lemmas.Fmt.{decimal_by_steps, decimal_nonempty}
use Rattle.std.proofs.lemmas.List.Folds.{list_all-append}
use Rattle.std.proofs.lemmas.List.Sums.{fold-append}
use Rattle.rule_check.specs.Numbers.{with_digit, value_of, number_below}

digit : (d : ℕ) → d < 10 → is_ascii_digit (48 + d) ≡ true
digit d h = grind arith

value-push : (ds : List ℕ) (c : ℕ) → value_of (ds ++ (c ∷ [])) ≡ with_digit (value_of ds) c
unfolding value_of
value-push ds c = fold-append with_digit 0 ds (c ∷ [])

value-one : (d : ℕ) → value_of ((48 + d) ∷ []) ≡ d
unfolding value_of
value-one d = omega arith

-- digits that write a number
record Writes (n : ℕ) (ds : List ℕ) : Type 0 where
  digits : list_all is_ascii_digit ds ≡ true
  value : value_of ds ≡ n

decimal-writes : (n : ℕ) → n < 2 ^ 64 → Writes n (decimal n)
decimal-writes =
    decimal_by_steps Writes
    (λ n h. record { digits = rw (digit n h) refl; value = value-one n })
    (λ n ds h w. record {
      digits = list_all-append is_ascii_digit ds ((48 + n % 10) ∷ []) ∙ rw (w.digits, digit (n % 10) (omega arith)) refl;
      value = value-push ds (48 + n % 10) ∙ rw w.value (omega arith);
    })

-- a number is read back from its digits, below a limit that it is below
pub number-back : (limit n : ℕ) → n < limit → n < 2 ^ 64 → number_below limit (decimal n) ≡ Some n
unfolding number_below
number-back limit n h k =
    let w = decimal-writes n k in
    let some : (length (decimal n) == 0) ≡ false = ne_eqb (length (decimal n)) 0 (λ e. omega (arith, decimal_nonempty n k)) in
    let below : nat_lt n limit ≡ true = lt-ltb n limit h in
    rw (some, w.digits, w.value, below) refl
