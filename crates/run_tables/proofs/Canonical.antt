-- Digits without a leading zero are those that a number is written in.
use Rattle.std.proofs.Common.{◌≡◌, ◌≢◌, ◌+◌, ◌-◌, ◌*◌, ◌/◌, ◌%◌, ◌^◌, ◌<◌, ◌≤◌, ◌∙◌, ℕ, true, List, [], ◌∷◌, ◌++◌, length, fold, slice_index, sym, ap, arith, append-nil, append_assoc}
use Rattle.std.specs.Char.{is_ascii_digit}
use Rattle.std.specs.Fmt.{decimal}
use Rattle.std.specs.List.{list_all}
use Rattle.std.proofs.lemmas.Bool.{and_parts}
use Rattle.std.proofs.lemmas.Fmt.{decimal_digit, decimal_step_wide}
use Rattle.rule_check.specs.Numbers.{with_digit, value_of}

-- more digits write no lesser number
grows : (n : ℕ) (digits : List ℕ) → n ≤ fold with_digit n digits
grows n [] = omega arith
grows n (c ∷ digits) = let more = grows (with_digit n c) digits in omega (arith, more)

pub digit-range : (c : ℕ) → is_ascii_digit c ≡ true → (48 ≤ c) × (c ≤ 57)
digit-range c h = grind (arith, h)

-- digits after those of a number
digits-after : (n : ℕ) (digits : List ℕ) → 0 < n → list_all is_ascii_digit digits ≡ true → fold with_digit n digits < 10 ^ 64 → decimal (fold with_digit n digits) ≡ decimal n ++ digits
digits-after n [] some all few = sym (append-nil (decimal n))
digits-after n (c ∷ digits) some all few =
    let parts = and_parts (is_ascii_digit c) (list_all is_ascii_digit digits) all in
    let range = digit-range c parts.0 in
    let next = n * 10 + (c - 48) in
    let grown = grows next digits in
    let tens : next / 10 ≡ n = omega (arith, range) in
    let ones : 48 + next % 10 ≡ c = omega (arith, range) in
    digits-after next digits (omega arith) parts.1 few
    ∙ ap (λ (t : List ℕ). t ++ digits) (decimal_step_wide next (omega arith) (omega (arith, grown, few)) ∙ ap (λ k. decimal k ++ (48 + next % 10) ∷ []) tens ∙ ap (λ k. decimal n ++ k ∷ []) ones)
    ∙ append_assoc (decimal n) (c ∷ []) digits

-- digits of which the first is no zero, or the only one
pub canonical_is : (digits : List ℕ) → list_all is_ascii_digit digits ≡ true → 0 < length digits → (1 < length digits → slice_index digits 0 ≢ 48) → value_of digits < 10 ^ 64 → digits ≡ decimal (value_of digits)
unfolding value_of
canonical_is [] all some first few = absurd (omega (arith, some))
canonical_is (c ∷ []) all some first few =
    let range = digit-range c (and_parts (is_ascii_digit c) true all).0 in
    let whole : 48 + (0 * 10 + (c - 48)) ≡ c = omega (arith, range) in
    sym (decimal_digit (0 * 10 + (c - 48)) (omega (arith, range)) ∙ ap (λ k. k ∷ []) whole)
canonical_is (c ∷ d ∷ digits) all some first few =
    let parts = and_parts (is_ascii_digit c) (list_all is_ascii_digit (d ∷ digits)) all in
    let range = digit-range c parts.0 in
    let not_zero = first (omega arith) in
    let whole : 48 + (0 * 10 + (c - 48)) ≡ c = omega (arith, range) in
    sym (digits-after (0 * 10 + (c - 48)) (d ∷ digits) (omega (arith, range, not_zero)) parts.1 few
    ∙ ap (λ (t : List ℕ). t ++ d ∷ digits) (decimal_digit (0 * 10 + (c - 48)) (omega (arith, range)) ∙ ap (λ k. k ∷ []) whole))
