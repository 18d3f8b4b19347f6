-- One bit of a word of 64 bits.
use Rattle.std.proofs.Common.{◌≡◌, ℕ, zero, suc, ◌+◌, ◌-◌, ◌/◌, ◌^◌, ◌<◌, ◌≤◌, ◌≢◌, min, max, ◌*◌, ◌%◌, w64, true, false, not, ◌&&◌, ◌||◌, eqb, bit_and, bit_or, refl, sym, ap, ◌∙◌, inl, inr, arith}
use Rattle.std.proofs.lemmas.Bool.{cases_lt, eq-eqb, eqb-true, true≢false}
use Rattle.std.proofs.lemmas.Nat.Bits.{bit_at_and, bit_at_or, bit_at_not, bit_at_above, bit_at-lt, bit_at-zero, bit_at-suc, bit_at_lowest, bit_at_clear_other, bit_at-trailing_zeros}
use Rattle.std.specs.Int.{bit_at, bit_not, trailing_zeros}

bit_cases : (a b : ℕ) → a < 2 → b < 2 → eqb (min a (1 - b)) 1 ≡ (eqb a 1 && not (eqb b 1))
bit_cases zero zero low high = refl
bit_cases zero (suc zero) low high = refl
bit_cases (suc zero) zero low high = refl
bit_cases (suc zero) (suc zero) low high = refl
bit_cases (suc (suc a)) b low high = absurd (omega arith)
bit_cases zero (suc (suc b)) low high = absurd (omega arith)
bit_cases (suc zero) (suc (suc b)) low high = absurd (omega arith)

-- no bit of a number from its width on
over : (a k : ℕ) → a < 2 ^ 64 → 64 ≤ k → bit_at a k ≡ 0
over a k short late = bit_at_above a 64 k short late

pub minus_bit : (a b k : ℕ) → a < 2 ^ 64 → b < 2 ^ 64 → eqb (bit_at (bit_and a (2 ^ 64 - 1 - b)) k) 1 ≡ (eqb (bit_at a k) 1 && not (eqb (bit_at b k) 1))
minus_bit a b k short other = elim (cases_lt k 64) [
  | inl below ↦
      ap (λ n. eqb n 1) (bit_at_and a (bit_not w64 b) k ∙ ap (min (bit_at a k)) (bit_at_not w64 b k other below))
      ∙ bit_cases (bit_at a k) (bit_at b k) (bit_at-lt a k) (bit_at-lt b k)
  | inr late ↦
      ap (λ n. eqb n 1) (bit_at_and a (bit_not w64 b) k ∙ ap (λ n. min n (bit_at (bit_not w64 b) k)) (over a k short late) ∙ none (bit_at (bit_not w64 b) k))
      ∙ sym (ap (λ n. eqb n 1 && not (eqb (bit_at b k) 1)) (over a k short late))
]
  where
    none : (n : ℕ) → min 0 n ≡ 0
    none n = omega arith

either_cases : (a b : ℕ) → a < 2 → b < 2 → eqb (max a b) 1 ≡ (eqb a 1 || eqb b 1)
either_cases zero zero low high = refl
either_cases zero (suc zero) low high = refl
either_cases (suc zero) zero low high = refl
either_cases (suc zero) (suc zero) low high = refl
either_cases (suc (suc a)) b low high = absurd (omega arith)
either_cases zero (suc (suc b)) low high = absurd (omega arith)
either_cases (suc zero) (suc (suc b)) low high = absurd (omega arith)

pub union_bit : (a b k : ℕ) → eqb (bit_at (bit_or a b) k) 1 ≡ (eqb (bit_at a k) 1 || eqb (bit_at b k) 1)
union_bit a b k = ap (λ n. eqb n 1) (bit_at_or a b k) ∙ either_cases (bit_at a k) (bit_at b k) (bit_at-lt a k) (bit_at-lt b k)

pub without_other : (a bank k : ℕ) → a < 2 ^ 64 → bank < 64 → k ≢ bank → bit_at (bit_and a (bit_not w64 (1 * 2 ^ bank % 2 ^ 64))) k ≡ bit_at a k
without_other a bank k short within apart = elim (cases_lt k 64) [
  | inl below ↦ bit_at_clear_other w64 a bank within k below apart
  | inr late ↦
      let m = bit_not w64 (1 * 2 ^ bank % 2 ^ 64) in
      bit_at_and a m k ∙ ap (λ n. min n (bit_at m k)) (over a k short late) ∙ none (bit_at m k) ∙ sym (over a k short late)
]
  where
    none : (n : ℕ) → min 0 n ≡ 0
    none n = omega arith

-- a word that is not 0 has a bit
pub some_bit : (a : ℕ) → a < 2 ^ 64 → eqb a 0 ≡ false → (k : ℕ) × (k < 64) × (eqb (bit_at a k) 1 ≡ true)
some_bit a short is =
    let more : 0 < a = positive a is in
    let low = bit_at-trailing_zeros w64 a more short in
    (trailing_zeros w64 a, low.0, eq-eqb (bit_at a (trailing_zeros w64 a)) 1 low.1)
  where
    positive : (a : ℕ) → eqb a 0 ≡ false → 0 < a
    positive zero is = absurd (true≢false is)
    positive (suc a) is = omega arith

has_bit : (a i : ℕ) → bit_at a i ≡ 1 → 0 < a
has_bit zero i one = let none = bit_at-zero i in absurd (omega arith)
has_bit (suc a) i one = omega arith

-- a number less by one does not have the lowest bit, and has the same bits above it
less_lowest : (a bank : ℕ) → bit_at a bank ≡ 1 → ((k : ℕ) → k < bank → bit_at a k ≡ 0) → (bit_at (a - 1) bank ≡ 0) × ((k : ℕ) → bank < k → bit_at (a - 1) k ≡ bit_at a k)
less_lowest a zero one none =
    let odd : a % 2 ≡ 1 = sym (bit_at_lowest a) ∙ one in
    let left : (a - 1) % 2 ≡ 0 = omega arith in
    (bit_at_lowest (a - 1) ∙ left, higher odd)
  where
    higher : a % 2 ≡ 1 → (k : ℕ) → 0 < k → bit_at (a - 1) k ≡ bit_at a k
    higher odd zero above = absurd (omega arith)
    higher odd (suc k) above =
        let half : (a - 1) / 2 ≡ a / 2 = omega arith in bit_at-suc (a - 1) k ∙ ap (λ n. bit_at n k) half ∙ sym (bit_at-suc a k)
less_lowest a (suc bank) one none =
    let even : a % 2 ≡ 0 = sym (bit_at_lowest a) ∙ none 0 (omega arith) in
    let more : 0 < a = has_bit a (suc bank) one in
    let half : (a - 1) / 2 ≡ a / 2 - 1 = omega arith in
    let rest = less_lowest (a / 2) bank (sym (bit_at-suc a bank) ∙ one) (λ k below. sym (bit_at-suc a k) ∙ none (suc k) (omega arith)) in
    (bit_at-suc (a - 1) bank ∙ ap (λ n. bit_at n bank) half ∙ rest.0, higher half rest.1)
  where
    higher : (a - 1) / 2 ≡ a / 2 - 1 → ((k : ℕ) → bank < k → bit_at (a / 2 - 1) k ≡ bit_at (a / 2) k) → (k : ℕ) → suc bank < k → bit_at (a - 1) k ≡ bit_at a k
    higher half rest zero above = absurd (omega arith)
    higher half rest (suc k) above = bit_at-suc (a - 1) k ∙ ap (λ n. bit_at n k) half ∙ rest k (omega arith) ∙ sym (bit_at-suc a k)

no_bit : (n : ℕ) → n < 2 → eqb n 1 ≡ false → n ≡ 0
no_bit zero few is = refl
no_bit (suc zero) few is = absurd (true≢false is)
no_bit (suc (suc n)) few is = absurd (omega arith)

none_with : (n m : ℕ) → m ≡ 0 → eqb (min n m) 1 ≡ false
none_with n m is = let none : min n m ≡ 0 = omega arith in ap (λ k. eqb k 1) none

none_below : (n m : ℕ) → n ≡ 0 → min n m ≡ n
none_below n m is = omega arith

same_both : (n m : ℕ) → m ≡ n → min n m ≡ n
same_both n m is = omega arith

-- the lowest bit of a word is taken out of it
pub lowest_out : (a bank : ℕ) → a < 2 ^ 64 → eqb (bit_at a bank) 1 ≡ true → ((k : ℕ) → k < bank → eqb (bit_at a k) 1 ≡ false)
    → (eqb (bit_at (bit_and a ((a + 18446744073709551615) % 18446744073709551616)) bank) 1 ≡ false)
    × ((k : ℕ) → k ≢ bank → eqb (bit_at (bit_and a ((a + 18446744073709551615) % 18446744073709551616)) k) 1 ≡ eqb (bit_at a k) 1)
lowest_out a bank short there first =
    let one : bit_at a bank ≡ 1 = eqb-true (bit_at a bank) 1 there in
    let more : 0 < a = has_bit a bank one in
    let less : (a + 18446744073709551615) % 18446744073709551616 ≡ a - 1 = omega arith in
    let none : (k : ℕ) → k < bank → bit_at a k ≡ 0 = λ k below. no_bit (bit_at a k) (bit_at-lt a k) (first k below) in
    let rest = less_lowest a bank one none in
    let bit : (k : ℕ) → bit_at (bit_and a ((a + 18446744073709551615) % 18446744073709551616)) k ≡ min (bit_at a k) (bit_at (a - 1) k) =
    λ k. ap (λ n. bit_at (bit_and a n) k) less ∙ bit_at_and a (a - 1) k in (
      ap (λ n. eqb n 1) (bit bank) ∙ none_with (bit_at a bank) (bit_at (a - 1) bank) rest.0,
      λ k apart. ap (λ n. eqb n 1) (bit k ∙ (elim (cases_lt k bank) [
        | inl below ↦ none_below (bit_at a k) (bit_at (a - 1) k) (none k below)
        | inr late ↦ same_both (bit_at a k) (bit_at (a - 1) k) (rest.1 k (above late apart))
      ])),
    )
  where
    above : {m n : ℕ} → n ≤ m → m ≢ n → n < m
    above {m} {n} late apart = elim (cases_lt n m) [
      | inl less ↦ less
      | inr more ↦ absurd (apart (omega arith))
    ]
