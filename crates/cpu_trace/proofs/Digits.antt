-- Numbers, digit by digit.
use Rattle.std.proofs.Common.{◌≡◌, ℕ, ◌+◌, ◌*◌, ◌^◌, ◌<◌, ◌≤◌, Bool, true, false, ltb, List, length, get_or, take, Option, Some, None, option_and_then, Err, refl, sym, arith}
use Rattle.std.proofs.Math.Nat.{mul-le-mul_left}
use Rattle.std.proofs.lemmas.Bool.{ltb-true, ltb-false, lt-ltb, le-ltb, eq-eqb, ne_eqb}
use Rattle.std.proofs.lemmas.Int.Digits.{digits_value_more}
use Rattle.std.proofs.lemmas.List.Folds.{list_all_at}
use Rattle.std.specs.Char.{digit_value, is_digit}
use Rattle.std.specs.List.{list_all}
use Rattle.std.specs.Option.{ok_or}
use Rattle.std.specs.Str.Parse.{digits_value}
use Rattle.sim_base.specs.declared.fault.LineCause.TheVariants.{NotANumber, TooLarge}
use Rattle.sim_base.specs.TraceText.{numeral_of}
use Rattle.cpu_trace.specs.Numerals.{fitting}

pub fitting-below : (n : ℕ) → n < 2 ^ 64 → fitting n ≡ Some n
unfolding fitting
fitting-below n h = rw (lt-ltb n (2 ^ 64) h) refl

pub fitting-above : (n : ℕ) → 2 ^ 64 ≤ n → fitting n ≡ None
unfolding fitting
fitting-above n h = rw (le-ltb n (2 ^ 64) h) refl

-- a number that does not fit has no digit more that lets it fit
with_digit-cases : (n radix digit : ℕ) → 1 ≤ radix → (b : Bool) → ltb n (2 ^ 64) ≡ b → option_and_then (λ m. fitting (m * radix + digit)) (fitting n) ≡ fitting (n * radix + digit)
with_digit-cases n radix digit h true e = rw (fitting-below n (ltb-true n (2 ^ 64) e)) refl
with_digit-cases n radix digit h false e =
    let large : 2 ^ 64 ≤ n = ltb-false n (2 ^ 64) e in
    let times : n * 1 ≤ n * radix = mul-le-mul_left n h in
    rw (fitting-above n large) (sym (fitting-above (n * radix + digit) (omega (arith, times, large))))

pub fitting-more : (radix : ℕ) (digits : List ℕ) (i : ℕ) (number : Option ℕ) → 1 ≤ radix → i < length digits → number ≡ fitting (digits_value radix (take i digits)) → option_and_then (λ n. fitting (n * radix + digit_value (get_or digits i 0))) number ≡ fitting (digits_value radix (take (i + 1) digits))
fitting-more radix digits i number h lt e =
    rw (e, digits_value_more radix digits i lt) (with_digit-cases (digits_value radix (take i digits)) radix (digit_value (get_or digits i 0)) h _ refl)

-- what is no number, and what is one
pub numeral_of-empty : (radix : ℕ) (digits : List ℕ) → length digits ≡ 0 → numeral_of radix digits ≡ Err NotANumber
unfolding numeral_of
numeral_of-empty radix digits e = rw (eq-eqb (length digits) 0 e) refl

pub numeral_of-other : (radix : ℕ) (digits : List ℕ) (i : ℕ) → i < length digits → radix ≤ digit_value (get_or digits i 0) → numeral_of radix digits ≡ Err NotANumber
unfolding numeral_of
numeral_of-other radix digits i lt h =
    let some = ne_eqb (length digits) 0 (omega (arith, lt)) in
    let other = list_all_at (λ digit. is_digit digit radix) digits i 0 lt (le-ltb (digit_value (get_or digits i 0)) radix h) in
    rw (some, other) refl

numeral_of-cases : (radix : ℕ) (digits : List ℕ) → 0 < length digits → list_all (λ digit. is_digit digit radix) digits ≡ true → (b : Bool) → ltb (digits_value radix digits) (2 ^ 64) ≡ b → ok_or (fitting (digits_value radix digits)) TooLarge ≡ numeral_of radix digits
unfolding numeral_of
numeral_of-cases radix digits some h true e =
    rw (fitting-below (digits_value radix digits) (ltb-true (digits_value radix digits) (2 ^ 64) e), ne_eqb (length digits) 0 (omega (arith, some)), h, e) refl
numeral_of-cases radix digits some h false e =
    rw (fitting-above (digits_value radix digits) (ltb-false (digits_value radix digits) (2 ^ 64) e), ne_eqb (length digits) 0 (omega (arith, some)), h, e) refl

pub numeral_of-digits : (radix : ℕ) (digits : List ℕ) → 0 < length digits → list_all (λ digit. is_digit digit radix) digits ≡ true → ok_or (fitting (digits_value radix digits)) TooLarge ≡ numeral_of radix digits
numeral_of-digits radix digits some h = numeral_of-cases radix digits some h _ refl
