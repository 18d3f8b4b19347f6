-- What a token writes, by the grammar and by its number.
use Rattle.std.proofs.Common.{◌≡◌, ℕ, ◌^◌, ◌<◌, ◌⊎◌, inl, inr, Bool, true, false, not, cond, ◌&&◌, ◌||◌, ltb, eqb, List, [], ◌∷◌, ◌++◌, length, drop, Result, Ok, Err, refl, sym, ap, ◌∙◌, arith, codes}
use Rattle.std.proofs.lemmas.Bool.{and_parts, and_left, and_right, ltb-true, lt-ltb, eqb-true, eqb-false, ne_eqb, false≢true, or_from, or_cases}
use Rattle.std.specs.Char.{digit_value, is_digit}
use Rattle.std.specs.List.{list_all}
use Rattle.std.specs.Str.Parse.{AllDigits, digits_value}
use Rattle.sim_base.specs.declared.fault.LineCause.{LineCause}
use Rattle.sim_base.specs.declared.fault.LineCause.TheVariants.{NotANumber, TooLarge}
use Rattle.sim_base.specs.TraceText.{numeral_of, is_hexadecimal, number_of}
use Rattle.sim_base.specs.TraceGrammar.{AreDigitsOf, WritesNumber}

list_all-from_digits : (radix : ℕ) (digits : List ℕ) → AllDigits radix digits → list_all (λ digit. is_digit digit radix) digits ≡ true
list_all-from_digits radix [] h = refl
list_all-from_digits radix (c ∷ digits) h = rw (lt-ltb (digit_value c) radix h.0) (list_all-from_digits radix digits h.1)

digits-from_list_all : (radix : ℕ) (digits : List ℕ) → list_all (λ digit. is_digit digit radix) digits ≡ true → AllDigits radix digits
digits-from_list_all radix [] h = tt
digits-from_list_all radix (c ∷ digits) h =
    let both = and_parts (is_digit c radix) (list_all (λ digit. is_digit digit radix) digits) h in
    (ltb-true (digit_value c) radix both.0, digits-from_list_all radix digits both.1)

-- digits that fit are a numeral
numeral_of-digits : (radix : ℕ) (digits : List ℕ) (number : ℕ) → AreDigitsOf radix digits number → numeral_of radix digits ≡ Ok number
unfolding numeral_of
numeral_of-digits radix digits number h =
    let some = ne_eqb (length digits) 0 (omega (arith, h.numeral.0)) in
    let all = list_all-from_digits radix digits h.numeral.1 in
    let fits : ltb number (2 ^ 64) ≡ true = lt-ltb number (2 ^ 64) h.fits in
    rw (some, all, h.value, fits) refl

numeral-tests : (none all fits : Bool) (value number : ℕ) → ◌≡◌ {A = Result ℕ LineCause} (cond (none || not all) (Err NotANumber) (cond fits (Ok value) (Err TooLarge))) (Ok number) → (none ≡ false) × (all ≡ true) × (fits ≡ true) × (value ≡ number)
numeral-tests true all fits value number h = cc
numeral-tests false false fits value number h = cc
numeral-tests false true true value number h = (refl, refl, refl, cc)
numeral-tests false true false value number h = cc

-- a numeral is digits that fit
AreDigitsOf-numeral : (radix : ℕ) (digits : List ℕ) (number : ℕ) → numeral_of radix digits ≡ Ok number → AreDigitsOf radix digits number
unfolding numeral_of
AreDigitsOf-numeral radix digits number h =
    let tests = numeral-tests (eqb (length digits) 0) (list_all (λ digit. is_digit digit radix) digits) (ltb (digits_value radix digits) (2 ^ 64)) (digits_value radix digits) number h in
    record {
      numeral = (omega (arith, eqb-false (length digits) 0 tests.0), digits-from_list_all radix digits tests.1);
      value = tests.3;
      fits = omega (arith, ltb-true (digits_value radix digits) (2 ^ 64) tests.2, tests.3);
    }

-- decimal digits have no mark
unmarked : (token : List ℕ) → AllDigits 10 token → is_hexadecimal token ≡ false
unfolding is_hexadecimal
unmarked [] h = refl
unmarked (c ∷ []) h = or_from (eqb 48 c && false) (eqb 48 c && false) (and_right (eqb 48 c) false refl) (and_right (eqb 48 c) false refl)
unmarked (c ∷ d ∷ token) h =
    let small : eqb 120 d ≡ false = ne_eqb 120 d (λ e. let digit : digit_value 120 < 10 = rw (← e) at h.1.0 in absurd (omega (arith, digit))) in
    let large : eqb 88 d ≡ false = ne_eqb 88 d (λ e. let digit : digit_value 88 < 10 = rw (← e) at h.1.0 in absurd (omega (arith, digit))) in
    or_from (eqb 48 c && (eqb 120 d && true)) (eqb 48 c && (eqb 88 d && true))
    (and_right (eqb 48 c) (eqb 120 d && true) (and_left (eqb 120 d) true small))
    (and_right (eqb 48 c) (eqb 88 d && true) (and_left (eqb 88 d) true large))

pub number_of-written : (token : List ℕ) (number : ℕ) → WritesNumber token number → number_of token ≡ Ok number
unfolding number_of is_hexadecimal
number_of-written token number (inl h) = rw (unmarked token h.numeral.1) (numeral_of-digits 10 token number h)
number_of-written token number (inr h) =
    let by_mark = λ (m : List ℕ) (e : h.mark ≡ m). ap number_of (h.parts ∙ ap (λ mark. mark ++ h.digits) e) in
    let last = numeral_of-digits 16 h.digits number h.are_digits in
    elim h.is_mark [ inl e ↦ by_mark (codes "0x") e ∙ last | inr e ↦ by_mark (codes "0X") e ∙ last ]

-- a mark and what follows it
abbrev IsMarked : List ℕ → Type 0
IsMarked token = (mark : List ℕ) × ((mark ≡ codes "0x") ⊎ (mark ≡ codes "0X")) × (token ≡ mark ++ drop 2 token)

two_bytes : (c d m : ℕ) (token : List ℕ) → (eqb 48 c && (eqb m d && true)) ≡ true → (c ∷ d ∷ token) ≡ (48 ∷ m ∷ token)
two_bytes c d m token h =
    let parts = and_parts (eqb 48 c) (eqb m d && true) h in
    let second = and_parts (eqb m d) true parts.1 in
    rw (sym (eqb-true 48 c parts.0), sym (eqb-true m d second.0)) refl

marked : (token : List ℕ) → is_hexadecimal token ≡ true → IsMarked token
unfolding is_hexadecimal
marked [] h = absurd (false≢true h)
marked (c ∷ []) h = absurd (false≢true (sym (or_from (eqb 48 c && false) (eqb 48 c && false) (and_right (eqb 48 c) false refl) (and_right (eqb 48 c) false refl)) ∙ h))
marked (c ∷ d ∷ token) h =
    elim (or_cases (eqb 48 c && (eqb 120 d && true)) (eqb 48 c && (eqb 88 d && true)) h) [
      | inl e ↦ (codes "0x", inl refl, two_bytes c d 120 token e)
      | inr e ↦ (codes "0X", inr refl, two_bytes c d 88 token e)
    ]

number_of-tests : (b : Bool) (token : List ℕ) (number : ℕ) → is_hexadecimal token ≡ b → cond b (numeral_of 16 (drop 2 token)) (numeral_of 10 token) ≡ Ok number → WritesNumber token number
number_of-tests true token number e h =
    let parts = marked token e in
    inr (record { mark = parts.0; digits = drop 2 token; is_mark = parts.1; parts = parts.2; are_digits = AreDigitsOf-numeral 16 (drop 2 token) number h })
number_of-tests false token number e h = inl (AreDigitsOf-numeral 10 token number h)

pub WritesNumber-number_of : (token : List ℕ) (number : ℕ) → number_of token ≡ Ok number → WritesNumber token number
unfolding number_of
WritesNumber-number_of token number h = number_of-tests (is_hexadecimal token) token number refl h
