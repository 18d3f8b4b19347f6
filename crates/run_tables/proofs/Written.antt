-- Numbers and lines as they are written, and no others.
use Rattle.std.proofs.Common.{◌≡◌, ◌≢◌, ◌+◌, ◌/◌, ◌%◌, ◌^◌, ◌<◌, ◌≤◌, ◌&&◌, ◌==◌, ◌∙◌, ℕ, true, false, not, nat_lt, List, [], ◌∷◌, ◌++◌, length, length-append, fold, get_or, Some, None, Result, Ok, Err, refl, sym, ap, arith, inl, inr}
use Rattle.std.specs.Char.{is_ascii_digit}
use Rattle.std.specs.Fmt.{decimal}
use Rattle.std.specs.List.{list_all}
use Rattle.std.specs.Result.{result_ok}
use Rattle.std.specs.Str.{bytes_eq, IsUtf8}
use Rattle.std.specs.Str.Parse.{ParsesUnsigned}
use Rattle.std.proofs.lemmas.Bool.{and_parts, cases_Bool, cases_lt, eqb-true, eqb-false, lt-ltb, ltb-true, le-ltb, ne_eqb}
use Rattle.std.proofs.lemmas.Fmt.{decimal_by_steps_wide, IsAscii-from_digits}
use Rattle.std.proofs.lemmas.Str.{IsUtf8-from_ascii}
use Rattle.std.proofs.lemmas.List.{get_or_append_left}
use Rattle.std.proofs.lemmas.List.Folds.{list_all-append}
use Rattle.std.proofs.lemmas.List.Sums.{fold-append}
use Rattle.std.proofs.lemmas.Str.Parse.{IsNumeralModel, IsDigitsTest, FoldsDigits, numerals_by_fold, parse_digits}
use Rattle.std.proofs.Math.Bool.{and-false}
use Rattle.rule_check.specs.Numbers.{with_digit, value_of, is_number}
use Rattle.run_tables.specs.Numbers.{has_leading_zero, wide_value, number_written}
use Rattle.run_tables.proofs.Canonical.{canonical_is, digit-range}

-- NUMBERS

digit-in : (c : ℕ) → 48 ≤ c → c ≤ 57 → is_ascii_digit c ≡ true
digit-in c h k = grind (arith, h, k)

digits_test : IsDigitsTest (λ ds. list_all is_ascii_digit ds ≡ true)
digits_test = record {
  empty = refl;
  parts = λ c cs h. let p = and_parts (is_ascii_digit c) (list_all is_ascii_digit cs) h in (digit-range c p.0, p.1);
  more = λ c cs h k. rw (digit-in c h.0 h.1) k;
}

digits_fold : FoldsDigits (λ n ds. fold with_digit n ds)
digits_fold = record { empty = λ n. refl; more = λ n c cs h. refl }

own : IsNumeralModel (λ ds. list_all is_ascii_digit ds ≡ true) (λ ds. fold with_digit 0 ds)
own = numerals_by_fold (λ ds. list_all is_ascii_digit ds ≡ true) digits_test (λ n ds. fold with_digit n ds) digits_fold

some-length : (ds : List ℕ) → not (length ds == 0) ≡ true → 0 < length ds
some-length [] h = cc h
some-length (c ∷ ds) h = omega arith

-- what `parse` gives of digits
pub parsed : {E : Type 0} (ds : List ℕ) (r : Result ℕ E) → is_number ds ≡ true → ParsesUnsigned 128 10 ds r → result_ok r ≡ wide_value ds
unfolding value_of
parsed {E} ds (Ok n) h p =
    let parts = and_parts (not (length ds == 0)) (list_all is_ascii_digit ds) h in
    let o = parse_digits own {E = E} 128 ds (Ok n) p parts.1 in
    rw (lt-ltb (fold with_digit 0 ds) (2 ^ 128) o.0.1) (ap (λ (k : ℕ). Some k) o.1)
parsed {E} ds (Err e) h p =
    let parts = and_parts (not (length ds == 0)) (list_all is_ascii_digit ds) h in
    let o = parse_digits own {E = E} 128 ds (Err e) p parts.1 in
    elim (cases_Bool (nat_lt (fold with_digit 0 ds) (2 ^ 128))) [
      | inl less ↦ absurd (o (some-length ds parts.0, ltb-true (fold with_digit 0 ds) (2 ^ 128) less))
      | inr more ↦ rw more refl
    ]

-- digits that a number is written in
record Digits (n : ℕ) (ds : List ℕ) : Type 0 where
  all : list_all is_ascii_digit ds ≡ true
  value : value_of ds ≡ n
  some : 0 < length ds
  first : 0 < n → get_or ds 0 0 ≢ 48
  one : n ≡ 0 → length ds ≡ 1

digits-one : (n : ℕ) → n < 10 → Digits n ((48 + n) ∷ [])
unfolding value_of
digits-one n h = record {
  all = rw (digit-in (48 + n) (omega arith) (omega arith)) refl;
  value = omega arith;
  some = omega arith;
  first = λ some e. omega (arith, some, e);
  one = λ e. refl;
}

digits-more : (n : ℕ) (ds : List ℕ) → 10 ≤ n → Digits (n / 10) ds → Digits n (ds ++ ((48 + n % 10) ∷ []))
unfolding value_of
digits-more n ds h d =
    let last = 48 + n % 10 in
    let v = d.value in
    let some = d.some in
    record {
      all = list_all-append is_ascii_digit ds (last ∷ []) ∙ rw (d.all, digit-in last (omega arith) (omega arith)) refl;
      value = fold-append with_digit 0 ds (last ∷ []) ∙ rw v (omega arith);
      some = let size = length-append ds (last ∷ []) in omega (arith, size);
      first = λ positive e. d.first (omega arith) (sym (get_or_append_left ds (last ∷ []) 0 0 some) ∙ e);
      one = λ zero. absurd (omega (arith, zero, h));
    }

digits-of : (n : ℕ) → n < 10 ^ 64 → Digits n (decimal n)
digits-of = decimal_by_steps_wide Digits digits-one digits-more

leading : (n : ℕ) (ds : List ℕ) → Digits n ds → has_leading_zero ds ≡ false
leading n ds d =
    elim (cases_lt 0 n) [
      | inl positive ↦ let other : (get_or ds 0 0 == 48) ≡ false = ne_eqb (get_or ds 0 0) 48 (d.first positive) in rw other (and-false (nat_lt 1 (length ds)))
      | inr zero ↦
          let size = d.one (omega arith) in
          let short : nat_lt 1 (length ds) ≡ false = le-ltb 1 (length ds) (omega (arith, size)) in
          rw short refl
    ]

-- a number is read back from its digits
pub number_back : (n : ℕ) → n < 2 ^ 128 → number_written (decimal n) ≡ Some n
number_back n h =
    let d = digits-of n (omega arith) in
    let some = d.some in
    let nonempty : (length (decimal n) == 0) ≡ false = ne_eqb (length (decimal n)) 0 (λ e. omega (arith, e, some)) in
    let value = d.value in
    let small : nat_lt (value_of (decimal n)) (2 ^ 128) ≡ true = lt-ltb (value_of (decimal n)) (2 ^ 128) (omega (arith, value, h)) in
    rw (nonempty, d.all, leading n (decimal n) d, small) (ap (λ (k : ℕ). Some k) value)

-- a text that is not read but as a number of this kind
record Reads (text : List ℕ) (n : ℕ) : Type 0 where
  all : list_all is_ascii_digit text ≡ true
  some : 0 < length text
  first : 1 < length text → get_or text 0 0 ≢ 48
  value : value_of text ≡ n
  small : value_of text < 2 ^ 128

reads : (text : List ℕ) (n : ℕ) → number_written text ≡ Some n → Reads text n
reads text n h =
    elim (cases_Bool (is_number text && not (has_leading_zero text))) [
      | inr fails ↦ let none : None ≡ Some n = rw fails at h in cc none
      | inl holds ↦
          let wide : wide_value text ≡ Some n = rw holds at h in
          let parts = and_parts (is_number text) (not (has_leading_zero text)) holds in
          let number = and_parts (not (length text == 0)) (list_all is_ascii_digit text) parts.0 in
          elim (cases_Bool (nat_lt (value_of text) (2 ^ 128))) [
            | inr more ↦ let none : None ≡ Some n = rw more at wide in cc none
            | inl less ↦
                let value : Some (value_of text) ≡ Some n = rw less at wide in
                record {
                  all = number.1;
                  some = some-length text number.0;
                  first = λ long zero.
                      let a : nat_lt 1 (length text) ≡ true = lt-ltb 1 (length text) long in
                      let b : has_leading_zero text ≡ true = rw (a, zero) refl in
                      let c : false ≡ true = rw b at parts.1 in
                      cc c;
                  value = cc value;
                  small = ltb-true (value_of text) (2 ^ 128) less;
                }
          ]
    ]

-- a field that writes a number is its digits
pub number_is : (text : List ℕ) (n : ℕ) → number_written text ≡ Some n → text ≡ decimal n
number_is text n h =
    let r = reads text n h in
    let small = r.small in
    canonical_is text r.all r.some r.first (omega (arith, small)) ∙ ap decimal r.value

-- and it has 128 bits
pub number_wide : (text : List ℕ) (n : ℕ) → number_written text ≡ Some n → n < 2 ^ 128
number_wide text n h =
    let r = reads text n h in
    let small = r.small in
    let value = r.value in
    omega (arith, small, value)

-- BYTES

eqb-self : (n : ℕ) → (n == n) ≡ true
eqb-self n = elim (cases_Bool (n == n)) [ inl holds ↦ holds | inr fails ↦ absurd (eqb-false n n fails refl) ]

pub bytes_self : (a : List ℕ) → bytes_eq a a ≡ true
bytes_self [] = refl
bytes_self (x ∷ xs) = let first : (x == x) ≡ true = eqb-self x in rw first (bytes_self xs)

pub bytes_same : (a b : List ℕ) → bytes_eq a b ≡ true → a ≡ b
bytes_same [] [] h = refl
bytes_same [] (y ∷ ys) h = cc h
bytes_same (x ∷ xs) [] h = cc h
bytes_same (x ∷ xs) (y ∷ ys) h =
    let parts = and_parts (x == y) (bytes_eq xs ys) h in
    let first = eqb-true x y parts.0 in
    ap (λ (k : ℕ). k ∷ xs) first ∙ ap (λ (t : List ℕ). y ∷ t) (bytes_same xs ys parts.1)

bytes_no : (a b : List ℕ) → a ≢ b → bytes_eq a b ≡ false
bytes_no a b h =
    elim (cases_Bool (bytes_eq a b)) [
      | inl holds ↦ absurd (h (bytes_same a b holds))
      | inr fails ↦ fails
    ]

-- whether a text writes this number
pub found_at : (text : List ℕ) (number found : ℕ) → number < 2 ^ 128 → number_written text ≡ Some found → (found == number) ≡ bytes_eq text (decimal number)
found_at text number found h e =
    let is = number_is text found e in
    elim (cases_Bool (found == number)) [
      | inl same ↦ same ∙ sym (ap (λ (t : List ℕ). bytes_eq t (decimal number)) (is ∙ ap decimal (eqb-true found number same)) ∙ bytes_self (decimal number))
      | inr other ↦
          other
          ∙ sym (bytes_no text (decimal number) (λ same.
          let both : Some found ≡ Some number = sym e ∙ ap number_written same ∙ number_back number h in
          eqb-false found number other (cc both)))
    ]

pub none_at : (text : List ℕ) (number : ℕ) → number < 2 ^ 128 → number_written text ≡ None → false ≡ bytes_eq text (decimal number)
none_at text number h e = sym (bytes_no text (decimal number) (λ same. let none : None ≡ Some number = sym e ∙ ap number_written same ∙ number_back number h in cc none))

-- the digits of a number are not empty
pub decimal_some : (n : ℕ) → n < 2 ^ 128 → (length (decimal n) == 0) ≡ false
decimal_some n h = let d = digits-of n (omega arith) in let some = d.some in ne_eqb (length (decimal n)) 0 (λ e. omega (arith, e, some))

-- digits are text
pub digits_utf8 : (ds : List ℕ) → is_number ds ≡ true → IsUtf8 ds
digits_utf8 ds h = IsUtf8-from_ascii ds (IsAscii-from_digits ds (own.to ds (and_parts (not (length ds == 0)) (list_all is_ascii_digit ds) h).1))
