-- The tokens of a line, and the numbers that it joins.
use Rattle.std.proofs.Common.{◌≡◌, ℕ, suc, ◌+◌, ◌<◌, ◌≤◌, ◌⊎◌, inl, inr, Bool, true, false, not, cond, ◌||◌, eqb, List, [], ◌∷◌, ◌++◌, length, take, drop, get_or, refl, sym, ap, ◌∙◌, subst, arith, codes}
use Rattle.std.proofs.lemmas.Bool.{and_parts, and_from, ne_eqb, not-true, not-false, or_from}
use Rattle.std.proofs.lemmas.List.{append-nil, take-append-drop, take_at, drop_at, get_or-take, get_or-drop, length-take-le, length-drop, length-append}
use Rattle.std.proofs.lemmas.List.Sums.{prefix_len-le-length, prefix_len_passes, prefix_len_stops, list_all-from_AllPass}
use Rattle.std.specs.Char.{digit_value}
use Rattle.std.specs.List.{AllZip, list_all, prefix_len}
use Rattle.std.specs.Str.Parse.{AllDigits}
use Rattle.sim_base.specs.TraceText.{is_separator, tokens_of}
use Rattle.sim_base.specs.TraceGrammar.{WritesNumber, IsGap, IsApart, JoinsNumbers}
use Rattle.cpu_trace.proofs.Tokens.{token_len, tokens_of-separator, tokens_of-skip, tokens_of-first, tokens_of-none, skip-first}

-- a byte of a token
abbrev is_inside : ℕ → Bool
is_inside byte = not (is_separator byte)

-- separators tell nothing
tokens_of-gap_before : (gap line : List ℕ) → IsGap gap → tokens_of (gap ++ line) ≡ tokens_of line
tokens_of-gap_before [] line h = refl
tokens_of-gap_before (byte ∷ gap) line h =
    let parts = and_parts (is_separator byte) (list_all is_separator gap) h in
    tokens_of-separator byte (gap ++ line) parts.0 ∙ tokens_of-gap_before gap line parts.1

tokens_of-gap : (gap : List ℕ) → IsGap gap → tokens_of gap ≡ []
tokens_of-gap gap h = ap tokens_of (sym (append-nil gap)) ∙ tokens_of-gap_before gap [] h ∙ tokens_of-none [] refl

-- a token goes up to what stands apart from it
apart-len : (rest : List ℕ) → IsApart rest → token_len rest ≡ 0
apart-len [] h = refl
apart-len (byte ∷ rest) h = ap (λ b. cond (not b) (1 + token_len rest) 0) (h (omega arith))

token_len-append : (token rest : List ℕ) → list_all is_inside token ≡ true → IsApart rest → token_len (token ++ rest) ≡ length token
token_len-append [] rest h apart = apart-len rest apart
token_len-append (byte ∷ token) rest h apart =
    let parts = and_parts (is_inside byte) (list_all is_inside token) h in
    let more : 1 + token_len (token ++ rest) ≡ suc (length token) = omega (arith, token_len-append token rest parts.1 apart) in
    ap (λ b. cond b (1 + token_len (token ++ rest)) 0) parts.0 ∙ more

first_inside : (token rest : List ℕ) → 0 < length token → list_all is_inside token ≡ true → is_separator (get_or (token ++ rest) 0 0) ≡ false
first_inside [] rest some h = absurd (omega (arith, some))
first_inside (byte ∷ token) rest some h = not-true (is_separator byte) (and_parts (is_inside byte) (list_all is_inside token) h).0

tokens_of-token : (token rest : List ℕ) → 0 < length token → list_all is_inside token ≡ true → IsApart rest → tokens_of (token ++ rest) ≡ token ∷ tokens_of rest
tokens_of-token token rest some h apart =
    let n = token_len-append token rest h apart in
    tokens_of-first (token ++ rest) (omega (arith, some, length-append token rest)) (first_inside token rest some h)
    ∙ ap (λ k. take k (token ++ rest) ∷ tokens_of (drop k (token ++ rest))) n
    ∙ rw (take_at token rest (length token) refl, drop_at token rest (length token) refl) refl

-- a digit is no separator
digit-inside : (radix c : ℕ) → radix ≤ 16 → digit_value c < radix → is_inside c ≡ true
digit-inside radix c small h =
    let other = λ (b : ℕ) (large : 16 ≤ digit_value b). ne_eqb c b (λ e. let digit : digit_value b < radix = rw e at h in absurd (omega (arith, digit, small, large))) in
    ap not (or_from (eqb c 32 || eqb c 9) (eqb c 13) (or_from (eqb c 32) (eqb c 9) (other 32 (omega arith)) (other 9 (omega arith))) (other 13 (omega arith)))

digits-inside : (radix : ℕ) (digits : List ℕ) → radix ≤ 16 → AllDigits radix digits → list_all is_inside digits ≡ true
digits-inside radix [] small h = refl
digits-inside radix (c ∷ digits) small h = and_from (is_inside c) (list_all is_inside digits) (digit-inside radix c small h.0) (digits-inside radix digits small h.1)

-- what writes a number is a token
is_token : (token : List ℕ) (number : ℕ) → WritesNumber token number → (0 < length token) × (list_all is_inside token ≡ true)
is_token token number (inl h) = (h.numeral.0, digits-inside 10 token (omega arith) h.numeral.1)
is_token token number (inr h) =
    let inside = digits-inside 16 h.digits (omega arith) h.are_digits.numeral.1 in
    let by_mark = λ (m : List ℕ) (e : h.mark ≡ m). h.parts ∙ ap (λ mark. mark ++ h.digits) e in
    elim h.is_mark [
      | inl e ↦ rw (by_mark (codes "0x") e) (omega arith, inside)
      | inr e ↦ rw (by_mark (codes "0X") e) (omega arith, inside)
    ]

-- the tokens of a line that joins numbers write these
pub tokens-of_joined : (line numbers : List ℕ) → JoinsNumbers line numbers → AllZip WritesNumber (tokens_of line) numbers
tokens-of_joined line [] h = rw (tokens_of-gap line h) tt
tokens-of_joined line (number ∷ numbers) h =
    let begins = h.1 in
    let token = is_token begins.token number begins.is_number in
    let tokens : tokens_of line ≡ begins.token ∷ tokens_of h.0 =
    ap tokens_of begins.parts ∙ tokens_of-gap_before begins.gap (begins.token ++ h.0) begins.is_gap ∙ tokens_of-token begins.token h.0 token.0 token.1 begins.is_apart in
    rw tokens (begins.is_number, tokens-of_joined h.0 numbers h.2)

-- the front that passes a test
front-passes : (p : ℕ → Bool) (xs : List ℕ) → list_all p (take (prefix_len p xs) xs) ≡ true
front-passes p xs =
    let n = prefix_len p xs in
    list_all-from_AllPass p (take n xs) (λ j d lt.
    let below : j < n = omega (arith, lt, length-take-le n xs (prefix_len-le-length p xs)) in
    ap p (get_or-take n xs j d below) ∙ prefix_len_passes p xs j d below)

-- what follows a token stands apart from it
rest-apart : (line : List ℕ) → IsApart (drop (token_len line) line)
rest-apart line some =
    let n = token_len line in
    let within : n < length line = omega (arith, some, length-drop n line) in
    let place : n + 0 ≡ n = omega arith in
    ap is_separator (get_or-drop n line 0 0 ∙ ap (λ k. get_or line k 0) place) ∙ not-false (is_separator (get_or line n 0)) (prefix_len_stops is_inside line 0 within)

-- a line begins with a token
abbrev IsTaken : List ℕ → Type 0
IsTaken line = (gap token rest : List ℕ) × IsGap gap × IsApart rest × (line ≡ gap ++ (token ++ rest)) × (tokens_of line ≡ token ∷ tokens_of rest)

-- a line is a gap, or begins with a token
taken : (line rest : List ℕ) → drop (prefix_len is_separator line) line ≡ rest → ((tokens_of line ≡ []) × IsGap line) ⊎ IsTaken line
taken line [] e =
    let k = prefix_len is_separator line in
    let front : take k line ≡ line = sym (append-nil (take k line)) ∙ ap (λ r. take k line ++ r) (sym e) ∙ take-append-drop k line in
    inl (sym (tokens_of-skip line) ∙ ap tokens_of e ∙ tokens_of-none [] refl, rw front at (front-passes is_separator line))
taken line (byte ∷ more) e =
    let k = prefix_len is_separator line in
    let rest = drop k line in
    let n = token_len rest in
    let some : 0 < length rest = omega (arith, ap length e) in
    inr (
      take k line,
      take n rest,
      drop n rest,
      front-passes is_separator line,
      rest-apart rest,
      sym (take-append-drop k line) ∙ ap (λ r. take k line ++ r) (sym (take-append-drop n rest)),
      sym (tokens_of-skip line) ∙ tokens_of-first rest some (skip-first line some),
    )

-- a line whose tokens write numbers joins these
pub joined-from_tokens : (numbers line : List ℕ) (tokens : List (List ℕ)) → tokens_of line ≡ tokens → AllZip WritesNumber tokens numbers → JoinsNumbers line numbers
joined-from_tokens [] line [] e h = elim (taken line _ refl) [
  | inl gap ↦ gap.1
  | inr begins ↦ (let both : ◌≡◌ {A = List (List ℕ)} [] (begins.1 ∷ tokens_of begins.2) = sym e ∙ begins.6 in cc)
]
joined-from_tokens [] line (token ∷ tokens) e h = absurd h
joined-from_tokens (number ∷ numbers) line [] e h = absurd h
joined-from_tokens (number ∷ numbers) line (token ∷ tokens) e h = elim (taken line _ refl) [
  | inl gap ↦ (let both : ◌≡◌ {A = List (List ℕ)} [] (token ∷ tokens) = sym gap.0 ∙ e in cc)
  | inr begins ↦ (
      let both : ◌≡◌ {A = List (List ℕ)} (token ∷ tokens) (begins.1 ∷ tokens_of begins.2) = sym e ∙ begins.6 in
      let first : token ≡ begins.1 = cc in
      let others : tokens_of begins.2 ≡ tokens = cc in (
        begins.2,
        record {
          gap = begins.0;
          token = begins.1;
          is_gap = begins.3;
          is_number = subst (λ t. WritesNumber t number) first h.0;
          is_apart = begins.4;
          parts = begins.5;
        },
        joined-from_tokens numbers begins.2 tokens others h.1,
      ))
]
