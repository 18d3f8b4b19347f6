-- The tokens of a line, one after another.
use Rattle.std.proofs.Common.{◌≡◌, ℕ, suc, ◌+◌, ◌<◌, ◌≤◌, Bool, true, false, not, cond, ltb, List, [], ◌∷◌, filter, length, get_or, take, drop, refl, sym, ap, ◌∙◌, arith}
use Rattle.std.proofs.lemmas.Bool.{lt-ltb}
use Rattle.std.proofs.lemmas.List.{length-take-le, length-drop, get_or-drop, nil_from_length}
use Rattle.std.proofs.lemmas.List.Sums.{prefix_len-le-length, prefix_len_stops}
use Rattle.std.specs.List.{prefix_len, slice_split, onto_first}
use Rattle.sim_base.specs.TraceText.{is_separator, tokens_of}

-- something stands there
abbrev is_some_token : List ℕ → Bool
is_some_token token = ltb 0 (length token)

-- how long the token is with which a line begins
abbrev pub token_len : List ℕ → ℕ
token_len line = prefix_len (λ byte. not (is_separator byte)) line

-- a separator at the start tells nothing
pub tokens_of-separator : (byte : ℕ) (line : List ℕ) → is_separator byte ≡ true → tokens_of (byte ∷ line) ≡ tokens_of line
unfolding tokens_of
tokens_of-separator byte line e = rw e refl

tokens_of-skip-cases : (b : Bool) (byte : ℕ) (line : List ℕ) → is_separator byte ≡ b → tokens_of (drop (prefix_len is_separator line) line) ≡ tokens_of line → tokens_of (drop (cond b (1 + prefix_len is_separator line) 0) (byte ∷ line)) ≡ tokens_of (byte ∷ line)
tokens_of-skip-cases true byte line e rest =
    let one : 1 + prefix_len is_separator line ≡ suc (prefix_len is_separator line) = omega arith in
    ap (λ n. tokens_of (drop n (byte ∷ line))) one ∙ rest ∙ sym (tokens_of-separator byte line e)
tokens_of-skip-cases false byte line e rest = refl

pub tokens_of-skip : (line : List ℕ) → tokens_of (drop (prefix_len is_separator line) line) ≡ tokens_of line
tokens_of-skip [] = refl
tokens_of-skip (byte ∷ line) = tokens_of-skip-cases (is_separator byte) byte line refl (tokens_of-skip line)

-- what is split off behind the separator with which a line begins
abbrev parts_behind : List ℕ → List (List ℕ)
parts_behind [] = []
parts_behind (byte ∷ line) = slice_split is_separator line

split_token-cases : (b : Bool) (byte : ℕ) (line : List ℕ) → slice_split is_separator line ≡ take (token_len line) line ∷ parts_behind (drop (token_len line) line) → cond b ([] ∷ slice_split is_separator line) (onto_first byte (slice_split is_separator line)) ≡ take (cond (not b) (1 + token_len line) 0) (byte ∷ line) ∷ parts_behind (drop (cond (not b) (1 + token_len line) 0) (byte ∷ line))
split_token-cases true byte line rest = refl
split_token-cases false byte line rest =
    let one : 1 + token_len line ≡ suc (token_len line) = omega arith in
    rw (one, rest) refl

split_token : (line : List ℕ) → slice_split is_separator line ≡ take (token_len line) line ∷ parts_behind (drop (token_len line) line)
split_token [] = refl
split_token (byte ∷ line) = split_token-cases (is_separator byte) byte line (split_token line)

tokens_behind-cases : (b : Bool) (byte : ℕ) (line : List ℕ) → is_separator byte ≡ b → tokens_of (drop (token_len line) line) ≡ filter is_some_token (parts_behind (drop (token_len line) line)) → tokens_of (drop (cond (not b) (1 + token_len line) 0) (byte ∷ line)) ≡ filter is_some_token (parts_behind (drop (cond (not b) (1 + token_len line) 0) (byte ∷ line)))
unfolding tokens_of
tokens_behind-cases true byte line e rest = tokens_of-separator byte line e
tokens_behind-cases false byte line e rest =
    let one : 1 + token_len line ≡ suc (token_len line) = omega arith in
    rw one rest

tokens_behind : (line : List ℕ) → tokens_of (drop (token_len line) line) ≡ filter is_some_token (parts_behind (drop (token_len line) line))
unfolding tokens_of
tokens_behind [] = refl
tokens_behind (byte ∷ line) = tokens_behind-cases (is_separator byte) byte line refl (tokens_behind line)

filter-token : (token : List ℕ) (parts : List (List ℕ)) → 0 < length token → filter is_some_token (token ∷ parts) ≡ token ∷ filter is_some_token parts
filter-token token parts some = rw (lt-ltb 0 (length token) some) refl

token_len-first : (line : List ℕ) → 0 < length line → is_separator (get_or line 0 0) ≡ false → 0 < token_len line
token_len-first [] some first = absurd (omega (arith, some))
token_len-first (byte ∷ line) some first =
    let one : token_len (byte ∷ line) ≡ 1 + token_len line = ap (λ b. cond (not b) (1 + token_len line) 0) first in
    omega (arith, one)

-- a line that begins with no separator begins with its first token
pub tokens_of-first : (line : List ℕ) → 0 < length line → is_separator (get_or line 0 0) ≡ false → tokens_of line ≡ take (token_len line) line ∷ tokens_of (drop (token_len line) line)
unfolding tokens_of
tokens_of-first line some first =
    let n = token_len line in
    let short : n ≤ length line = prefix_len-le-length (λ byte. not (is_separator byte)) line in
    let long : 0 < length (take n line) = omega (arith, length-take-le n line short, token_len-first line some first) in
    ap (filter is_some_token) (split_token line)
    ∙ filter-token (take n line) (parts_behind (drop n line)) long
    ∙ ap (λ tokens. take n line ∷ tokens) (sym (tokens_behind line))

-- a line with no bytes has no tokens
pub tokens_of-none : (line : List ℕ) → length line ≡ 0 → tokens_of line ≡ []
unfolding tokens_of
tokens_of-none line e = rw (nil_from_length line e) refl

-- what is left behind the separators at the start begins with no separator
pub skip-first : (line : List ℕ) → 0 < length (drop (prefix_len is_separator line) line) → is_separator (get_or (drop (prefix_len is_separator line) line) 0 0) ≡ false
skip-first line some =
    let n = prefix_len is_separator line in
    let inside : n < length line = omega (arith, some, length-drop n line) in
    let place : n + 0 ≡ n = omega arith in
    ap is_separator (get_or-drop n line 0 0 ∙ ap (λ k. get_or line k 0) place) ∙ prefix_len_stops is_separator line 0 inside
