-- The last two digits of a number, and the digits before them.
use Rattle.std.proofs.Common.{◌≡◌, ℕ, ◌+◌, ◌*◌, ◌/◌, ◌%◌, ◌<◌, ◌≤◌, ◌^◌, List, [], ◌∷◌, ◌++◌, length, take, drop, decimal, ap, ◌∙◌, arith, append_assoc, length-drop, length-take-le}
use Rattle.std.proofs.lemmas.Fmt.{decimal_digit, decimal_step}
use Rattle.std.proofs.lemmas.List.{append-nil, drop-drop, drop_all, drop_at, take_all}
use Rattle.std.proofs.lemmas.Simd.{put_chunk_is}
use Rattle.std.specs.Simd.Lanes.{put_chunk}
use borrow.Rule.Slice.PartMut.{put_mid, mid_of, post_of}

-- a number of three digits or more
pub two_last : (hundreds past : ℕ) → 0 < hundreds → past < 100 → 100 * hundreds + past < 2 ^ 64
    → decimal (100 * hundreds + past) ≡ decimal hundreds ++ (48 + past / 10) ∷ (48 + past % 10) ∷ []
two_last hundreds past some few fits =
    let number = 100 * hundreds + past in
    let tens : number / 10 / 10 ≡ hundreds = omega arith in
    let ten : number / 10 % 10 ≡ past / 10 = omega arith in
    let one : number % 10 ≡ past % 10 = omega arith in
    let last = decimal_step number (omega (arith, some)) fits in
    let before = decimal_step (number / 10) (omega (arith, some)) (omega (arith, fits)) in
    last
    ∙ ap (λ t. t ++ (48 + number % 10) ∷ []) (before ∙ (λ i. decimal (tens i) ++ (48 + ten i) ∷ []))
    ∙ append_assoc (decimal hundreds) ((48 + past / 10) ∷ []) ((48 + number % 10) ∷ [])
    ∙ ap (λ d. decimal hundreds ++ (48 + past / 10) ∷ (48 + d) ∷ []) one

-- of one hundred
pub three_digits : (past : ℕ) → past < 100 → decimal (100 + past) ≡ 49 ∷ (48 + past / 10) ∷ (48 + past % 10) ∷ []
three_digits past few =
    two_last 1 past (omega arith) few (omega (arith, few))
    ∙ ap (λ t. t ++ (48 + past / 10) ∷ (48 + past % 10) ∷ []) (decimal_digit 1 (omega arith))

-- what stands in a line from a place on to which a piece is written, up to whose end
pub piece_behind : (bytes piece : List ℕ) (to size n : ℕ) → length piece ≡ n → to + size ≡ length bytes → n ≤ size
    → drop to (put_mid to size bytes (put_chunk 0 (mid_of to size bytes) piece)) ≡ piece ++ drop (to + n) bytes
piece_behind bytes piece to size n long whole fits =
    let mid = mid_of to size bytes in
    let front = take to bytes in
    let behind = drop (length piece) mid in
    let post = post_of to size bytes in
    let rest : length (drop to bytes) ≡ size = omega (arith, whole, length-drop to bytes) in
    let all : mid ≡ drop to bytes = take_all size (drop to bytes) (omega (arith, rest)) in
    let none : post ≡ [] = drop_all size (drop to bytes) (omega (arith, rest)) in
    let put : put_chunk 0 mid piece ≡ piece ++ behind = put_chunk_is 0 mid piece (omega (arith, ap length all, rest, long, fits)) in
    ap (λ t. drop to (front ++ (t ++ post))) put
    ∙ drop_at front ((piece ++ behind) ++ post) to (length-take-le to bytes (omega (arith, whole)))
    ∙ ap (λ t. (piece ++ behind) ++ t) none
    ∙ append-nil (piece ++ behind)
    ∙ ap (λ t. piece ++ t) (ap (λ k. drop k mid) long ∙ ap (drop n) all ∙ drop-drop n to bytes)
