-- Rows with the line feed at their end, and how a row is copied.
use Rattle.std.proofs.Common.{◌≡◌, ℕ, ◌+◌, ◌≤◌, List, [], ◌∷◌, ◌++◌, length, take, drop, refl, sym, ap, ◌∙◌, arith, append_assoc, length-append, length-take-le}
use Rattle.std.proofs.Math.Seq.{take-add, take-append-add}
use Rattle.std.proofs.lemmas.List.{append-nil, length-drop, take_at, take-take}
use Rattle.std.proofs.lemmas.Simd.{put_chunk_is}
use Rattle.std.specs.Simd.Lanes.{chunk, put_chunk}
use borrow.Rule.Slice.PartMut.{put_mid, mid_of, post_of}
use Rattle.csv.specs.Writing as csv
use Rattle.reports.specs.Rows.{plain_writer, ended}
use Rattle.reports.proofs.RowLemmas.{row_text-plain}

-- what `csv` makes of rows
pub row_text-ended : (text : List ℕ) → (ended text ≡ [] → ⊥) → csv.row_text plain_writer (text ∷ []) ≡ ended text
row_text-ended [] some = absurd (some refl)
row_text-ended (byte ∷ rest) some = row_text-plain (byte ∷ rest) (omega arith)

-- a piece that is written to a place, behind what stands before it
pub piece_put : (bytes piece : List ℕ) (to size n : ℕ) → length piece ≡ n → to + size ≤ length bytes → n ≤ size
    → take (to + n) (put_mid to size bytes (put_chunk 0 (mid_of to size bytes) piece)) ≡ take to bytes ++ piece
piece_put bytes piece to size n long room fits =
    let mid = mid_of to size bytes in
    let front = take to bytes in
    let behind = drop (length piece) mid in
    let post = post_of to size bytes in
    let wide : length mid ≡ size = length-take-le size (drop to bytes) (omega (arith, room, length-drop to bytes)) in
    let put : put_chunk 0 mid piece ≡ piece ++ behind = put_chunk_is 0 mid piece (omega (arith, wide, long, fits)) in
    let reached : length (front ++ piece) ≡ to + n = length-append front piece ∙ (λ i. length-take-le to bytes (omega (arith, room)) i + long i) in
    ap (λ t. take (to + n) (front ++ (t ++ post))) put
    ∙ ap (take (to + n)) (ap (λ t. front ++ t) (append_assoc piece behind post) ∙ sym (append_assoc front piece (behind ++ post)))
    ∙ take_at (front ++ piece) (behind ++ post) (to + n) reached

-- no byte of a row is copied
pub row_none : (bytes row : List ℕ) (start : ℕ) → take (start + 0) bytes ≡ take start bytes ++ take 0 row
row_none bytes row start = let e : start + 0 ≡ start = omega arith in ap (λ k. take k bytes) e ∙ sym (append-nil (take start bytes))

-- a piece more of a row, up to `reach`
pub row_more : (front row bytes next : List ℕ) (start done at n reach : ℕ) → length front ≡ start → at ≤ done → reach ≡ at + n
    → take (start + done) bytes ≡ front ++ take done row → take (start + at + n) next ≡ take (start + at) bytes ++ chunk at n row
    → take (start + reach) next ≡ front ++ take reach row
row_more front row bytes next start done at n reach long before is was more =
    let kept : take (start + at) bytes ≡ front ++ take at row =
    sym (take-take (start + at) (start + done) bytes (omega (arith, before)))
    ∙ ap (take (start + at)) was
    ∙ ap (λ k. take (k + at) (front ++ take done row)) (sym long)
    ∙ take-append-add front (take done row) at
    ∙ ap (λ t. front ++ t) (take-take at done row before) in
    let e : start + reach ≡ start + at + n = omega (arith, is) in
    ap (λ k. take k next) e
    ∙ more
    ∙ ap (λ t. t ++ chunk at n row) kept
    ∙ append_assoc front (take at row) (chunk at n row)
    ∙ ap (λ t. front ++ t) (sym (take-add at n row) ∙ ap (λ k. take k row) (sym is))
