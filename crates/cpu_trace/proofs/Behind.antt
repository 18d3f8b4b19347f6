-- The lines of a text in pieces, and what is read of lines that follow others.
use Rattle.std.proofs.Common.{◌≡◌, ℕ, suc, ◌+◌, ◌^◌, ◌<◌, ◌≤◌, Bor, Bool, true, false, cond, leb, List, [], ◌∷◌, ◌++◌, length, Option, Some, Result, Ok, Err, refl, sym, ap, ◌∙◌, arith, append_assoc, length-append}
use Rattle.std.proofs.lemmas.Bool.{leb-true, leb-false}
use Rattle.std.proofs.lemmas.List.Splits.{length-slice_split}
use Rattle.std.proofs.lemmas.List.Sums.{count_by-le-length}
use Rattle.std.proofs.lemmas.Grind.{flat_map-append}
use Rattle.std.proofs.lemmas.List.{append-nil}
use Rattle.std.specs.List.{AllZip, slice_split, onto_first}
use Rattle.sim_base.specs.declared.fault.LineCause.{LineCause}
use Rattle.sim_base.specs.declared.trace.Entry.{Entry}
use Rattle.sim_base.specs.TraceText.{◌>>=◌, is_line_feed, lines_of, line_entries, BadLine, in_line, entries_of_lines}
use Rattle.cpu_trace.specs.Reading.{kept, joined, kept_of}
use Rattle.cpu_trace.specs.declared.reading.Reading.{Reading}
use Rattle.cpu_trace.specs.declared.reading.Unread.{Unread}
use Rattle.cpu_trace.specs.declared.reading.Unread.TheVariants as unread
use Rattle.cpu_trace.specs.Pieces.{lines_of_pieces}
use Rattle.cpu_trace.specs.Reading.{IsReadingOf, IsUnreadOf, IsRead, told_behind, lines_told}
use Rattle.cpu_trace.proofs.Kept.{kept-short, kept-long, appended-kept}

-- a byte more at the start of the first of some parts
onto_first-append : (byte : ℕ) (parts others : List (List ℕ)) → 0 < length parts → onto_first byte (parts ++ others) ≡ onto_first byte parts ++ others
onto_first-append byte [] others some = absurd (omega (arith, some))
onto_first-append byte (part ∷ parts) others some = refl

cut-cases : (b : Bool) (byte : ℕ) (parts others : List (List ℕ)) → 0 < length parts → cond b ([] ∷ (parts ++ others)) (onto_first byte (parts ++ others)) ≡ cond b ([] ∷ parts) (onto_first byte parts) ++ others
cut-cases true byte parts others some = refl
cut-cases false byte parts others some = onto_first-append byte parts others some

-- a text that is cut at a line feed has the lines of what stands before it, and then those of what stands behind it
lines_of-cut : (front back : List ℕ) → lines_of (front ++ 10 ∷ back) ≡ lines_of front ++ lines_of back
unfolding lines_of
lines_of-cut [] back = refl
lines_of-cut (byte ∷ front) back =
    let some : 0 < length (slice_split is_line_feed front) = omega (arith, length-slice_split is_line_feed front) in
    ap (λ parts. cond (is_line_feed byte) ([] ∷ parts) (onto_first byte parts)) (lines_of-cut front back)
    ∙ cut-cases (is_line_feed byte) byte (slice_split is_line_feed front) (slice_split is_line_feed back) some

-- a piece more, which is cut off what was left
pub lines_of_pieces-push : (text rest behind : List ℕ) (pieces grown : List (Bor (List ℕ))) (piece : Bor (List ℕ)) → grown ≡ pieces ++ piece ∷ [] → rest ≡ piece.now ++ 10 ∷ behind → lines_of text ≡ lines_of_pieces pieces ++ lines_of rest → lines_of text ≡ lines_of_pieces grown ++ lines_of behind
lines_of_pieces-push text rest behind pieces grown piece e parts same =
    let more : lines_of_pieces grown ≡ lines_of_pieces pieces ++ lines_of piece.now =
    ap lines_of_pieces e ∙ flat_map-append (λ (p : Bor (List ℕ)). lines_of p.now) pieces (piece ∷ []) ∙ ap (λ l. lines_of_pieces pieces ++ l) (append-nil (lines_of piece.now)) in
    same
    ∙ ap (λ l. lines_of_pieces pieces ++ l) (ap lines_of parts ∙ lines_of-cut piece.now behind)
    ∙ sym (append_assoc (lines_of_pieces pieces) (lines_of piece.now) (lines_of behind))
    ∙ ap (λ l. l ++ lines_of behind) (sym more)

-- a bad line, or none, of lines that stand behind so many others
abbrev later : {A : Type 0} → ℕ → Result A BadLine → Result A BadLine
later before (Ok x) = Ok x
later before (Err bad) = Err (record { line = before + bad.line; cause = bad.cause })

later-line : (before number : ℕ) (first : Result (List Entry) LineCause) (rest others : Result (List Entry) BadLine) → rest ≡ later before others → (in_line (before + number) first >>= λ more. rest >>= λ ends. Ok (more ++ ends)) ≡ later before (in_line number first >>= λ more. others >>= λ ends. Ok (more ++ ends))
later-line before number (Ok first) rest (Ok others) e = rw e refl
later-line before number (Ok first) rest (Err bad) e = rw e refl
later-line before number (Err cause) rest others e = refl

-- lines that are counted from a later one
entries_of_lines-later : (before number : ℕ) (lines : List (List ℕ)) → entries_of_lines (before + number) lines ≡ later before (entries_of_lines number lines)
unfolding entries_of_lines
entries_of_lines-later before number [] = refl
entries_of_lines-later before number (line ∷ lines) =
    let next : before + number + 1 ≡ before + (number + 1) = omega arith in
    later-line before number (line_entries line) (entries_of_lines (before + number + 1) lines) (entries_of_lines (number + 1) lines)
    (ap (λ n. entries_of_lines n lines) next ∙ entries_of_lines-later before (number + 1) lines)

-- the entries of lines, and then those of others
abbrev both : Result (List Entry) BadLine → Result (List Entry) BadLine → Result (List Entry) BadLine
both read behind = read >>= λ entries. behind >>= λ others. Ok (entries ++ others)

both-line : (number : ℕ) (first : Result (List Entry) LineCause) (rest behind : Result (List Entry) BadLine) → (in_line number first >>= λ more. both rest behind >>= λ ends. Ok (more ++ ends)) ≡ both (in_line number first >>= λ more. rest >>= λ ends. Ok (more ++ ends)) behind
both-line number (Ok first) (Ok entries) (Ok others) = ap Ok (sym (append_assoc first entries others))
both-line number (Ok first) (Ok entries) (Err bad) = refl
both-line number (Ok first) (Err bad) behind = refl
both-line number (Err cause) rest behind = refl

both-none : (behind : Result (List Entry) BadLine) → behind ≡ both (Ok []) behind
both-none (Ok others) = refl
both-none (Err bad) = refl

-- the entries of lines that follow others
entries_of_lines-append : (number : ℕ) (lines behind : List (List ℕ)) → entries_of_lines number (lines ++ behind) ≡ both (entries_of_lines number lines) (entries_of_lines (length lines + number) behind)
unfolding entries_of_lines
entries_of_lines-append number [] behind =
    let same : number ≡ 0 + number = omega arith in
    ap (λ n. entries_of_lines n behind) same ∙ both-none (entries_of_lines (0 + number) behind)
entries_of_lines-append number (line ∷ lines) behind =
    let same : length lines + (number + 1) ≡ suc (length lines) + number = omega arith in
    ap (λ rest. in_line number (line_entries line) >>= λ more. rest >>= λ ends. Ok (more ++ ends)) (entries_of_lines-append (number + 1) lines behind)
    ∙ both-line number (line_entries line) (entries_of_lines (number + 1) lines) (entries_of_lines (length lines + (number + 1)) behind)
    ∙ ap (λ n. both (in_line number (line_entries line) >>= λ more. entries_of_lines (number + 1) lines >>= λ ends. Ok (more ++ ends)) (entries_of_lines n behind)) same

-- what is kept of two lists is what is kept of the list of both
joined-cases : (b : Bool) (entries others : List Entry) → leb (length others) (2 ^ 62) ≡ b → joined (kept entries) (kept others) ≡ kept (entries ++ others)
joined-cases true entries others e = rw (kept-short others (leb-true _ _ e)) (appended-kept entries others)
joined-cases false entries others e =
    let long : 2 ^ 62 < length others = leb-false _ _ e in
    rw (kept-long others long) (sym (kept-long (entries ++ others) (omega (arith, long, length-append entries others))))

joined-kept : (entries others : List Entry) → joined (kept entries) (kept others) ≡ kept (entries ++ others)
joined-kept entries others = joined-cases _ entries others refl

kept_of-cases : (before : ℕ) (read behind : Result (List Entry) BadLine) → (both read (later before behind) >>= λ all. Ok (kept all)) ≡ ((read >>= λ entries. Ok (kept entries)) >>= λ so_far. later before (behind >>= λ others. Ok (kept others)) >>= λ more. Ok (joined so_far more))
kept_of-cases before (Ok entries) (Ok others) = ap Ok (sym (joined-kept entries others))
kept_of-cases before (Ok entries) (Err bad) = refl
kept_of-cases before (Err bad) behind = refl

-- what is kept of lines that follow others
kept_of-append : (lines behind : List (List ℕ)) → kept_of (lines ++ behind) ≡ (kept_of lines >>= λ so_far. later (length lines) (kept_of behind) >>= λ more. Ok (joined so_far more))
unfolding kept_of
kept_of-append lines behind =
    ap (λ read. read >>= λ all. Ok (kept all)) (entries_of_lines-append 1 lines behind ∙ ap (both (entries_of_lines 1 lines)) (entries_of_lines-later (length lines) 1 behind))
    ∙ kept_of-cases (length lines) (entries_of_lines 1 lines) (entries_of_lines 1 behind)

pub kept_of-good : (lines behind : List (List ℕ)) (so_far more : Option (List Entry)) → kept_of lines ≡ Ok so_far → kept_of behind ≡ Ok more → kept_of (lines ++ behind) ≡ Ok (joined so_far more)
kept_of-good lines behind so_far more e f = kept_of-append lines behind ∙ rw (e, f) refl

pub IsUnreadOf-behind : (lines behind : List (List ℕ)) (so_far : Option (List Entry)) (why : Unread) → kept_of lines ≡ Ok so_far → IsUnreadOf behind why → IsUnreadOf (lines ++ behind) (told_behind (length lines) why)
IsUnreadOf-behind lines behind so_far (unread.BadLine line cause) e f = kept_of-append lines behind ∙ rw (e, f) refl
IsUnreadOf-behind lines behind so_far unread.Memory e f = tt

pub kept_of-none : kept_of [] ≡ Ok (Some [])
unfolding kept_of entries_of_lines
kept_of-none = ap Ok (kept-short [] (omega arith))

-- a bad line decides, whatever stands behind it
pub IsUnreadOf-before : (lines behind : List (List ℕ)) (why : Unread) → IsUnreadOf lines why → IsUnreadOf (lines ++ behind) why
IsUnreadOf-before lines behind (unread.BadLine line cause) e = kept_of-append lines behind ∙ rw e refl
IsUnreadOf-before lines behind unread.Memory e = tt

-- a bad line is one of the lines
bad_line-cases : (number n : ℕ) (first : Result (List Entry) LineCause) (rest : Result (List Entry) BadLine) (bad : BadLine) → ((worse : BadLine) → rest ≡ Err worse → worse.line < n + (number + 1)) → (in_line number first >>= λ more. rest >>= λ ends. Ok (more ++ ends)) ≡ Err bad → bad.line < suc n + number
bad_line-cases number n (Ok first) (Ok others) bad inside e = cc
bad_line-cases number n (Ok first) (Err worse) bad inside e =
    let same : worse ≡ bad = cc in
    let below = inside worse refl in
    rw (← same) (omega (arith, below))
bad_line-cases number n (Err cause) rest bad inside e =
    let same : number ≡ bad.line = cc in
    omega (arith, same)

bad_line-below : (number : ℕ) (lines : List (List ℕ)) (bad : BadLine) → entries_of_lines number lines ≡ Err bad → bad.line < length lines + number
unfolding entries_of_lines
bad_line-below number [] bad e = cc
bad_line-below number (line ∷ lines) bad e =
    bad_line-cases number (length lines) (line_entries line) (entries_of_lines (number + 1) lines) bad (λ worse f. bad_line-below (number + 1) lines worse f) e

unkept-cases : (read : Result (List Entry) BadLine) (bad : BadLine) → (read >>= λ entries. Ok (kept entries)) ≡ Err bad → read ≡ Err bad
unkept-cases (Ok entries) bad e = cc
unkept-cases (Err other) bad e = cc

unkept-line : (lines : List (List ℕ)) (line : ℕ) (cause : LineCause) → kept_of lines ≡ Err (record { line = line; cause = cause }) → line ≤ length lines
unfolding kept_of
unkept-line lines line cause e =
    let below = bad_line-below 1 lines (record { line = line; cause = cause }) (unkept-cases (entries_of_lines 1 lines) (record { line = line; cause = cause }) e) in
    omega (arith, below)

-- no reading tells of more lines than there are
lines_told-le : (lines : List (List ℕ)) (result : Result Reading Unread) → IsRead lines result → lines_told result ≤ length lines
lines_told-le lines (Ok reading) h = omega (arith, h.counted)
lines_told-le lines (Err (unread.BadLine line cause)) h = unkept-line lines line cause h
lines_told-le lines (Err unread.Memory) h = omega arith

-- readings of pieces, in their order
abbrev pub AreRead : List (Bor (List ℕ)) → List (Result Reading Unread) → Type 0
AreRead pieces readings = AllZip (λ (piece : Bor (List ℕ)) reading. IsRead (lines_of piece.now) reading) pieces readings

-- what follows lines that were read: a piece and its reading, and those of the pieces behind it
pub record IsNextRead (text : List ℕ) (lines : List (List ℕ)) (result : Result Reading Unread) (rest : List (Result Reading Unread)) : Type 0 where
  pub piece : List (List ℕ)
  pub behind : List (Bor (List ℕ))
  pub same : lines_of text ≡ (lines ++ piece) ++ lines_of_pieces behind
  pub is_read : IsRead piece result
  pub are_read : AreRead behind rest

pub IsNextRead-first : (text : List ℕ) (lines : List (List ℕ)) (pieces : List (Bor (List ℕ))) (readings : List (Result Reading Unread)) (result : Result Reading Unread) (rest : List (Result Reading Unread)) → readings ≡ result ∷ rest → lines_of text ≡ lines ++ lines_of_pieces pieces → AreRead pieces readings → IsNextRead text lines result rest
IsNextRead-first text lines [] readings result rest e same h = absurd (rw e at h)
IsNextRead-first text lines (piece ∷ pieces) readings result rest e same h =
    let both : IsRead (lines_of piece.now) result × AreRead pieces rest = rw e at h in
    record {
      piece = lines_of piece.now;
      behind = pieces;
      same = same ∙ sym (append_assoc lines (lines_of piece.now) (lines_of_pieces pieces));
      is_read = both.0;
      are_read = both.1;
    }

-- a text has fewer lines than a number of 64 bits counts
pub few_lines : (text : List ℕ) (lines : List (List ℕ)) (reading : Reading) (result : Result Reading Unread) (rest : List (Result Reading Unread)) → length text < 2 ^ 63 → IsReadingOf lines reading → IsNextRead text lines result rest → reading.lines + lines_told result < 2 ^ 64
unfolding lines_of
few_lines text lines reading result rest short h next =
    let all : length (lines_of text) ≤ length text + 1 = omega (arith, length-slice_split is_line_feed text, count_by-le-length is_line_feed text) in
    let told = lines_told-le next.piece result next.is_read in
    omega (arith, short, all, told, h.counted, ap length next.same, length-append (lines ++ next.piece) (lines_of_pieces next.behind), length-append lines next.piece)

-- no pieces are left
pub all_read : (text : List ℕ) (lines : List (List ℕ)) (pieces : List (Bor (List ℕ))) (readings : List (Result Reading Unread)) → 0 ≡ length readings → lines_of text ≡ lines ++ lines_of_pieces pieces → AreRead pieces readings → lines_of text ≡ lines
all_read text lines [] [] n same h = same ∙ append-nil lines
all_read text lines (piece ∷ pieces) [] n same h = absurd h
all_read text lines [] (result ∷ readings) n same h = absurd h
all_read text lines (piece ∷ pieces) (result ∷ readings) n same h = absurd (omega (arith, n))
