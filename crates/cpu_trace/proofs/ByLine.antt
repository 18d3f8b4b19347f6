-- The lines of a text, read one after another.
use Rattle.std.proofs.Common.{◌≡◌, ℕ, ◌+◌, ◌<◌, ◌≤◌, not, List, [], ◌∷◌, ◌++◌, length, get_or, take, drop, Bor, Option, Some, None, Ok, Err, refl, sym, ap, ◌∙◌, arith}
use Rattle.std.proofs.lemmas.List.{length-drop, take-append-drop, get_or-drop, take_all, drop_more}
use Rattle.std.proofs.lemmas.List.Splits.{slice_split_first, slice_split_none}
use Rattle.std.proofs.lemmas.List.Sums.{prefix_len_passes, prefix_len_stops}
use Rattle.std.specs.List.{prefix_len}
use Rattle.std.specs.Option.{MatchOption}
use Rattle.std.proofs.lemmas.Bool.{not-true, not-false, eqb-true}
use Rattle.sim_base.specs.declared.fault.LineCause.{LineCause}
use Rattle.sim_base.specs.declared.trace.Entry.{Entry}
use Rattle.sim_base.specs.TraceText.{◌>>=◌, is_line_feed, lines_of, line_entries, in_line}
use Rattle.cpu_trace.specs.Reading.{appended, kept_of, kept_from, IsReadUpTo, IsReadingOf}
use Rattle.cpu_trace.proofs.Kept.{kept_from-first}

-- how long the first line of a text is
abbrev pub line_len : List ℕ → ℕ
line_len text = prefix_len (λ byte. not (is_line_feed byte)) text

-- a text with no line feed is one line
pub lines_of-last : (text : List ℕ) → length (drop (line_len text) text) ≡ 0 → lines_of text ≡ take (line_len text) text ∷ []
unfolding lines_of
lines_of-last text none =
    let n = line_len text in
    let all : length text ≤ n = omega (arith, none, length-drop n text) in
    slice_split_none is_line_feed text (λ k d lt. not-true _ (prefix_len_passes (λ byte. not (is_line_feed byte)) text k d (omega (arith, lt, all))))
    ∙ ap (λ line. line ∷ []) (sym (take_all n text all))

-- and else its first line ends at its first line feed
pub lines_of-first : (text : List ℕ) → 0 < length (drop (line_len text) text) → lines_of text ≡ take (line_len text) text ∷ lines_of (drop 1 (drop (line_len text) text))
unfolding lines_of
lines_of-first text some =
    let n = line_len text in
    let inside : n < length text = omega (arith, some, length-drop n text) in
    slice_split_first is_line_feed text 0 inside ∙ ap (λ rest. take n text ∷ lines_of rest) (sym (ap (drop 1) (drop_more text n 0 inside)))

-- a text with a line feed from a place on
pub at_line_feed : (text : List ℕ) (size : ℕ) → 0 < length (drop (size + line_len (drop size text)) text)
    → text ≡ take (size + line_len (drop size text)) text ++ 10 ∷ drop 1 (drop (size + line_len (drop size text)) text)
at_line_feed text size some =
    let rest = drop size text in
    let n = line_len rest in
    let at = size + n in
    let inside : at < length text = omega (arith, some, length-drop at text) in
    let within : n < length rest = omega (arith, inside, length-drop size text) in
    let feed : get_or text at 0 ≡ 10 = sym (get_or-drop size text n 0) ∙ eqb-true _ _ (not-false _ (prefix_len_stops (λ byte. not (is_line_feed byte)) rest 0 within)) in
    let behind : drop at text ≡ 10 ∷ drop (at + 1) text = drop_more text at 0 inside ∙ ap (λ byte. byte ∷ drop (at + 1) text) feed in
    sym (take-append-drop at text) ∙ ap (λ t. take at text ++ t) (behind ∙ ap (λ t. 10 ∷ t) (sym (ap (drop 1) behind)))

-- so a text has a first line in any case
pub first_line : (text line : List ℕ) (behind : Option (Bor (List ℕ))) → MatchOption behind (lines_of text ≡ line ∷ []) (λ rest. lines_of text ≡ line ∷ lines_of rest.now) → (lines : List (List ℕ)) × (lines_of text ≡ line ∷ lines)
first_line text line None h = ([], h)
first_line text line (Some rest) h = (lines_of rest.now, h)

kept_from-good : (so_far : Option (List Entry)) (number : ℕ) (line : List ℕ) (lines : List (List ℕ)) (entries : List Entry) → line_entries line ≡ Ok entries → kept_from so_far number (line ∷ lines) ≡ kept_from (appended so_far entries) (number + 1) lines
unfolding kept_from
kept_from-good so_far number line lines entries e =
    ap (λ read. in_line number read >>= λ more. kept_from (appended so_far more) (number + 1) lines) e

kept_from-bad : (so_far : Option (List Entry)) (number : ℕ) (line : List ℕ) (lines : List (List ℕ)) (cause : LineCause) → line_entries line ≡ Err cause → kept_from so_far number (line ∷ lines) ≡ Err (record { line = number; cause = cause })
unfolding kept_from
kept_from-bad so_far number line lines cause e =
    ap (λ read. in_line number read >>= λ more. kept_from (appended so_far more) (number + 1) lines) e

kept_from-end : (so_far : Option (List Entry)) (number : ℕ) → kept_from so_far number [] ≡ Ok so_far
unfolding kept_from
kept_from-end so_far number = refl

-- a line more
pub IsReadUpTo-line : (text : List ℕ) (before : Option (List Entry)) (count : ℕ) (rest behind line : List ℕ) (so_far after : Option (List Entry)) (entries : List Entry) → IsReadUpTo text before count rest so_far → lines_of rest ≡ line ∷ lines_of behind → line_entries line ≡ Ok entries → after ≡ appended so_far entries → length behind < length rest → IsReadUpTo text before (count + 1) behind after
IsReadUpTo-line text before count rest behind line so_far after entries h first good more shorter =
    record {
      counted = omega (arith, h.counted, ap length first);
      is_kept = λ number.
          h.is_kept number
          ∙ ap (kept_from so_far (number + count)) first
          ∙ kept_from-good so_far (number + count) line (lines_of behind) entries good
          ∙ ap (λ o. kept_from o (number + count + 1) (lines_of behind)) (sym more)
          ∙ ap (λ n. kept_from after n (lines_of behind)) (omega arith);
      shorter = omega (arith, h.shorter, shorter);
    }

-- more lines
pub IsReadUpTo-lines : (text : List ℕ) (before : Option (List Entry)) (count : ℕ) (rest : List ℕ) (so_far : Option (List Entry)) (more : ℕ) (behind : List ℕ) (after : Option (List Entry)) → IsReadUpTo text before count rest so_far → IsReadUpTo rest so_far more behind after → IsReadUpTo text before (count + more) behind after
IsReadUpTo-lines text before count rest so_far more behind after h k =
    record {
      counted = omega (arith, h.counted, k.counted);
      is_kept = λ number. h.is_kept number ∙ k.is_kept (number + count) ∙ ap (λ n. kept_from after n (lines_of behind)) (omega arith);
      shorter = omega (arith, h.shorter, k.shorter);
    }

-- a bad line decides
pub kept_of-bad : (text : List ℕ) (count : ℕ) (rest line : List ℕ) (lines : List (List ℕ)) (so_far : Option (List Entry)) (cause : LineCause) → IsReadUpTo text (Some []) count rest so_far → lines_of rest ≡ line ∷ lines → line_entries line ≡ Err cause → kept_of (lines_of text) ≡ Err (record { line = count + 1; cause = cause })
kept_of-bad text count rest line lines so_far cause h first bad =
    let number : 1 + count ≡ count + 1 = omega arith in
    kept_from-first (lines_of text)
    ∙ h.is_kept 1
    ∙ ap (kept_from so_far (1 + count)) first
    ∙ kept_from-bad so_far (1 + count) line lines cause bad
    ∙ ap (λ n. Err (record { line = n; cause = cause })) number

-- after the last line
pub IsReadingOf-end : (text : List ℕ) (count : ℕ) (rest line : List ℕ) (so_far after : Option (List Entry)) (entries : List Entry) → IsReadUpTo text (Some []) count rest so_far → lines_of rest ≡ line ∷ [] → line_entries line ≡ Ok entries → after ≡ appended so_far entries → IsReadingOf (lines_of text) (record { lines = count + 1; kept = after })
IsReadingOf-end text count rest line so_far after entries h last good more =
    record {
      counted = omega (arith, h.counted, ap length last);
      is_kept =
          kept_from-first (lines_of text)
          ∙ h.is_kept 1
          ∙ ap (kept_from so_far (1 + count)) last
          ∙ kept_from-good so_far (1 + count) line [] entries good
          ∙ kept_from-end (appended so_far entries) (1 + count + 1)
          ∙ ap Ok (sym more);
    }
