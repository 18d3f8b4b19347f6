-- What a reader keeps, line by line.
use Rattle.std.proofs.Common.{◌≡◌, ℕ, ◌+◌, ◌^◌, ◌<◌, ◌≤◌, Bool, true, false, leb, List, [], ◌∷◌, ◌++◌, length, Option, Some, None, Result, Ok, Err, refl, sym, ap, ◌∙◌, arith, append_assoc, length-append}
use Rattle.std.proofs.lemmas.Bool.{leb-true, leb-false, le-leb, lt-leb}
use Rattle.std.proofs.lemmas.List.{append-nil}
use Rattle.std.specs.Option.{ok_or}
use Rattle.sim_base.specs.declared.fault.Fault.{Fault}
use Rattle.sim_base.specs.declared.fault.Fault.TheVariants.{TraceLine, TraceTooLong}
use Rattle.sim_base.specs.declared.fault.LineCause.{LineCause}
use Rattle.sim_base.specs.declared.trace.Entry.{Entry}
use Rattle.sim_base.specs.TraceText.{◌>>=◌, lines_of, line_entries, BadLine, in_line, entries_of_lines, trace_entries, in_trace, limited, trace_answer}
use Rattle.cpu_trace.specs.Reading.{kept, appended, kept_of, kept_from}

pub kept-short : (entries : List Entry) → length entries ≤ 2 ^ 62 → kept entries ≡ Some entries
unfolding kept
kept-short entries h = rw (le-leb (length entries) (2 ^ 62) h) refl

pub kept-long : (entries : List Entry) → 2 ^ 62 < length entries → kept entries ≡ None
unfolding kept
kept-long entries h = rw (lt-leb (length entries) (2 ^ 62) h) refl

-- what is kept line by line is what is kept of all
appended-cases : (b : Bool) (entries more : List Entry) → leb (length entries) (2 ^ 62) ≡ b → appended (kept entries) more ≡ kept (entries ++ more)
appended-cases true entries more e = rw (kept-short entries (leb-true _ _ e)) refl
appended-cases false entries more e =
    let long : 2 ^ 62 < length entries = leb-false _ _ e in
    rw (kept-long entries long) (sym (kept-long (entries ++ more) (omega (arith, long, length-append entries more))))

pub appended-kept : (entries more : List Entry) → appended (kept entries) more ≡ kept (entries ++ more)
appended-kept entries more = appended-cases _ entries more refl

-- the answer at the end
ok_or-cases : (b : Bool) (core : ℕ) (entries : List Entry) → leb (length entries) (2 ^ 62) ≡ b → ok_or (kept entries) (TraceTooLong core) ≡ limited core entries
unfolding kept limited
ok_or-cases true core entries e = rw e refl
ok_or-cases false core entries e = rw e refl

-- the answer by what is kept, or by the first bad line
abbrev answer_by : ℕ → Result (Option (List Entry)) BadLine → Result (List Entry) Fault
answer_by core read = in_trace core read >>= λ so_far. ok_or so_far (TraceTooLong core)

answer_by-cases : (core : ℕ) (read : Result (List Entry) BadLine) → (in_trace core read >>= limited core) ≡ answer_by core (read >>= λ entries. Ok (kept entries))
answer_by-cases core (Ok entries) = sym (ok_or-cases _ core entries refl)
answer_by-cases core (Err bad) = refl

-- the answer for a text is that by what is kept of its lines
trace_answer-kept : (core : ℕ) (text : List ℕ) → trace_answer core text ≡ answer_by core (kept_of (lines_of text))
unfolding trace_answer trace_entries kept_of
trace_answer-kept core text = answer_by-cases core (entries_of_lines 1 (lines_of text))

pub trace_answer-good : (core : ℕ) (text : List ℕ) (so_far : Option (List Entry)) (entries trace : List Entry) → kept_of (lines_of text) ≡ Ok so_far → so_far ≡ Some entries → trace ≡ entries → trace_answer core text ≡ Ok trace
trace_answer-good core text so_far entries trace e some same = trace_answer-kept core text ∙ ap (answer_by core) e ∙ rw (some, same) refl

pub trace_answer-long : (core : ℕ) (text : List ℕ) (so_far : Option (List Entry)) → kept_of (lines_of text) ≡ Ok so_far → so_far ≡ None → trace_answer core text ≡ Err (TraceTooLong core)
trace_answer-long core text so_far e none = trace_answer-kept core text ∙ ap (answer_by core) e ∙ rw none refl

pub trace_answer-bad : (core : ℕ) (text : List ℕ) (line : ℕ) (cause : LineCause) → kept_of (lines_of text) ≡ Err (record { line = line; cause = cause }) → trace_answer core text ≡ Err (TraceLine core line cause)
trace_answer-bad core text line cause e = trace_answer-kept core text ∙ ap (answer_by core) e

-- what is kept of lines, after these entries
abbrev kept_after : List Entry → Result (List Entry) BadLine → Result (Option (List Entry)) BadLine
kept_after entries rest = rest >>= λ more. Ok (kept (entries ++ more))

kept_after-line : (entries first : List Entry) (rest : Result (List Entry) BadLine) → kept_after (entries ++ first) rest ≡ kept_after entries (rest >>= λ others. Ok (first ++ others))
kept_after-line entries first (Ok others) = ap (λ all. Ok (kept all)) (append_assoc entries first others)
kept_after-line entries first (Err bad) = refl

kept_from-line : (entries : List Entry) (number : ℕ) (first : Result (List Entry) LineCause) (lines : List (List ℕ)) → ((all : List Entry) → kept_from (kept all) (number + 1) lines ≡ kept_after all (entries_of_lines (number + 1) lines)) → (in_line number first >>= λ more. kept_from (appended (kept entries) more) (number + 1) lines) ≡ kept_after entries (in_line number first >>= λ more. entries_of_lines (number + 1) lines >>= λ others. Ok (more ++ others))
kept_from-line entries number (Ok first) lines rest =
    ap (λ so_far. kept_from so_far (number + 1) lines) (appended-kept entries first) ∙ rest (entries ++ first) ∙ kept_after-line entries first (entries_of_lines (number + 1) lines)
kept_from-line entries number (Err cause) lines rest = refl

kept_from-is : (entries : List Entry) (number : ℕ) (lines : List (List ℕ)) → kept_from (kept entries) number lines ≡ kept_after entries (entries_of_lines number lines)
unfolding kept_from entries_of_lines
kept_from-is entries number [] = ap (λ all. Ok (kept all)) (sym (append-nil entries))
kept_from-is entries number (line ∷ lines) =
    kept_from-line entries number (line_entries line) lines (λ all. kept_from-is all (number + 1) lines)

-- what is kept of lines is what is kept from the first on
pub kept_from-first : (lines : List (List ℕ)) → kept_of lines ≡ kept_from (Some []) 1 lines
unfolding kept_of
kept_from-first lines = sym (ap (λ so_far. kept_from so_far 1 lines) (sym (kept-short [] (omega arith))) ∙ kept_from-is [] 1 lines)

-- a trace that is not too long has the entries of its text
limited-cases : (b : Bool) (core : ℕ) (all entries : List Entry) → leb (length all) (2 ^ 62) ≡ b → limited core all ≡ Ok entries → all ≡ entries
unfolding limited
limited-cases true core all entries e h =
    let same : ◌≡◌ {A = Result (List Entry) Fault} (Ok all) (Ok entries) = rw e at h in
    cc
limited-cases false core all entries e h =
    let other : ◌≡◌ {A = Result (List Entry) Fault} (Err (TraceTooLong core)) (Ok entries) = rw e at h in
    cc

entries-cases : (core : ℕ) (read : Result (List Entry) BadLine) (entries : List Entry) → (in_trace core read >>= limited core) ≡ Ok entries → read ≡ Ok entries
entries-cases core (Ok all) entries e = ap Ok (limited-cases _ core all entries refl e)
entries-cases core (Err bad) entries e = cc

pub trace_entries-from_answer : (core : ℕ) (text : List ℕ) (entries : List Entry) → trace_answer core text ≡ Ok entries → trace_entries text ≡ Ok entries
unfolding trace_answer
trace_entries-from_answer core text entries e = entries-cases core (trace_entries text) entries e
