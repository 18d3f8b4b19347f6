-- What a text stands for, and what its lines give.
use Rattle.std.proofs.Common.{◌≡◌, ℕ, ◌^◌, ◌<◌, ◌≤◌, inl, inr, Bool, true, false, not, leb, List, [], ◌∷◌, ◌++◌, length, get_or, Result, Ok, Err, refl, sym, ap, ◌∙◌, subst, arith, codes}
use Rattle.std.proofs.lemmas.Bool.{and_parts, and_from, ne_eqb, leb-false, false≢true, not-true}
use Rattle.std.proofs.lemmas.List.Folds.{list_all-append}
use Rattle.std.proofs.lemmas.List.Splits.{slice_split_none, slice_split_at, join_with_byte-slice_split}
use Rattle.std.proofs.lemmas.List.Sums.{AllPass-from_list_all}
use Rattle.std.specs.Char.{digit_value}
use Rattle.std.specs.List.{All, AllZip, flat_map, join_with_byte, list_all}
use Rattle.std.specs.Str.Parse.{AllDigits}
use Rattle.sim_base.specs.declared.fault.Fault.{Fault}
use Rattle.sim_base.specs.declared.fault.Fault.TheVariants.{TraceLine, TraceTooLong}
use Rattle.sim_base.specs.declared.trace.Entry.{Entry}
use Rattle.sim_base.specs.TraceText.{◌>>=◌, is_line_feed, is_separator, lines_of, BadLine, entries_of_lines, trace_entries, in_trace, limited, trace_answer}
use Rattle.sim_base.specs.TraceGrammar.{WritesNumber, IsGap, JoinsNumbers, StandsForLine, StandsForTrace, IsRefusedBy}
use Rattle.cpu_trace.proofs.GrammarLemmas.{line_entries-meant, entries_of_lines-meant, AreMeant-entries}

-- a byte of a line
abbrev is_of_line : ℕ → Bool
is_of_line byte = not (is_line_feed byte)

-- bytes of a line
abbrev AreOfLine : List ℕ → Type 0
AreOfLine bytes = list_all is_of_line bytes ≡ true

join-of_line : (front back : List ℕ) → AreOfLine front → AreOfLine back → AreOfLine (front ++ back)
join-of_line front back h k = list_all-append is_of_line front back ∙ and_from (list_all is_of_line front) (list_all is_of_line back) h k

-- a separator is no line feed, and a digit is none
separator-of_line : (byte : ℕ) → is_separator byte ≡ true → is_of_line byte ≡ true
separator-of_line byte h = ap not (ne_eqb byte 10 (λ e. false≢true (rw e at h)))

gap-of_line : (gap : List ℕ) → IsGap gap → AreOfLine gap
gap-of_line [] h = refl
gap-of_line (byte ∷ gap) h =
    let parts = and_parts (is_separator byte) (list_all is_separator gap) h in
    and_from (is_of_line byte) (list_all is_of_line gap) (separator-of_line byte parts.0) (gap-of_line gap parts.1)

digits-of_line : (radix : ℕ) (digits : List ℕ) → radix ≤ 16 → AllDigits radix digits → AreOfLine digits
digits-of_line radix [] small h = refl
digits-of_line radix (c ∷ digits) small h =
    let other : is_of_line c ≡ true = ap not (ne_eqb c 10 (λ e. let digit : digit_value 10 < radix = rw e at h.0 in absurd (omega (arith, digit, small)))) in
    and_from (is_of_line c) (list_all is_of_line digits) other (digits-of_line radix digits small h.1)

token-of_line : (token : List ℕ) (number : ℕ) → WritesNumber token number → AreOfLine token
token-of_line token number (inl h) = digits-of_line 10 token (omega arith) h.numeral.1
token-of_line token number (inr h) =
    let digits = digits-of_line 16 h.digits (omega arith) h.are_digits.numeral.1 in
    let by_mark = λ (m : List ℕ) (e : h.mark ≡ m). h.parts ∙ ap (λ mark. mark ++ h.digits) e in
    elim h.is_mark [ inl e ↦ rw (by_mark (codes "0x") e) digits | inr e ↦ rw (by_mark (codes "0X") e) digits ]

pub joined-of_line : (line numbers : List ℕ) → JoinsNumbers line numbers → AreOfLine line
joined-of_line line [] h = gap-of_line line h
joined-of_line line (number ∷ numbers) h =
    let token = token-of_line h.1.token number h.1.is_number in
    let rest = joined-of_line h.0 numbers h.2 in
    rw h.1.parts (join-of_line h.1.gap (h.1.token ++ h.0) (gap-of_line h.1.gap h.1.is_gap) (join-of_line h.1.token h.0 token rest))

pub no_line_feed : (line : List ℕ) → AreOfLine line → All (λ byte. is_line_feed byte ≡ false) line
no_line_feed line h k d lt = not-true (is_line_feed (get_or line k d)) (AllPass-from_list_all is_of_line line h k d lt)

-- lines that are joined are the lines of the text
lines_of-join : (line : List ℕ) (lines : List (List ℕ)) (part : List Entry) (parts : List (List Entry)) → AllZip StandsForLine (line ∷ lines) (part ∷ parts) → lines_of (join_with_byte 10 (line ∷ lines)) ≡ line ∷ lines
unfolding lines_of
lines_of-join line [] part parts h = slice_split_none is_line_feed line (no_line_feed line (joined-of_line line h.0.numbers h.0.joined))
lines_of-join line (next ∷ lines) part [] h = absurd h.1
lines_of-join line (next ∷ lines) part (other ∷ parts) h =
    slice_split_at is_line_feed line 10 (join_with_byte 10 (next ∷ lines)) (no_line_feed line (joined-of_line line h.0.numbers h.0.joined)) refl
    ∙ ap (λ rest. line ∷ rest) (lines_of-join next lines other parts h.1)

trace_entries-joined : (lines : List (List ℕ)) (parts : List (List Entry)) → AllZip StandsForLine lines parts → trace_entries (join_with_byte 10 lines) ≡ Ok (flat_map (λ part. part) parts)
unfolding trace_entries entries_of_lines lines_of
trace_entries-joined [] [] h = rw (line_entries-meant [] [] (record { numbers = []; joined = refl; are_entries = refl })) refl
trace_entries-joined [] (part ∷ parts) h = absurd h
trace_entries-joined (line ∷ lines) [] h = absurd h
trace_entries-joined (line ∷ lines) (part ∷ parts) h =
    ap (entries_of_lines 1) (lines_of-join line lines part parts h) ∙ entries_of_lines-meant (line ∷ lines) (part ∷ parts) 1 h

-- a text that stands for entries has these
pub trace_entries-meant : (text : List ℕ) (entries : List Entry) → StandsForTrace text entries → trace_entries text ≡ Ok entries
trace_entries-meant text entries h = ap trace_entries h.joined ∙ trace_entries-joined h.lines h.parts h.each_line ∙ ap Ok (sym h.are_entries)

-- and it stands for the entries that it has
pub StandsForTrace-entries : (text : List ℕ) (entries : List Entry) → trace_entries text ≡ Ok entries → StandsForTrace text entries
unfolding trace_entries lines_of
StandsForTrace-entries text entries h =
    let meant = AreMeant-entries (lines_of text) 1 entries h in
    record {
      lines = lines_of text;
      parts = meant.0;
      joined = sym (join_with_byte-slice_split 10 text);
      each_line = meant.1;
      are_entries = meant.2;
    }

limited-refuses : (b : Bool) (core : ℕ) (text : List ℕ) (entries : List Entry) (fault : Fault) → leb (length entries) (2 ^ 62) ≡ b → trace_entries text ≡ Ok entries → limited core entries ≡ Err fault → IsRefusedBy text fault
unfolding limited
limited-refuses true core text entries fault long e h =
    let other : ◌≡◌ {A = Result (List Entry) Fault} (Ok entries) (Err fault) = rw long at h in
    cc
limited-refuses false core text entries fault long e h =
    let both : ◌≡◌ {A = Result (List Entry) Fault} (Err (TraceTooLong core)) (Err fault) = rw long at h in
    let same : TraceTooLong core ≡ fault = cc in
    subst (IsRefusedBy text) same (entries, StandsForTrace-entries text entries e, leb-false (length entries) (2 ^ 62) long)

refusal-cases : (core : ℕ) (text : List ℕ) (read : Result (List Entry) BadLine) (fault : Fault) → trace_entries text ≡ read → (in_trace core read >>= limited core) ≡ Err fault → IsRefusedBy text fault
refusal-cases core text (Ok entries) fault e h = limited-refuses _ core text entries fault refl e h
refusal-cases core text (Err bad) fault e h =
    let same : TraceLine core bad.line bad.cause ≡ fault = cc in
    subst (IsRefusedBy text) same (λ entries meant.
    let both : ◌≡◌ {A = Result (List Entry) BadLine} (Ok entries) (Err bad) = sym (trace_entries-meant text entries meant) ∙ e in
    cc)

-- what a refusal says of the text
pub IsRefusedBy-answer : (core : ℕ) (text : List ℕ) (fault : Fault) → trace_answer core text ≡ Err fault → IsRefusedBy text fault
unfolding trace_answer
IsRefusedBy-answer core text fault h = refusal-cases core text (trace_entries text) fault refl h
