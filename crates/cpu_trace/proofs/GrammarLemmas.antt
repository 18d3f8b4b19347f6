-- The grammar of a text, and the entries that are made of its lines.
use Rattle.std.proofs.Common.{◌≡◌, ℕ, ◌+◌, List, [], ◌∷◌, ◌++◌, replicate, Some, Result, Ok, Err, refl, ap, ◌∙◌}
use Rattle.std.proofs.lemmas.Option.{same_Some}
use Rattle.std.specs.List.{AllZip, flat_map}
use Rattle.sim_base.specs.declared.fault.LineCause.{LineCause}
use Rattle.sim_base.specs.declared.trace.Entry.{Entry}
use Rattle.sim_base.specs.declared.trace.Entry.TheVariants.{Plain, Read, Write}
use Rattle.sim_base.specs.TraceText.{◌>>=◌, tokens_of, number_of, entries_of_tokens, line_entries, BadLine, in_line, entries_of_lines}
use Rattle.sim_base.specs.TraceGrammar.{WritesNumber, entries_of_numbers, StandsForLine}
use Rattle.cpu_trace.proofs.Joining.{tokens-of_joined, joined-from_tokens}
use Rattle.cpu_trace.proofs.Spelling.{number_of-written, WritesNumber-number_of}

-- tokens that write numbers have the entries of these
entries_of_tokens-written : (tokens : List (List ℕ)) (numbers : List ℕ) (entries : List Entry) → AllZip WritesNumber tokens numbers → entries_of_numbers numbers ≡ Some entries → entries_of_tokens tokens ≡ Ok entries
unfolding entries_of_tokens
entries_of_tokens-written [] [] entries h e = ap Ok (same_Some [] entries e)
entries_of_tokens-written [] (n ∷ numbers) entries h e = absurd h
entries_of_tokens-written (a ∷ tokens) [] entries h e = absurd h
entries_of_tokens-written (a ∷ []) (n ∷ []) entries h e = cc
entries_of_tokens-written (a ∷ []) (n ∷ m ∷ numbers) entries h e = absurd h.1
entries_of_tokens-written (a ∷ b ∷ tokens) (n ∷ []) entries h e = absurd h.1
entries_of_tokens-written (a ∷ b ∷ []) (n ∷ m ∷ []) entries h e =
    rw (number_of-written a n h.0, number_of-written b m h.1.0) (ap Ok (same_Some (replicate n Plain ++ Read m ∷ []) entries e))
entries_of_tokens-written (a ∷ b ∷ []) (n ∷ m ∷ k ∷ numbers) entries h e = absurd h.1.1
entries_of_tokens-written (a ∷ b ∷ d ∷ tokens) (n ∷ m ∷ []) entries h e = absurd h.1.1
entries_of_tokens-written (a ∷ b ∷ d ∷ []) (n ∷ m ∷ k ∷ []) entries h e =
    rw (number_of-written a n h.0, number_of-written b m h.1.0, number_of-written d k h.1.1.0)
    (ap Ok (same_Some (replicate n Plain ++ Read m ∷ Write k ∷ []) entries e))
entries_of_tokens-written (a ∷ b ∷ d ∷ []) (n ∷ m ∷ k ∷ l ∷ numbers) entries h e = absurd h.1.1.1
entries_of_tokens-written (a ∷ b ∷ d ∷ f ∷ tokens) (n ∷ m ∷ k ∷ []) entries h e = absurd h.1.1.1
entries_of_tokens-written (a ∷ b ∷ d ∷ f ∷ tokens) (n ∷ m ∷ k ∷ l ∷ numbers) entries h e = cc

-- tokens with entries write numbers
abbrev AreWritten : List (List ℕ) → List Entry → Type 0
AreWritten tokens entries = (numbers : List ℕ) × AllZip WritesNumber tokens numbers × (entries_of_numbers numbers ≡ Some entries)

two_written : (a b : List ℕ) (r s : Result ℕ LineCause) (entries : List Entry) → number_of a ≡ r → number_of b ≡ s → (r >>= λ n. s >>= λ m. Ok (replicate n Plain ++ Read m ∷ [])) ≡ Ok entries → AreWritten (a ∷ b ∷ []) entries
two_written a b (Ok n) (Ok m) entries e f h = (n ∷ m ∷ [], (WritesNumber-number_of a n e, (WritesNumber-number_of b m f, tt)), ap Some cc)
two_written a b (Ok n) (Err cause) entries e f h = cc
two_written a b (Err cause) s entries e f h = cc

three_written : (a b d : List ℕ) (r s t : Result ℕ LineCause) (entries : List Entry) → number_of a ≡ r → number_of b ≡ s → number_of d ≡ t → (r >>= λ n. s >>= λ m. t >>= λ k. Ok (replicate n Plain ++ Read m ∷ Write k ∷ [])) ≡ Ok entries → AreWritten (a ∷ b ∷ d ∷ []) entries
three_written a b d (Ok n) (Ok m) (Ok k) entries e f g h =
    (n ∷ m ∷ k ∷ [], (WritesNumber-number_of a n e, (WritesNumber-number_of b m f, (WritesNumber-number_of d k g, tt))), ap Some cc)
three_written a b d (Ok n) (Ok m) (Err cause) entries e f g h = cc
three_written a b d (Ok n) (Err cause) t entries e f g h = cc
three_written a b d (Err cause) s t entries e f g h = cc

AreWritten-entries : (tokens : List (List ℕ)) (entries : List Entry) → entries_of_tokens tokens ≡ Ok entries → AreWritten tokens entries
unfolding entries_of_tokens
AreWritten-entries [] entries h = ([], tt, ap Some cc)
AreWritten-entries (a ∷ []) entries h = cc
AreWritten-entries (a ∷ b ∷ []) entries h = two_written a b _ _ entries refl refl h
AreWritten-entries (a ∷ b ∷ d ∷ []) entries h = three_written a b d _ _ _ entries refl refl refl h
AreWritten-entries (a ∷ b ∷ d ∷ f ∷ tokens) entries h = cc

-- a line that stands for entries has these, and no other line does
pub line_entries-meant : (line : List ℕ) (entries : List Entry) → StandsForLine line entries → line_entries line ≡ Ok entries
unfolding line_entries
line_entries-meant line entries h = entries_of_tokens-written (tokens_of line) h.numbers entries (tokens-of_joined line h.numbers h.joined) h.are_entries

StandsForLine-entries : (line : List ℕ) (entries : List Entry) → line_entries line ≡ Ok entries → StandsForLine line entries
unfolding line_entries
StandsForLine-entries line entries h =
    let written = AreWritten-entries (tokens_of line) entries h in
    record { numbers = written.0; joined = joined-from_tokens written.0 line (tokens_of line) refl written.1; are_entries = written.2 }

-- lines that each stand for entries have these entries, one line's after the other's
pub entries_of_lines-meant : (lines : List (List ℕ)) (parts : List (List Entry)) (number : ℕ) → AllZip StandsForLine lines parts → entries_of_lines number lines ≡ Ok (flat_map (λ part. part) parts)
unfolding entries_of_lines
entries_of_lines-meant [] [] number h = refl
entries_of_lines-meant [] (part ∷ parts) number h = absurd h
entries_of_lines-meant (line ∷ lines) [] number h = absurd h
entries_of_lines-meant (line ∷ lines) (part ∷ parts) number h =
    rw (line_entries-meant line part h.0, entries_of_lines-meant lines parts (number + 1) h.1) refl

abbrev pub AreMeant : List (List ℕ) → List Entry → Type 0
AreMeant lines entries = (parts : List (List Entry)) × AllZip StandsForLine lines parts × (entries ≡ flat_map (λ part. part) parts)

meant-line : (line : List ℕ) (lines : List (List ℕ)) (number : ℕ) (first : Result (List Entry) LineCause) (rest : Result (List Entry) BadLine) (entries : List Entry) → line_entries line ≡ first → ((others : List Entry) → rest ≡ Ok others → AreMeant lines others) → (in_line number first >>= λ x. rest >>= λ others. Ok (x ++ others)) ≡ Ok entries → AreMeant (line ∷ lines) entries
meant-line line lines number (Ok first) (Ok others) entries e more h =
    let rest = more others refl in
    let all : entries ≡ first ++ others = cc in
    (first ∷ rest.0, (StandsForLine-entries line first e, rest.1), all ∙ ap (λ xs. first ++ xs) rest.2)
meant-line line lines number (Ok first) (Err bad) entries e more h = cc
meant-line line lines number (Err cause) rest entries e more h = cc

pub AreMeant-entries : (lines : List (List ℕ)) (number : ℕ) (entries : List Entry) → entries_of_lines number lines ≡ Ok entries → AreMeant lines entries
unfolding entries_of_lines
AreMeant-entries [] number entries h = ([], tt, cc)
AreMeant-entries (line ∷ lines) number entries h =
    meant-line line lines number (line_entries line) (entries_of_lines (number + 1) lines) entries refl (λ others e. AreMeant-entries lines (number + 1) others e) h
