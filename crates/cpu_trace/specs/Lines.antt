-- The entries of a line that was read.
--     entries_of line      those of a line with numbers
--     entries_in line      the same, where a blank line has none
--     tokens_with plain read write      two tokens or three
--     ReadsTokens tokens result      the numbers that are read of tokens, or why none are
use Rattle.std.specs.Prelude.{◌≡◌, ℕ, List, [], ◌∷◌, ◌++◌, replicate, Option, Some, None, Result, Ok, Err, MatchResult}
use Rattle.sim_base.specs.declared.trace.Entry.{Entry}
use Rattle.sim_base.specs.declared.trace.Entry.TheVariants.{Plain, Read, Write}
use Rattle.sim_base.specs.declared.fault.LineCause.{LineCause}
use Rattle.sim_base.specs.TraceText.{entries_of_tokens}
use Rattle.cpu_trace.specs.declared.line.Line.{Line}

-- a Write, where there is an address for it
abbrev pub written : Option ℕ → List Entry
written None = []
written (Some address) = Write address ∷ []

-- the entries of a line with these numbers
abbrev pub entries_of : Line → List Entry
entries_of line = replicate line.plain Plain ++ Read line.read ∷ written line.write

-- the entries of a line, or none where it is blank
abbrev pub entries_in : Option Line → List Entry
entries_in None = []
entries_in (Some line) = entries_of line

-- two tokens, or three where there is a third
abbrev pub tokens_with : List ℕ → List ℕ → Option (List ℕ) → List (List ℕ)
tokens_with plain read None = plain ∷ read ∷ []
tokens_with plain read (Some write) = plain ∷ read ∷ write ∷ []

-- Numbers are read of tokens whose line has their entries; if none are, the line is refused for the same cause.
abbrev pub ReadsTokens : List (List ℕ) → Result Line LineCause → Type 0
ReadsTokens tokens result =
    MatchResult result (λ line. entries_of_tokens tokens ≡ Ok (entries_of line))
    (λ cause. entries_of_tokens tokens ≡ Err cause)
