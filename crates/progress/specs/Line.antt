-- The line, as it is written.
--     line_of text      a text as a line of 79 characters that replaces another
use Rattle.std.specs.Prelude.{ℕ, List, ◌∷◌}
use Rattle.std.specs.Fmt.{padded, format_spec}

-- a carriage return, and the text cut or filled with spaces to 79 characters
abbrev pub line_of : List ℕ → List ℕ
line_of text = 13 ∷ padded (format_spec 32 1 0 79 79) text
