-- How a line about a file begins: with where a reader should look.
--     file_head path, line_head path line, row_head path row      the path of a file, with the number of a line or of a row
use Rattle.std.specs.Prelude.{ℕ, List, ◌++◌, codes, decimal}

-- the path of a file
abbrev pub file_head : List ℕ → List ℕ
file_head path = path ++ codes ":"

-- the path of a file and the number of a line, counted from 1, as compilers write it
abbrev pub line_head : List ℕ → ℕ → List ℕ
line_head path line = path ++ codes ":" ++ decimal line ++ codes ": "

-- the path of a file and the number of a row, of which 0 is the header
abbrev pub row_head : List ℕ → ℕ → List ℕ
row_head path row = path ++ codes ": row " ++ decimal row
