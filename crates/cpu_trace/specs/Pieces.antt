-- Texts in pieces.
--     lines_of_pieces pieces      the lines of pieces, one piece's after another's
use Rattle.std.specs.Prelude.{ℕ, List}
use Rattle.std.specs.Borrow.{Bor}
use Rattle.std.specs.List.{flat_map}
use Rattle.sim_base.specs.TraceText.{lines_of}

-- the lines of pieces, one piece's after another's
abbrev pub lines_of_pieces : List (Bor (List ℕ)) → List (List ℕ)
lines_of_pieces pieces = flat_map (λ piece. lines_of piece.now) pieces
