-- What a text begins with, where its first line has the usual form.
--     BeginsWithDigits radix text number rest      digits that write a number, and then the rest
--     BeginsWithToken text number rest      a token that writes a number, and then the rest
--     BeginsWithLine text numbers rest      a line with these numbers and its line feed, and then the rest
use Rattle.std.specs.Prelude.{◌≡◌, ℕ, List, ◌∷◌, ◌++◌, Ok}
use Rattle.sim_base.specs.TraceGrammar.{AreDigitsOf, WritesNumber}
use Rattle.sim_base.specs.TraceText.{lines_of, line_entries}
use Rattle.cpu_trace.specs.declared.line.Line.{Line}
use Rattle.cpu_trace.specs.Lines.{entries_of}

-- digits that write a number, and then the rest
pub record BeginsWithDigits (radix : ℕ) (text : List ℕ) (number : ℕ) (rest : List ℕ) : Type 0 where
  pub digits : List ℕ
  pub are_digits : AreDigitsOf radix digits number
  pub parts : text ≡ digits ++ rest

-- a token that writes a number, and then the rest
pub record BeginsWithToken (text : List ℕ) (number : ℕ) (rest : List ℕ) : Type 0 where
  pub token : List ℕ
  pub is_number : WritesNumber token number
  pub parts : text ≡ token ++ rest

-- a line with these numbers, and then the lines of the rest
pub record BeginsWithLine (text : List ℕ) (numbers : Line) (rest : List ℕ) : Type 0 where
  pub line : List ℕ
  pub has_numbers : line_entries line ≡ Ok (entries_of numbers)
  pub parts : lines_of text ≡ line ∷ lines_of rest
