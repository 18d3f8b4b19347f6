-- What stands on a page for a piece.
--     group_text group      a group of three digits that is not the first one, as `,067`
--     IsGrouped number text      a number in groups of three digits, as `1,234,067`
--     shortest_text thousandths      a number of thousandths without zeros at the end, as `1333.5`
--     IsPieceText piece text      the text of a piece
use Rattle.std.specs.Prelude.{◌≡◌, ℕ, ◌/◌, ◌%◌, ◌<◌, ◌≤◌, ◌==◌, List, ◌++◌, if◌then◌else◌, codes, decimal}
use Rattle.measures.specs.Number.{tenths_text, hundredths_text, thousandths_text}
use Rattle.request_pictures.specs.declared.drawing.markup.Piece.{Piece}
use Rattle.request_pictures.specs.declared.drawing.markup.Piece.TheVariants.{Text, Number, Grouped, Tenths, Hundredths, Thousandths}

-- a comma and three digits, as `,067`
abbrev pub group_text : ℕ → List ℕ
group_text group = codes "," ++ decimal (group / 100) ++ decimal (group / 10 % 10) ++ decimal (group % 10)

-- a number in groups of three digits, as `1,234,067`
pub data IsGrouped : ℕ → List ℕ → Type 0 where
  few : (number : ℕ) → number < 1000 → IsGrouped number (decimal number)
  more : (number : ℕ) (front : List ℕ) → 1000 ≤ number → IsGrouped (number / 1000) front
      → IsGrouped number (front ++ group_text (number % 1000))

-- a number of thousandths without zeros at the end, and without the point where no place is left: `1200`, `1333.5`
abbrev pub shortest_text : ℕ → List ℕ
shortest_text thousandths =
    if thousandths % 1000 == 0 then decimal (thousandths / 1000)
    else (if thousandths % 100 == 0 then tenths_text (thousandths / 100)
    else (if thousandths % 10 == 0 then hundredths_text (thousandths / 10)
    else thousandths_text thousandths))

-- the text of a piece
abbrev pub IsPieceText : Piece → List ℕ → Type 0
IsPieceText (Text words) text = text ≡ words.now
IsPieceText (Number number) text = text ≡ decimal number
IsPieceText (Grouped number) text = IsGrouped number text
IsPieceText (Tenths number) text = text ≡ tenths_text number
IsPieceText (Hundredths number) text = text ≡ hundredths_text number
IsPieceText (Thousandths number) text = text ≡ shortest_text number
