-- Texts: lists of bytes.
--     IsText wanted text      a `String` has this text
--     texts_of texts      the texts behind references
--     IsTextAt texts text place      the text at a place, if there is one, is this one
use Rattle.std.specs.Prelude.{◌≡◌, ℕ, List, map, slice_index_or, String, string_bytes}
use Rattle.std.specs.Borrow.{Bor}
use Rattle.std.specs.declared.alloc.Global.{Global}

-- a `String` has this text
abbrev pub IsText : List ℕ → String Global → Type 0
IsText wanted text = string_bytes text ≡ wanted

-- the texts behind references
abbrev pub texts_of : List (Bor (List ℕ)) → List (List ℕ)
texts_of texts = map (λ text. text.now) texts

-- the text at a place, if there is one, is this one
abbrev pub IsTextAt : List (Bor (List ℕ)) → Bor (List ℕ) → ℕ → Type 0
IsTextAt texts text place = (slice_index_or texts place text).now ≡ text.now
