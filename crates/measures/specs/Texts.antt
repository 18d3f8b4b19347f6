-- What is put into a text that is built, which keeps whether memory was refused.
--     Puts kind old new      a text of some kind, behind what was there
--     PutsWords words old new      these words
--     Grows old new      any text
--     PutsOutput output old new      what a value writes, if that is known
--     KeepsRefusal old new      no refusal of memory is forgotten
--     HasRoom count builder      there is room for so many bytes more
--     RefusesNone count old new      no memory is refused for so many bytes where there is room for them
--     KeepsRoom count old new      what room there was beyond them is still there
--     GoesOnWithRoom count old new      both
--     flush_right width words      words with blanks before them, up to a width
use Rattle.std.specs.Prelude.{◌≡◌, ◌+◌, ◌-◌, ◌≤◌, ⊤, false, ℕ, List, ◌++◌, length, codes, Option, IfSome, string_bytes, string_len, string_capacity}
use Rattle.std.specs.List.{repeat}
use Rattle.measures.specs.declared.text_builder.TextBuilder.{TextBuilder}

-- a text of some kind stands behind what was there, and no memory was refused before
pub record IsPut (kind : List ℕ → Type 0) (old new : TextBuilder) : Type 0 where
  pub before : old.was_refused ≡ false
  pub more : List ℕ
  pub is : kind more
  pub text_is : string_bytes new.text ≡ string_bytes old.text ++ more

-- a text of some kind was put behind what was there, unless memory was refused
pub record Puts (kind : List ℕ → Type 0) (old new : TextBuilder) : Type 0 where
  pub put : new.was_refused ≡ false → IsPut kind old new

-- these words were put behind what was there, unless memory was refused
abbrev pub PutsWords : List ℕ → TextBuilder → TextBuilder → Type 0
PutsWords words old new = Puts (λ put. put ≡ words) old new

-- any text was put behind what was there, unless memory was refused
abbrev pub Grows : TextBuilder → TextBuilder → Type 0
Grows old new = Puts (λ put. ⊤) old new

-- what a value writes was put behind what was there, if that is known, unless memory was refused
abbrev pub PutsOutput : Option (List ℕ) → TextBuilder → TextBuilder → Type 0
PutsOutput output old new = IfSome output (λ words. PutsWords words old new)

-- no memory was refused before, where none is refused now
abbrev pub KeepsRefusal : TextBuilder → TextBuilder → Type 0
KeepsRefusal old new = new.was_refused ≡ false → old.was_refused ≡ false

-- the text has room for so many bytes more in the memory that it has
abbrev pub HasRoom : ℕ → TextBuilder → Type 0
HasRoom count builder = string_len builder.text + count ≤ string_capacity builder.text

-- no memory is refused where none was before and the text has room for so many bytes more
abbrev pub RefusesNone : ℕ → TextBuilder → TextBuilder → Type 0
RefusesNone count old new = old.was_refused ≡ false → HasRoom count old → new.was_refused ≡ false

-- what room there was beyond so many bytes is still there
abbrev pub KeepsRoom : ℕ → TextBuilder → TextBuilder → Type 0
KeepsRoom count old new = (more : ℕ) → HasRoom (count + more) old → HasRoom more new

-- Where no memory was refused before and the text has room for so many bytes more, none is refused now, and what room
-- there was beyond that is still there.
abbrev pub GoesOnWithRoom : ℕ → TextBuilder → TextBuilder → Type 0
GoesOnWithRoom count old new = RefusesNone count old new × KeepsRoom count old new

-- words with blanks before them where they are shorter than a width
abbrev pub flush_right : ℕ → List ℕ → List ℕ
flush_right width words = repeat (width - length words) (codes " ") ++ words
