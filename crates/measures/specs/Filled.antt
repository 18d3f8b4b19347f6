-- Forms, which have a placeholder, `{}`, for each piece that is filled in.
--     IsCut form words rest      a form is these words, its first placeholder, and a rest
--     FillsNext kind form rest text      the text of a form up to its first placeholder, and of a piece in its place
--     IsFilled appends form pieces text      the text of a form with pieces in place of its placeholders, in turn
use Rattle.std.specs.Prelude.{◌≡◌, ◌≢◌, ℕ, ◌<◌, List, [], ◌∷◌, ◌++◌, ◌⊎◌, length, codes}

-- a form is these words, its first placeholder, and a rest
pub record IsCut (form words rest : List ℕ) : Type 0 where
  pub form_is : form ≡ words ++ (codes "{}" ++ rest)
  pub first : (sooner behind : List ℕ) → length sooner < length words → form ≢ sooner ++ (codes "{}" ++ behind)

-- the text of a form up to its first placeholder, and behind it a text of some kind
pub record FillsPlaceholder (kind : List ℕ → Type 0) (form rest text : List ℕ) : Type 0 where
  pub words : List ℕ
  pub put : List ℕ
  pub cut : IsCut form words rest
  pub is : kind put
  pub text_is : text ≡ words ++ put

-- no text of a form without a placeholder, all of which is left
pub record HasNoPlaceholder (form rest text : List ℕ) : Type 0 where
  pub none : (words behind : List ℕ) → form ≢ words ++ (codes "{}" ++ behind)
  pub rest_is : rest ≡ form
  pub text_is : text ≡ []

-- the text of a form up to its first placeholder, and of a piece in place of that, if there is one
abbrev pub FillsNext : (List ℕ → Type 0) → List ℕ → List ℕ → List ℕ → Type 0
FillsNext kind form rest text = FillsPlaceholder kind form rest text ⊎ HasNoPlaceholder form rest text

-- the text of a form with pieces in place of its placeholders, in turn
unfoldable pub IsFilled : {P : Type 0} → (P → List ℕ → Type 0) → List ℕ → List P → List ℕ → Type 0
IsFilled appends form [] text = text ≡ form
IsFilled appends form (piece ∷ pieces) text =
    (rest : List ℕ) × (first : List ℕ) × (later : List ℕ) × FillsNext (appends piece) form rest first
    × IsFilled appends rest pieces later × (text ≡ first ++ later)
