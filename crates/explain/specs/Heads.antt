-- How the texts about a file begin: with where a reader should look.
--     Begins head text      a text has this beginning
--     IsSilent text      a text is empty
--     StartsBy head text      the same as Begins, of a `String`
--     trace_path paths core      the path of a core's trace
--     length_text path      what is said of a trace that is too long
use Rattle.std.specs.Prelude.{ℕ, ◌≡◌, List, [], ◌++◌, codes, slice_get, string_bytes, String}
use Rattle.std.specs.Borrow.{Bor}
use Rattle.std.specs.Option.{option_map_or}
use Rattle.std.specs.declared.alloc.Global.{Global}
use Rattle.sim_base.specs.Texts.{IsText}

-- a text has this beginning
pub record Begins (head text : List ℕ) : Type 0 where
  pub rest : List ℕ
  pub is : text ≡ head ++ rest

-- a text begins so
abbrev pub StartsBy : List ℕ → String Global → Type 0
StartsBy head text = Begins head (string_bytes text)

-- a text is empty
abbrev pub IsSilent : String Global → Type 0
IsSilent text = IsText [] text

-- the path of a core's trace, or the word `trace` where none is named
abbrev pub trace_path : List (Bor (List ℕ)) → ℕ → List ℕ
trace_path paths core = option_map_or (λ p. p.now) (slice_get paths core) (codes "trace")

-- what is said of a trace that is too long
abbrev pub length_text : List ℕ → List ℕ
length_text path =
    path
    ++ codes ": its lines stand for more than 2^62 entries: 'COUNT READ' for COUNT + 1, 'COUNT READ WRITE' for COUNT + 2\n"
