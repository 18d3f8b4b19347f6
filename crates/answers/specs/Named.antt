-- A configuration that may be named beside the tables of a run.
--     with_config config paths      the paths that are read, and their texts alike
--     IsNamedText tells held config document      what it holds, where it is named
--     Fits machine stats      the run can be one of this machine
--     IsConfiguredBy document stats machine      the machine that its text describes, where it is named; the run fits it
--     IsConfigured config held stats machine      the same of what a file holds
use Rattle.std.specs.Prelude.{◌≡◌, ℕ, ⊤, List, ◌∷◌, length, Option, Some, None, Ok}
use Rattle.sim_base.specs.declared.config.Config.{Config}
use Rattle.sim_base.specs.Values.{values_of}
use Rattle.config_reader.specs.Document.{document_of}
use Rattle.statistics.specs.Values.{RunStats}
use Rattle.whole_files.specs.Files.{Held}

-- the paths that are read where a configuration may be named, which is the first then; their texts alike
abbrev pub with_config : Option (List ℕ) → List (List ℕ) → List (List ℕ)
with_config None paths = paths
with_config (Some config) paths = config ∷ paths

-- the text that stands under a path that may be named, where the set of files tells
abbrev pub IsNamedText : Type 0 → Held → Option (List ℕ) → Option (List ℕ) → Type 0
IsNamedText tells held None None = ⊤
IsNamedText tells held (Some path) (Some text) = tells → held path ≡ Some text
IsNamedText tells held _ _ = ⊥

-- a machine has as many cores and as many channels as a run
abbrev pub Fits : Config → RunStats → Type 0
Fits machine stats = (machine.cores ≡ length stats.cores) × (machine.channels ≡ length stats.channels)

-- the machine that a document describes, where there is one; the run fits it
abbrev pub IsConfiguredBy : Option (List ℕ) → RunStats → Option Config → Type 0
IsConfiguredBy None stats None = ⊤
IsConfiguredBy (Some document) stats (Some machine) =
    (document_of document ≡ Ok (values_of machine)) × Fits machine stats
IsConfiguredBy _ stats _ = ⊥

-- a file holds the configuration of a machine that the run fits
pub record IsConfigOf (path : List ℕ) (held : Held) (stats : RunStats) (machine : Config) : Type 0 where
  pub document : List ℕ
  pub document_is : held path ≡ Some document
  pub configured : document_of document ≡ Ok (values_of machine)
  pub fits : Fits machine stats

-- the file of a configuration holds that of a machine that the run fits, where one is named
abbrev pub IsConfigured : Option (List ℕ) → Held → RunStats → Option Config → Type 0
IsConfigured None held stats None = ⊤
IsConfigured (Some path) held stats (Some machine) = IsConfigOf path held stats machine
IsConfigured _ held stats _ = ⊥
