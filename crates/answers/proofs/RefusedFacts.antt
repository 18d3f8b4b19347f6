-- Why an answer is refused, from the refusals of its steps.
use Rattle.std.proofs.Common.{◌≡◌, ◌≢◌, ◌⊎◌, inl, inr, ℕ, List, [], ◌∷◌, ◌++◌, Some, Result, Ok, Err, refl, sym, ap, ap₂, ◌∙◌}
use Rattle.std.specs.Prelude.{if◌then◌else◌}
use Rattle.std.specs.Result.{is_ok, result_or}
use Rattle.sim_base.specs.declared.config.Config.{Config}
use Rattle.sim_base.specs.declared.fault.Fault.{Fault}
use Rattle.sim_base.specs.declared.fault.Fault.TheVariants.{Memory}
use Rattle.sim_base.specs.Values.{values_of}
use Rattle.config_reader.specs.Document.{document_of}
use Rattle.rule_check.specs.Verdict.{records_of, verdict}
use Rattle.whole_files.specs.Files.{Held, SameFiles}
use Rattle.answers.specs.Refused.{AreTexts, IsInputFault, IsMapFault, IsTableFault}

-- memory was refused for an item, or it is behind the others
pub or_memory : {T E : Type 0} (r : Result T E) (e : Fault) → Err e ≡ result_or r (Err Memory) → e ≡ Memory
or_memory (Ok x) e h = absurd cc
or_memory (Err y) e h = cc h

pub is_pushed : {A T E : Type 0} (r : Result T E) (u : T) (xs more : List A) (x : A) → Ok u ≡ result_or r (Err Memory) → more ≡ (if is_ok r then xs ++ x ∷ [] else xs) → more ≡ xs ++ x ∷ []
is_pushed (Ok y) u xs more x h items = items
is_pushed (Err y) u xs more x h items = absurd cc

-- ---- files that are read

pub one_text : (tells : Type 0) (held : Held) (path text : List ℕ) → (tells → held path ≡ Some text) → AreTexts tells held (path ∷ []) (text ∷ [])
one_text tells held path text is = record { count = refl; texts_are = λ t. ap (λ x. x ∷ []) (is t) }

pub two_texts : (tells : Type 0) (old mid : Held) (one two text_one text_two : List ℕ) → (tells → old one ≡ Some text_one) → (tells → SameFiles old mid) → (tells → mid two ≡ Some text_two)
    → AreTexts tells old (one ∷ two ∷ []) (text_one ∷ text_two ∷ [])
two_texts tells old mid one two text_one text_two is_one same is_two = record {
  count = refl;
  texts_are = λ t. ap₂ (λ x y. x ∷ y ∷ []) (is_one t) (sym (same t two) ∙ is_two t);
}

-- ---- what is read

-- a fault is out of memory, or what it is where memory is given
pub unless_memory : (P : Fault → Type 0) (fault : Fault) → (fault ≢ Memory → P fault) → (fault ≡ Memory) ⊎ P fault
unless_memory P Memory other = inl refl
unless_memory P fault other = inr (other (λ e. cc e))

-- memory was refused while the texts were looked at, or they have this fault
pub found_or_memory : (tells : Type 0) (held : Held) (paths texts : List (List ℕ)) (is_fault : List (List ℕ) → Fault → Type 0) (fault : Fault) → AreTexts tells held paths texts
    → (fault ≡ Memory) ⊎ is_fault texts fault → IsInputFault tells held paths is_fault fault
found_or_memory tells held paths texts is_fault fault read (inl memory) = inl (inl memory)
found_or_memory tells held paths texts is_fault fault read (inr is) = inr (record { texts = texts; read = read; fault_is = is })

pub map_fault : (tells : Type 0) (held : Held) (config document text : List ℕ) (fault : Fault) → AreTexts tells held (config ∷ []) (document ∷ []) → text ≡ document
    → (fault ≢ Memory → document_of text ≡ Err fault) → IsInputFault tells held (config ∷ []) IsMapFault fault
map_fault tells held config document text fault read same refused =
    found_or_memory tells held (config ∷ []) (document ∷ []) IsMapFault fault read
    (unless_memory (λ f. document_of document ≡ Err f) fault (λ other. ap document_of (sym same) ∙ refused other))

pub config_fault : (tells : Type 0) (held : Held) (config commands document table text : List ℕ) (fault : Fault) → AreTexts tells held (config ∷ commands ∷ []) (document ∷ table ∷ []) → text ≡ document
    → (fault ≢ Memory → document_of text ≡ Err fault) → IsInputFault tells held (config ∷ commands ∷ []) IsTableFault fault
config_fault tells held config commands document table text fault read same refused =
    found_or_memory tells held (config ∷ commands ∷ []) (document ∷ table ∷ []) IsTableFault fault read
    (unless_memory (λ f. IsTableFault (document ∷ table ∷ []) f) fault (λ other. inl (ap document_of (sym same) ∙ refused other)))

pub row_fault : (tells : Type 0) (held : Held) (config commands document table text : List ℕ) (machine : Config) (fault : Fault) → AreTexts tells held (config ∷ commands ∷ []) (document ∷ table ∷ [])
    → document_of document ≡ Ok (values_of machine) → text ≡ table → (fault ≢ Memory → verdict machine (records_of text) ≡ Err fault) → IsInputFault tells held (config ∷ commands ∷ []) IsTableFault fault
row_fault tells held config commands document table text machine fault read configured same refused =
    found_or_memory tells held (config ∷ commands ∷ []) (document ∷ table ∷ []) IsTableFault fault read
    (unless_memory (λ f. IsTableFault (document ∷ table ∷ []) f) fault
    (λ other. inr (record { machine = machine; configured = configured; row_is = ap (λ t. verdict machine (records_of t)) (sym same) ∙ refused other })))
