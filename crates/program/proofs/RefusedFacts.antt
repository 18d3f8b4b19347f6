-- Why a run is refused, from the refusals of its steps.
use Rattle.std.proofs.Common.{◌≡◌, inl, inr, ℕ, List, [], ◌∷◌, length, map, Some, sym, ap₂, ◌∙◌, arith}
use Rattle.std.proofs.lemmas.List.{length-map}
use Rattle.sim_base.specs.declared.fault.Fault.{Fault}
use Rattle.whole_files.specs.Files.{Held, SameFiles}
use Rattle.answers.specs.Refused.{LacksOne, AreTexts, IsFilesFault, IsAnswerFault}
use Rattle.program.specs.Refused.{IsRunRefusal, IsRunFault, IsRightRun}
use Rattle.answers.proofs.ManyFiles.{texts_held}

-- ---- files that are not read

lacks_same : (tells : Type 0) (old mid : Held) (paths : List (List ℕ)) → (tells → SameFiles old mid) → LacksOne tells mid paths → LacksOne tells old paths
lacks_same tells old mid [] same lacks = absurd lacks
lacks_same tells old mid (path ∷ paths) same (inl none) = inl (λ t. sym (same t path) ∙ none t)
lacks_same tells old mid (path ∷ paths) same (inr later) = inr (lacks_same tells old mid paths same later)

pub not_read_later : (tells : Type 0) (old mid : Held) (path : List ℕ) (paths : List (List ℕ)) (fault : Fault) → (tells → SameFiles old mid) → IsFilesFault tells mid paths fault
    → IsFilesFault tells old (path ∷ paths) fault
not_read_later tells old mid path paths fault same (inl memory) = inl memory
not_read_later tells old mid path paths fault same (inr lacks) = inr (lacks.0, inr (lacks_same tells old mid paths same lacks.1))

-- ---- files that are read

pub run_texts : {A B : Type 0} (tells : Type 0) (old mid : Held) (config document : List ℕ) (name : A → List ℕ) (bytes : B → List ℕ) (paths : List A) (texts : List B)
    → (tells → old config ≡ Some document) → (tells → SameFiles old mid) → length texts ≡ length paths → (tells → map (λ p. mid (name p)) paths ≡ map (λ t. Some (bytes t)) texts)
    → AreTexts tells old (config ∷ map name paths) (document ∷ map bytes texts)
run_texts tells old mid config document name bytes paths texts is same count read = record {
  count = omega (arith, length-map texts bytes, length-map paths name);
  texts_are = λ t. ap₂ (λ x xs. x ∷ xs) (is t) (texts_held old mid name bytes paths texts (same t) (read t));
}

-- a run is refused whose files were read: for what they hold, or for its folder
pub run_refused : (tells : Type 0) (held : Held) (paths : List (List ℕ)) (document : List ℕ) (texts : List (List ℕ)) (cycles workers : ℕ) (fault : Fault)
    → AreTexts tells held paths (document ∷ texts) → IsRunRefusal document texts cycles workers fault
    → IsAnswerFault tells held paths (IsRunFault cycles workers) (IsRightRun cycles workers) fault
run_refused tells held paths document texts cycles workers fault read (inl refused) = inl (inr (record { texts = document ∷ texts; read = read; fault_is = refused }))
run_refused tells held paths document texts cycles workers fault read (inr (write, right)) = inr (write, record { texts = document ∷ texts; read = read; right = right })
