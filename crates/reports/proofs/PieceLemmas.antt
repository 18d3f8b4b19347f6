-- The texts of pieces, one after the other.
use Rattle.std.proofs.Common.{◌≡◌, ℕ, ◌+◌, ◌-◌, ◌≤◌, List, [], ◌∷◌, ◌++◌, take, map, Result, Ok, Err, Vec, Global, refl, sym, ap, ◌∙◌, arith, suc, zero}
use Rattle.std.proofs.lemmas.Grind.{flat_map-append}
use Rattle.std.specs.List.{AllZip, Contains, flat_map, slice_range}
use Rattle.std.specs.Prelude.{MatchResult, IfOk, IfErr}
use Rattle.rayon.specs.Shown.{take-add}
use Rattle.sim_base.specs.declared.fault.Fault.{Fault}
use Rattle.reports.specs.Rows.{IsTextOf, rows_text}
use Rattle.sim_base.specs.Faults.{IsWriteFault}
use Rattle.reports.proofs.TableLemmas.{mapped_none, lines-append}

-- each of these pieces has its text, or why there is none
abbrev pub HaveTexts : {A : Type 0} → (A → List ℕ) → List A → List (Result (Vec ℕ Global) Fault) → Type 0
HaveTexts lines pieces results = AllZip (λ piece. IsTextOf (lines piece)) pieces results

-- the texts of pieces are the text of their rows
texts_joined : {A : Type 0} (lines : A → List ℕ) (pieces : List A) (texts : List (Vec ℕ Global)) → HaveTexts lines pieces (map Ok texts)
    → flat_map (λ text. text.items) texts ≡ flat_map lines pieces
texts_joined lines [] [] all = refl
texts_joined lines [] (text ∷ texts) all = absurd all
texts_joined lines (piece ∷ pieces) [] all = absurd all
texts_joined lines (piece ∷ pieces) (text ∷ texts) all = λ i. all.0 i ++ texts_joined lines pieces texts all.1 i

-- why a piece has no text is why a report may be refused
fault_of_report : {A : Type 0} (lines : A → List ℕ) (pieces : List A) (results : List (Result (Vec ℕ Global) Fault)) (fault : Fault)
    → HaveTexts lines pieces results → Contains results (Err fault) → IsWriteFault fault
fault_of_report lines [] [] fault all at = absurd (omega (arith, at.1))
fault_of_report lines [] (result ∷ results) fault all at = absurd all
fault_of_report lines (piece ∷ pieces) [] fault all at = absurd all
fault_of_report lines (piece ∷ pieces) (result ∷ results) fault all (zero, inside, is) = rw is at all.0
fault_of_report lines (piece ∷ pieces) (result ∷ results) fault all (suc k, inside, is) = fault_of_report lines pieces results fault all.1 (k, omega (arith, inside), is)

-- what is collected of the results of pieces: their texts, or why one has none
abbrev pub AreCollected : List (Result (Vec ℕ Global) Fault) → Result (Vec (Vec ℕ Global) Global) Fault → Type 0
AreCollected results collected =
    MatchResult collected (λ all. (texts : List (Vec ℕ Global)) × (results ≡ map Ok texts) × (all.items ≡ texts)) (λ fault. Contains results (Err fault))

pub collected_texts : {A : Type 0} (lines : A → List ℕ) (pieces : List A) (results : List (Result (Vec ℕ Global) Fault)) (collected : Result (Vec (Vec ℕ Global) Global) Fault)
    → HaveTexts lines pieces results → AreCollected results collected
    → IfOk collected (λ texts. flat_map (λ text. text.items) texts.items ≡ flat_map lines pieces)
collected_texts lines pieces results (Ok all) are (texts, same, is) = rw is (texts_joined lines pieces texts (rw same at are))
collected_texts lines pieces results (Err fault) are why = tt

pub collected_fault : {A : Type 0} (lines : A → List ℕ) (pieces : List A) (results : List (Result (Vec ℕ Global) Fault)) (collected : Result (Vec (Vec ℕ Global) Global) Fault)
    → HaveTexts lines pieces results → AreCollected results collected → IfErr collected (λ fault. IsWriteFault fault)
collected_fault lines pieces results (Ok all) are texts = tt
collected_fault lines pieces results (Err fault) are why = fault_of_report lines pieces results fault are why

-- a round more
pub lines_of-more : {A : Type 0} (lines : A → List ℕ) (pieces : List A) (done end : ℕ) → done ≤ end
    → flat_map lines (take done pieces) ++ flat_map lines (slice_range pieces done end) ≡ flat_map lines (take end pieces)
lines_of-more lines pieces done end within =
    let few = take done pieces in
    let round = slice_range pieces done end in
    let reached : done + (end - done) ≡ end = omega arith in
    sym (flat_map-append lines few round) ∙ ap (flat_map lines) (sym (take-add done (end - done) pieces) ∙ ap (λ k. take k pieces) reached)

-- the rows of all pieces
pub lines-joined : {A : Type 0} (fields : A → List (List ℕ)) (pieces : List (List A))
    → flat_map (λ rows. rows_text (map fields rows)) pieces ≡ rows_text (map fields (flat_map (λ piece. piece) pieces))
lines-joined fields [] = sym (mapped_none fields)
lines-joined fields (piece ∷ pieces) =
    (λ i. rows_text (map fields piece) ++ lines-joined fields pieces i) ∙ sym (lines-append fields piece (flat_map (λ rows. rows) pieces))
