-- A document that is written in three parts.
use Rattle.std.proofs.Common.{◌≡◌, List, ℕ, ◌++◌, refl, subst}
use Rattle.std.specs.Prelude.{Option, Result, Ok, Err, OnOk}
use Rattle.std.specs.Io.KnownBytes.{Appends}
use Rattle.std.proofs.KnownBytes.{Appends-trans}
use Rattle.page.specs.Document.{WritesDocument, document_head, document_tail}

whole : (a b c d : Option (List ℕ)) (contents : List ℕ) → Appends a b document_head → Appends b c contents → Appends c d document_tail → WritesDocument a d
whole a b c d contents head middle tail = record {
  text = document_head ++ contents ++ document_tail;
  whole = record { contents = contents; text_is = refl };
  written = Appends-trans a c d (document_head ++ contents) document_tail (Appends-trans a b c document_head contents head middle) tail;
}

pub written_whole : {T E : Type 0} (result : Result T E) (a b c d : Option (List ℕ)) (head contents tail : List ℕ) → head ≡ document_head → tail ≡ document_tail
    → Appends a b head → Appends b c contents → OnOk result (Appends c d tail) → OnOk result (WritesDocument a d)
written_whole (Ok _) a b c d head contents tail head_is tail_is first second third =
    whole a b c d contents (subst (Appends a b) head_is first) second (subst (Appends c d) tail_is third)
written_whole (Err _) a b c d head contents tail head_is tail_is first second third = tt
