-- What a file in its place leaves alone, what it holds, and why a page is refused, from the steps.
use Rattle.std.proofs.Common.{List, [], ◌++◌, ℕ, Some, ◌≡◌, ◌⊎◌, inl, inr, refl, sym, ap, subst, ◌∙◌}
use Rattle.page.specs.Document.{IsDocument, WritesDocument}
use Rattle.sim_base.specs.declared.fault.Fault.{Fault}
use Rattle.sim_base.specs.declared.fault.Fault.TheVariants.{Memory, Write}
use Rattle.statistics.specs.Values.{RunStats}
use Rattle.whole_files.specs.Files.{Held, SameFiles}
use Rattle.sim_base.specs.Faults.{IsWriteFault}
use Rattle.whole_files.specs.WholeFile.{IsWhole, IsUnwritten}
use Rattle.answers.specs.Refused.{IsReady, IsAnswerFault}
use Rattle.answers.specs.Requests.{AreRequestsRefused}
use Rattle.answers.proofs.RequestFacts.{memory_refused}

-- nothing has changed before
pub whole_from : (path text : List ℕ) (a b c : Held) → SameFiles a b → IsWhole path text b c → IsWhole path text a c
whole_from path text a b c same h = record { text_is = h.text_is; no_part = h.no_part; others = λ other x y. h.others other x y ∙ same other }

pub unwritten_from : (tells : Type 0) (path : List ℕ) (a b c : Held) (x y z : List (List ℕ)) → (tells → SameFiles a b) → (tells → y ≡ x) → (tells → IsUnwritten path b c y z) → tells
    → IsUnwritten path a c x z
unwritten_from tells path a b c x y z same unopened h t =
    elim (h t) [
      | inl all ↦ inl (record { same = λ p. all.same p ∙ same t p; unopened = all.unopened ∙ unopened t })
      | inr gone ↦ inr (record { no_part = gone.no_part; others = λ p other. gone.others p other ∙ same t p })
    ]

-- what a writer has got that held nothing is a whole document
pub whole_document : (old new : List ℕ) → old ≡ [] → WritesDocument (Some old) (Some new) → IsDocument new
whole_document old new empty h = subst IsDocument (sym (h.written ∙ ap (λ xs. xs ++ h.text) empty)) h.whole

-- the text of a page is refused, for memory or by its writer, where something is right
pub text_unwritten : {A : Type 0} (tells : Type 0) (held : Held) (path : List ℕ) (stats : RunStats) (fault : Fault) → IsWriteFault fault → A
    → AreRequestsRefused tells held path stats fault ⊎ ((fault ≡ Write) × A)
text_unwritten tells held path stats Memory refused right = inl (memory_refused tells held path stats Memory refl)
text_unwritten tells held path stats Write refused right = inr (refl, right)
text_unwritten tells held path stats fault refused right = absurd refused

-- a page is refused that cannot be written
pub write_refused : (tells : Type 0) (held : Held) (paths : List (List ℕ)) (is_fault : List (List ℕ) → Fault → Type 0) (is_right : List (List ℕ) → Type 0) (fault : Fault)
    → IsReady tells held paths is_right → IsWriteFault fault → IsAnswerFault tells held paths is_fault is_right fault
write_refused tells held paths is_fault is_right Memory ready refused = inl (inl (inl refl))
write_refused tells held paths is_fault is_right Write ready refused = inr (refl, ready)
write_refused tells held paths is_fault is_right fault ready refused = absurd refused
