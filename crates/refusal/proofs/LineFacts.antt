-- How far a stream took a text.
use Rattle.std.proofs.Common.{◌≡◌, ℕ, Bool, List, [], ◌++◌, ◌-◌, take, drop, length, Option, Some, None, Result, Ok, Err, OnOk, OnErr, IsTrue, sym, ap, subst, ◌∙◌, append-nil, append_assoc}
use Rattle.std.proofs.Math.Seq.{take-length}
use Rattle.std.proofs.lemmas.Bool.{false≢true}
use Rattle.std.proofs.lemmas.List.{take-append-drop, length-drop}
use Rattle.std.specs.Io.KnownBytes.{Appends}
use Rattle.refusal.specs.Lines.{TakesUntil, AppendsBeginning, IsExplained, IsExplainedWhole}
use Rattle.refusal.specs.Warnings.{IsLine}

appends_more : (a b c : Option (List ℕ)) (x y : List ℕ) → Appends a b x → Appends b c y → Appends a c (x ++ y)
appends_more None b c x y first second = tt
appends_more (Some xs) None c x y first second = absurd first
appends_more (Some xs) (Some ys) None x y first second = absurd second
appends_more (Some xs) (Some ys) (Some zs) x y first second = second ∙ ap (λ (s : List ℕ). s ++ y) first ∙ append_assoc xs x y

-- what a range up to the end is
to_end : (n : ℕ) (rest : List ℕ) → take (length rest - n) (drop n rest) ≡ drop n rest
to_end n rest = ap (λ (k : ℕ). take k (drop n rest)) (sym (length-drop n rest)) ∙ take-length (drop n rest)

pub more_taken : (old mid new : Option (List ℕ)) (text rest : List ℕ) (n : ℕ) → TakesUntil old mid text rest → Appends mid new (take n rest)
    → TakesUntil old new text (take (length rest - n) (drop n rest))
more_taken old mid new text rest n so_far more = record {
  taken = so_far.taken ++ take n rest;
  text_is =
      so_far.text_is ∙ ap (λ (s : List ℕ). so_far.taken ++ s) (sym (take-append-drop n rest))
      ∙ sym (append_assoc so_far.taken (take n rest) (drop n rest))
      ∙ ap (λ (s : List ℕ). (so_far.taken ++ take n rest) ++ s) (sym (to_end n rest));
  took = appends_more old mid new so_far.taken (take n rest) so_far.took more;
}

pub begun : (old new : Option (List ℕ)) (text rest : List ℕ) → TakesUntil old new text rest → AppendsBeginning old new text
begun old new text rest taken = record { rest = rest; taken = taken }

-- lines of which the stream took a beginning, and refused the rest
pub explained_none : (refused : Bool) (old new : Option (List ℕ)) (lines text : List ℕ) → text ≡ lines → AppendsBeginning old new text → IsTrue refused → IsExplained refused old new lines
explained_none refused old new lines text same part is = record {
  more = [];
  begun = subst (AppendsBeginning old new) (same ∙ sym (append-nil lines)) part;
  whole = λ taken. absurd (false≢true (sym taken ∙ is));
}

-- lines that the stream took whole, and what explains them
pub explained_whole : (old mid new : Option (List ℕ)) (lines text more : List ℕ) → text ≡ lines → Appends old mid text → Appends mid new more → IsExplainedWhole old new lines
explained_whole old mid new lines text more same first second = record {
  more = more;
  took = appends_more old mid new lines more (subst (Appends old mid) same first) second;
}

-- lines that the stream took whole, and a beginning of what explains them
beginning_by : (old mid new : Option (List ℕ)) (lines more : List ℕ) → Appends old mid lines → AppendsBeginning mid new more → AppendsBeginning old new (lines ++ more)
beginning_by old mid new lines more first part = record {
  rest = part.rest;
  taken = record {
    taken = lines ++ part.taken.taken;
    text_is = ap (λ (s : List ℕ). lines ++ s) part.taken.text_is ∙ sym (append_assoc lines part.taken.taken part.rest);
    took = appends_more old mid new lines part.taken.taken first part.taken.took;
  };
}

-- lines that the stream took whole, and what explains them, whole or a beginning of it as the answer to the last write
-- says
pub explained_by : {T E : Type 0} (answer : Result T E) (refused : Bool) (old mid new : Option (List ℕ)) (lines text more : List ℕ) → text ≡ lines → Appends old mid text
    → OnOk answer (Appends mid new more) → AppendsBeginning mid new more → OnErr answer (IsTrue refused) → IsExplained refused old new lines
explained_by (Ok _) refused old mid new lines text more same first whole part is = record {
  more = more;
  begun = beginning_by old mid new lines more (subst (Appends old mid) same first) part;
  whole = λ _. appends_more old mid new lines more (subst (Appends old mid) same first) whole;
}
explained_by (Err _) refused old mid new lines text more same first whole part is = record {
  more = more;
  begun = beginning_by old mid new lines more (subst (Appends old mid) same first) part;
  whole = λ taken. absurd (false≢true (sym taken ∙ is));
}

-- a line that the stream took, whole or a beginning of it as the answer to the write says
pub line_told : {T E : Type 0} (answer : Result T E) (refused : Bool) (old new : Option (List ℕ)) (line text : List ℕ) → text ≡ line
    → OnOk answer (Appends old new text) → AppendsBeginning old new text → OnErr answer (IsTrue refused) → IsLine refused old new line
line_told (Ok _) refused old new line text same whole part is = record {
  begun = subst (AppendsBeginning old new) same part;
  whole = λ _. subst (Appends old new) same whole;
}
line_told (Err _) refused old new line text same whole part is = record {
  begun = subst (AppendsBeginning old new) same part;
  whole = λ taken. absurd (false≢true (sym taken ∙ is));
}
