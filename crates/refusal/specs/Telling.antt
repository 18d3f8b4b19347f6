-- What the stream that refusals are told on takes, in the words of contracts. There `E.Write` is what the stream says
-- of itself.
--     Takes stream old new text, TakesBeginning stream old new text      it took a text, or a beginning of one
--     TakesRefusal stream old new refusal      it took the lines of a refusal, and what explains them
--     Tells stream old new refusal      the same; or a beginning of that, where it has refused
--     TellsLine stream old new line      it took a line; or a beginning of it, where it has refused
--     Warns stream old new warning      it took the line of a warning in that way, if there is one
use Rattle.std.specs.Prelude.{ℕ, List, Option}
use Rattle.std.specs.Io.KnownBytes.{Appends}
use Rattle.std.specs.declared.io.Write.{Ghosts as Stream}
use Rattle.refusal.specs.Lines.{refusal_lines, AppendsBeginning, IsExplained, IsExplainedWhole}
use Rattle.refusal.specs.Streams.{has_refused, text_on}
use Rattle.refusal.specs.Warnings.{IsLine, IsWarned}
use Rattle.refusal.specs.declared.error_stream.ErrorStream.{ErrorStream}
use Rattle.refusal.specs.declared.refusal.Refusal.{Refusal}
use Rattle.refusal.specs.declared.warning.LargePage.{LargePage}

-- it took a text
abbrev pub Takes : {E : Type 0} → Stream E → ErrorStream E → ErrorStream E → List ℕ → Type 0
Takes stream old new text = Appends (text_on stream old) (text_on stream new) text

-- it took a text, or a beginning of it
abbrev pub TakesBeginning : {E : Type 0} → Stream E → ErrorStream E → ErrorStream E → List ℕ → Type 0
TakesBeginning stream old new text = AppendsBeginning (text_on stream old) (text_on stream new) text

-- it took the lines of a refusal, and what explains them
abbrev pub TakesRefusal : {E : Type 0} → Stream E → ErrorStream E → ErrorStream E → Refusal → Type 0
TakesRefusal stream old new refusal =
    IsExplainedWhole (text_on stream old) (text_on stream new) (refusal_lines refusal)

-- it took the lines of a refusal, and what explains them; or a beginning of that, where it has refused
abbrev pub Tells : {E : Type 0} → Stream E → ErrorStream E → ErrorStream E → Refusal → Type 0
Tells stream old new refusal =
    IsExplained (has_refused new) (text_on stream old) (text_on stream new) (refusal_lines refusal)

-- it took a line; or a beginning of it, where it has refused
abbrev pub TellsLine : {E : Type 0} → Stream E → ErrorStream E → ErrorStream E → List ℕ → Type 0
TellsLine stream old new line = IsLine (has_refused new) (text_on stream old) (text_on stream new) line

-- it took the line of a warning in that way, if there is one
abbrev pub Warns : {E : Type 0} → Stream E → ErrorStream E → ErrorStream E → Option LargePage → Type 0
Warns stream old new warning = IsWarned warning (has_refused new) (text_on stream old) (text_on stream new)
