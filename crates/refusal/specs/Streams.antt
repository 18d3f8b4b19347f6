-- What a clause reads of the stream that refusals are told on. In a clause `E.Write` is what the stream says of itself.
--     stream_of errors      the stream
--     has_refused errors      whether it has refused: it answered a write by an error other than an interruption, or took
--                             none of its bytes
--     text_on stream errors      what it holds, where that is known
--     Writes stream old new result bytes      it took as many of these bytes as a write answers
--     StandsAsBefore old new      whether it has refused is as it was
--     RefusesFor kind new      it has refused where a write failed so, unless that was an interruption
--     StandsFor kind old new      that is as it was, where the failure was an interruption
use Rattle.std.specs.Prelude.{◌≡◌, ◌≢◌, ℕ, Bool, IsTrue, List, Option, Result}
use Rattle.std.specs.Io.KnownBytes.{WriteAppends}
use Rattle.std.specs.declared.io.ErrorKind.{ErrorKind}
use Rattle.std.specs.declared.io.ErrorKind.TheVariants.{Interrupted}
use Rattle.std.specs.declared.io.Write.{Ghosts as Stream}
use Rattle.refusal.specs.declared.error_stream.ErrorStream.{ErrorStream}

-- the stream
abbrev pub stream_of : {E : Type 0} → ErrorStream E → E
stream_of errors = errors.stream

-- whether it has refused
abbrev pub has_refused : {E : Type 0} → ErrorStream E → Bool
has_refused errors = errors.has_refused

-- what it holds, where that is known
abbrev pub text_on : {E : Type 0} → Stream E → ErrorStream E → Option (List ℕ)
text_on stream errors = stream.contents (stream_of errors)

-- it took as many of these bytes as a write answers
abbrev pub Writes : {E X : Type 0} → Stream E → ErrorStream E → ErrorStream E → Result ℕ X → List ℕ → Type 0
Writes stream old new result bytes = WriteAppends (text_on stream old) (text_on stream new) result bytes

-- whether it has refused is as it was
abbrev pub StandsAsBefore : {E : Type 0} → ErrorStream E → ErrorStream E → Type 0
StandsAsBefore old new = has_refused new ≡ has_refused old

-- it has refused where a write failed so, unless that was an interruption
abbrev pub RefusesFor : {E : Type 0} → ErrorKind → ErrorStream E → Type 0
RefusesFor kind new = kind ≢ Interrupted → IsTrue (has_refused new)

-- that is as it was, where the failure was an interruption
abbrev pub StandsFor : {E : Type 0} → ErrorKind → ErrorStream E → ErrorStream E → Type 0
StandsFor kind old new = kind ≡ Interrupted → StandsAsBefore old new
