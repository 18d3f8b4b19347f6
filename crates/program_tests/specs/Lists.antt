-- What the program promises where its streams are lists, which hold all that was written to them.
--     sight set files streams      what can be seen of the files and of the list of answers
--     Answers before after words status old new      what the words ask for has been done, and that was told on the list of errors
--     Tells before after words old new      what the words ask for is refused, and that was told on the list of errors
use Rattle.std.specs.Prelude.{ℕ, List, Some, Vec}
use Rattle.std.specs.Borrow.{Bor}
use Rattle.std.specs.declared.alloc.Global.{Global}
use Rattle.refusal.specs.Streams.{has_refused, stream_of}
use Rattle.whole_files.specs.declared.files.FileSet.{Ghosts as Files}
use Rattle.program.specs.Answered.{Seen, seen, IsAnswered}
use Rattle.sim_base.specs.Texts.{texts_of}
use Rattle.program.specs.Told.{IsTold}
use Rattle.program.specs.declared.streams.Streams.{Streams}
use Rattle.program.specs.declared.status.ExitStatus.{ExitStatus}

-- both streams are lists
abbrev pub Lists : Type 0
Lists = Streams (Vec ℕ Global) (Vec ℕ Global)

-- what can be seen of the files and of the list of answers
abbrev pub sight : {S O : Type 0} → Files S O → S → Lists → Seen
sight set files streams = seen (set.held files) (set.has_folder files) (set.opened files) (Some streams.output.items)

-- what the words ask for has been done with this status, and a large page is warned of on the list of errors
abbrev pub Answers : Lists → Lists → List (Bor (List ℕ)) → ExitStatus → Seen → Seen → Type 0
Answers before after words status old new =
    IsAnswered (texts_of words) status old new
    (has_refused after.errors) (Some (stream_of before.errors).items) (Some (stream_of after.errors).items)

-- what the words ask for is refused, and why is told on the list of errors
abbrev pub Tells : Lists → Lists → List (Bor (List ℕ)) → Seen → Seen → Type 0
Tells before after words old new =
    IsTold (Unit {0}) (texts_of words) old new
    (has_refused after.errors) (Some (stream_of before.errors).items) (Some (stream_of after.errors).items)
