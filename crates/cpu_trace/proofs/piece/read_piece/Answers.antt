use Rattle.cpu_trace.specs.Lines.{entries_in}
use Rattle.cpu_trace.proofs.ByLine.{first_line, IsReadUpTo-lines, IsReadUpTo-line, kept_of-bad, IsReadingOf-end}
use Rattle.cpu_trace.proofs.piece.read_piece.Goals as goal

pub loop-kept-preserved : goal.loop-kept-preserved
loop-kept-preserved c =
    let usual = IsReadUpTo-lines _ _ _ _ _ _ _ _ c.loop-kept.invariant c.in_ok-usual.ensures in
    IsReadUpTo-line _ _ _ _ _ _ _ _ (entries_in c.in-Ok.numbers) usual (rw c.in-Some.is at c.split_line.ensures.lines) c.in-Ok.ensures c.in_ok-kept-in-Ok.ensures (rw c.in-Some.is at c.split_line.ensures.shorter)

pub returns-in-Err : goal.returns-in-Err
returns-in-Err c =
    let usual = IsReadUpTo-lines _ _ _ _ _ _ _ _ c.loop-kept.invariant c.in_ok-usual.ensures in
    let first = first_line _ _ _ c.split_line.ensures.lines in
    kept_of-bad _ _ _ _ first.0 _ c.in-Err.cause usual first.1 c.in-Err.ensures

pub returns-in-None : goal.returns-in-None
returns-in-None c =
    let usual = IsReadUpTo-lines _ _ _ _ _ _ _ _ c.loop-kept.invariant c.in_ok-usual.ensures in
    IsReadingOf-end _ _ _ _ _ _ (entries_in c.in-Ok.numbers) usual (rw c.in-None.is at c.split_line.ensures.lines) c.in-Ok.ensures c.in_ok-kept-in-Ok.ensures
