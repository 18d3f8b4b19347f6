use Rattle.cpu_trace.proofs.Behind.{lines_of_pieces-push}
use Rattle.cpu_trace.proofs.pieces.cut.Goals as goal

pub loop-piece-preserved : goal.loop-piece-preserved
loop-piece-preserved c =
    lines_of_pieces-push c.args.text.now c.loop-piece.rest.now c.in-Some.behind.now c.loop-piece.pieces.items _ c.in-Some.piece c.in_ok-push.ensures.items c.in-Some.ensures c.loop-piece.invariant
