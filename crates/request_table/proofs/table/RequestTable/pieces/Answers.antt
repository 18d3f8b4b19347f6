use Rattle.std.proofs.Common.{◌≡◌, [], ◌∷◌, ◌++◌, ap, sym, ◌∙◌}
use Rattle.std.specs.Prelude.{flat_map, unwrap_or}
use Rattle.request_table.proofs.Cutting.{piece-more, piece-last}
use Rattle.request_table.proofs.table.RequestTable.pieces.Goals as goal
use Rattle.request_table.proofs.table.RequestTable.pieces.Goals.{else-loop-test, then-loop-test+in_ok-piece+in_default}

pub loop-init : goal.loop-init
loop-init c = ap (λ pieces. flat_map (λ piece. piece) pieces ++ c.in_ok-left.left) c.new-pieces.ensures.items ∙ c.in_ok-left.ensures {u = tt}

pub loop-preserved : goal.loop-preserved
loop-preserved c =
    piece-more c.loop.pieces.items c.push.new.self.items c.in-Some.piece c.loop.left c.take_piece.new.self c.args.self.now c.in_ok-push.ensures.items
    (c.in_ok-piece.ensures {u = tt} ∙ ap (λ piece. unwrap_or piece [] ++ c.take_piece.new.self) c.in-Some.is) c.loop.invariant

pub returns : goal.returns
returns c =
    let same : c.loop.left ≡ c.loop-test.left = elim c.loop-test.branch [
      | else-loop-test w ↦ sym w.left-is
      | then-loop-test+in_ok-piece+in_default w ↦ w.in_ok-piece.ensures {u = tt} ∙ ap (λ piece. unwrap_or piece [] ++ w.take_piece.new.self) w.in_default.is ∙ sym w.left-is
    ] in
    piece-last c.loop.pieces.items c.push-2.new.self.items c.loop.left c.args.self.now (c.in_ok-push-2.ensures.items ∙ ap (λ left. c.loop.pieces.items ++ left ∷ []) (sym same)) c.loop.invariant
