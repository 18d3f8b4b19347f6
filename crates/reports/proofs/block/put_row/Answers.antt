use Rattle.std.proofs.Common.{◌≡◌, ℕ, ◌+◌, ◌-◌, ◌≤◌, ◌++◌, length, take, ap, ◌∙◌, arith, length-take-le}
use Rattle.std.proofs.lemmas.List.{take_all}
use Rattle.reports.proofs.BlockLemmas.{row_none, row_more}
use Rattle.reports.proofs.block.put_row.Goals as goal
use Rattle.reports.proofs.block.put_row.Goals.{then-len-gt32, else-len-gt32}

pub returns : goal.returns
returns c =
    let row = c.args.row.now in
    let start = c.args.start in
    let front = take start c.args.bytes.now in
    let long : length front ≡ start = length-take-le start c.args.bytes.now (omega (arith, c.requires.room, c.told-bytes)) in
    let first = row_more front row c.args.bytes.now c.copy_piece.new.bytes start 0 0 16 16 long (omega arith) (omega arith) (row_none c.args.bytes.now row start) c.copy_piece.ensures in
    let done : (k : ℕ) × (length row ≤ k + 16) × (take (start + k) c.if-len-gt32.bytes ≡ front ++ take k row) =
    elim c.if-len-gt32.branch [
      | then-len-gt32 w ↦ (32, omega (arith, c.if-len-gt48.false), rw w.bytes-is (row_more front row _ _ start 16 16 16 32 long (omega arith) (omega arith) first w.copy_piece-then-len-gt32.ensures))
      | else-len-gt32 w ↦ (16, omega (arith, w.if-len-gt32), rw w.bytes-is first)
    ] in
    row_more front row _ c.copy_piece-2.new.bytes start done.0 (length row - 16) 16 (length row) long (omega (arith, done.1)) (omega (arith, c.if-len-lt16.false)) done.2 c.copy_piece-2.ensures
    ∙ ap (λ t. front ++ t) (take_all (length row) row (omega arith))
