use Rattle.std.proofs.Common.{◌+◌, ◌-◌, arith}
use Rattle.std.proofs.lemmas.Simd.{length-chunk}
use Rattle.std.specs.Simd.Lanes.{chunk}
use Rattle.reports.proofs.BlockLemmas.{piece_put}
use Rattle.reports.proofs.block.copy_piece.Goals as goal

pub returns : goal.returns
returns c =
    let bytes = c.args.bytes.now in
    let piece = chunk c.args.at 16 c.args.row.now in
    let to = c.args.start + c.args.at in
    let long = length-chunk c.args.at 16 c.args.row.now c.requires.piece in
    piece_put bytes piece to (4096 - to) 16 long (omega (arith, c.told-bytes, c.requires)) (omega (arith, c.requires))
