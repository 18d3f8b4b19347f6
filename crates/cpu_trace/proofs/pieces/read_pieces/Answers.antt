use Rattle.std.proofs.Common.{ap, ◌∙◌}
use Rattle.rayon.proofs.ListFacts.{IfOk-then}
use Rattle.rayon.proofs.ToStd.{slice-AllZip}
use Rattle.sim_base.specs.TraceText.{lines_of}
use Rattle.cpu_trace.specs.Reading.{IsRead}
use Rattle.cpu_trace.proofs.pieces.read_pieces.Goals as goal

pub returns : goal.returns
returns g c =
    let slice = ap (λ it. it.base.slice.now) c.map.ensures.base ∙ ap (λ it. it.slice.now) c.with_min_len.ensures.base ∙ c.par_iter.ensures in
    IfOk-then c.collect.result _ _ c.collect.ensures (λ v h.
    let chain = h.1 in
    rw h.2 (slice-AllZip chain.0 c.args.pieces.now (chain.1 ∙ slice) (λ piece reading. IsRead (lines_of piece.now) reading) h.0 chain.2))
