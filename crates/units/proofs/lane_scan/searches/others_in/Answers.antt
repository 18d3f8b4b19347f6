use Rattle.std.proofs.Common.{◌∙◌, sym, eq-eqb, ne_eqb}
use Rattle.std.proofs.lemmas.Bool.{cond-true, cond-false}
use Rattle.std.proofs.lemmas.Simd.{length-chunk}
use Rattle.std.specs.Simd.Lanes.{chunk}
use Rattle.units.proofs.FirstBelow.{first_set}
use Rattle.units.proofs.lane_scan.searches.others_in.Goals as goal

pub returns-then-bits-eq0 : goal.returns-then-bits-eq0
returns-then-bits-eq0 g c =
    let words = chunk c.args.at g.row.N c.args.words.now in
    sym (cond-true _ _ _ (eq-eqb _ _ c.if-bits-eq0.true))
    ∙ first_set c.args.bound _ g.row.N words _ c.below_bits-bits.ensures c.load.ensures (length-chunk c.args.at g.row.N c.args.words.now c.requires.room) c.requires.one_word

pub returns-else-bits-eq0 : goal.returns-else-bits-eq0
returns-else-bits-eq0 g c =
    let words = chunk c.args.at g.row.N c.args.words.now in
    sym (cond-false _ _ _ (ne_eqb _ _ c.if-bits-eq0.false))
    ∙ first_set c.args.bound _ g.row.N words _ c.below_bits-bits.ensures c.load.ensures (length-chunk c.args.at g.row.N c.args.words.now c.requires.room) c.requires.one_word
