use Rattle.std.proofs.Common.{ap, ◌∙◌}
use Rattle.rayon.proofs.ToStd.{slice-AllZip}
use Rattle.reports.specs.Rows.{IsTextOf}
use Rattle.reports.proofs.PieceLemmas.{collected_texts, collected_fault}
use Rattle.reports.proofs.pieces.texts_of.Goals as goal

pub returns-clause-texts : goal.returns-clause-texts
returns-clause-texts g c =
    let slice = ap (λ it. it.base.slice.now) c.map.ensures.base ∙ ap (λ it. it.slice.now) c.with_min_len.ensures.base ∙ c.par_iter.ensures in
    let all = c.in_ok-collect.ensures in
    let chain = all.1 in
    let are = slice-AllZip chain.0 c.args.pieces.now (chain.1 ∙ slice) (λ piece. IsTextOf (g.T.TableLines.lines c.map.result.f.1.now piece)) all.0 chain.2 in
    rw (ap (λ f. f.1.now) c.map.ensures.f) at (collected_texts (g.T.TableLines.lines c.map.result.f.1.now) c.args.pieces.now all.0 c.in_ok-collect.field-0 are all.2)

pub returns-clause-refused : goal.returns-clause-refused
returns-clause-refused g c =
    let slice = ap (λ it. it.base.slice.now) c.map.ensures.base ∙ ap (λ it. it.slice.now) c.with_min_len.ensures.base ∙ c.par_iter.ensures in
    let all = c.in_ok-collect.ensures in
    let chain = all.1 in
    let are = slice-AllZip chain.0 c.args.pieces.now (chain.1 ∙ slice) (λ piece. IsTextOf (g.T.TableLines.lines c.map.result.f.1.now piece)) all.0 chain.2 in
    collected_fault (g.T.TableLines.lines c.map.result.f.1.now) c.args.pieces.now all.0 c.in_ok-collect.field-0 are all.2
