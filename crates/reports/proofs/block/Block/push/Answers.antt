use Rattle.std.proofs.Common.{◌++◌, [], ◌∷◌, codes, ap, ◌∙◌, append_assoc}
use Rattle.reports.proofs.block.Block.push.Goals as goal

pub returns : goal.returns
returns c =
    let row = c.args.row.now in
    c.end_row.ensures.text ∙ ap (λ t. t ++ codes "\n") (c.put_row.ensures ∙ ap (λ t. t ++ row) c.self.view_is) ∙ append_assoc c.args.self.now row (10 ∷ [])
