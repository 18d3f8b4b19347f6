use Rattle.std.proofs.Common.{◌≡◌, ◌∙◌, ◌++◌, [], ◌∷◌, sym, rules}
use Rattle.answers.proofs.ManyFiles.{map_all, map_pushed}
use Rattle.program.proofs.runs.slices_of.Goals as goal

pub loop-text-preserved : goal.loop-text-preserved
loop-text-preserved c =
    let pushed : c.push.new.self.items ≡ c.loop-text.slices.items ++ c.as_slice.result ∷ [] = search rules in
    sym (map_pushed (λ t. t) (λ s. s.now) c.args.texts.now c.loop-text.slices.items c.push.new.self.items c.loop-text.text-index c.text-item.result c.as_slice.result c.loop-text-test.true
    (sym c.loop-text.invariant) (search rules) pushed)

pub returns : goal.returns
returns c =
    c.loop-text.invariant ∙ sym (map_all (λ t. t) c.args.texts.now c.loop-text.text-index c.loop-text-test.false)
