use Rattle.std.proofs.Common.{rules, ◌≡◌, length, replicate, ap, ◌∙◌}
use Rattle.units.proofs.waking.UnitRange.awake.Goals as goal

pub returns-clause-words : goal.returns-clause-words
returns-clause-words c =
    let len : c.len.result ≡ length c.args.units.items = search rules in
    c.in_ok-words.ensures.items_if_clones_equal (λ _ e. e) ∙ ap (λ n. replicate n c.args.now) len
