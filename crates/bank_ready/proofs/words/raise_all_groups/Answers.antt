use Rattle.std.proofs.Common.{◌∙◌, max, get_or, ap, arith}
use Rattle.bank_ready.proofs.Raising.{apart-from-group, own-group}
use Rattle.bank_ready.proofs.words.raise_all_groups.Goals as goal

pub returns-then-bank-lt4 : goal.returns-then-bank-lt4
returns-then-bank-lt4 c =
    let a = c.args in
    own-group a.words.now c.raise_ranks.new.words a.bank a.same_group a.other_group a.other_rank c.max-until.result c.if-bank-lt4.true c.requires.inside c.raise_ranks.auto.words
    c.max-until.ensures c.raise_ranks.ensures

pub returns-else-bank-lt4 : goal.returns-else-bank-lt4
returns-else-bank-lt4 c k d l =
    let a = c.args in
    c.raise_ranks-else-bank-lt4.ensures k d l
    ∙ ap (max (get_or a.words.now k d)) (apart-from-group a.bank a.same_group a.other_group a.other_rank k (λ r g. omega (arith, c.if-bank-lt4.false, g)))
