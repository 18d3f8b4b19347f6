-- Each list has the value of no rows at each place.
use Rattle.std.proofs.Common.{rules, refl}
use Rattle.rule_check.specs.Kept.{nothing, no_window}
use Rattle.rule_check.proofs.Noting.{kept-first}
use Rattle.rule_check.proofs.channel.start.Goals as goal

pub returns : goal.returns
returns c =
    kept-first _ c.args.config.now _ _ _ (search rules) (search rules) (search rules) refl refl
    (λ i. record { within = nothing; across = nothing; window = no_window; deadline = c.first_deadline.ensures i })
