-- What is kept decides each rule.
use Rattle.std.proofs.Common.{List, ◌∙◌, ap}
use Rattle.std.specs.Prelude.{find}
use Rattle.std.specs.List.{range_with_len}
use Rattle.sim_base.specs.declared.rule.Rule.{Rule}
use Rattle.rule_check.specs.Past.{past_breaks}
use Rattle.rule_check.proofs.Passing.{lowest-is}
use Rattle.rule_check.proofs.past.lowest_broken.Goals as goal

pub returns : goal.returns
returns c rows h =
    let channel = c.index-channel.result.now in
    c.lowest_if_any.ensures
    ∙ ap (λ (t : List Rule). find (past_breaks c.args.config.now t c.args.past.now.last channel c.args.row) (range_with_len 1 21)) c.requires.table
    ∙ lowest-is c.args.past.now c.args.config.now rows c.args.row channel h c.requires.fits c.index-channel.ensures
