-- One group more adds its banks.
use Rattle.std.proofs.Common.{◌++◌, sym, ap₂, ◌∙◌}
use Rattle.sim_base.specs.Final.{banks_of_group}
use Rattle.sim_base.proofs.Lists.{flat_map_below-more}
use Rattle.one_clock.proofs.ending.rank_of_banks.Goals as goal

pub loop-group-preserved : goal.loop-group-preserved
loop-group-preserved c =
    (c.in_ok-extend_from_slice.ensures {u = tt}).items
    ∙ ap₂ (λ xs ys. xs ++ ys) c.loop-group.invariant c.group_of_banks.ensures
    ∙ sym (flat_map_below-more (banks_of_group c.args.rank) c.loop-group.group)
