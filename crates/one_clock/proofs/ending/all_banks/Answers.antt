-- One rank more adds its banks.
use Rattle.std.proofs.Common.{◌++◌, sym, ap₂, ◌∙◌}
use Rattle.sim_base.specs.Final.{banks_of_rank}
use Rattle.sim_base.proofs.Lists.{flat_map_below-more}
use Rattle.one_clock.proofs.ending.all_banks.Goals as goal

pub loop-rank-preserved : goal.loop-rank-preserved
loop-rank-preserved c =
    (c.in_ok-extend_from_slice.ensures {u = tt}).items
    ∙ ap₂ (λ xs ys. xs ++ ys) c.loop-rank.invariant (c.deref.ensures.value ∙ c.in_ok-rank_of_banks.ensures {u = tt})
    ∙ sym (flat_map_below-more (banks_of_rank c.args.s.now) c.loop-rank.rank)
