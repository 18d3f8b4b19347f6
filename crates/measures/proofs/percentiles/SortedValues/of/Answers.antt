use Rattle.measures.proofs.Ranks.{sorted_rises}
use Rattle.measures.proofs.percentiles.SortedValues.of.Goals as goal

pub invariant_of-result : goal.invariant_of-result
invariant_of-result c = sorted_rises c.sort_unstable.new.self.items c.sort_unstable.ensures.sorted
