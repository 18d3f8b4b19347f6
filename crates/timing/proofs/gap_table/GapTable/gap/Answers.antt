use Rattle.timing.proofs.Distances.{gap-le}
use Rattle.timing.proofs.Found.{cycles-at}
use Rattle.timing.proofs.gap_table.GapTable.gap.Goals as goal

pub returns-clause-value : goal.returns-clause-value
returns-clause-value c = rw (c.between.ensures.holds, c.index_of_relation.ensures.value) (cycles-at c.args.self.now c.args.earlier c.args.later c.args.relation _)

pub returns-clause-range : goal.returns-clause-range
returns-clause-range c =
    rw (returns-clause-value c) (gap-le c.args.self.now c.args.earlier c.args.later c.args.relation c.between.ensures.in_range)
