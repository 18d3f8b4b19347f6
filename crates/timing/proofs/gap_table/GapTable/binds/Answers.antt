use Rattle.timing.proofs.Found.{bound-at}
use Rattle.timing.proofs.gap_table.GapTable.binds.Goals as goal

pub returns : goal.returns
returns c = rw (c.between.ensures.holds, c.index_of_relation.ensures.value) (bound-at c.args.self.now c.args.earlier c.args.later c.args.relation _)
