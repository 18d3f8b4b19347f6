-- The numbers of ranks are powers of two.
use Rattle.std.proofs.Common.{rules}
use lib.Count.{ones}
use Rattle.part_tests.proofs.refreshes.refreshes.Goals as goal

pub new-one-requires-clause-ranks_power : goal.new-one-requires-clause-ranks_power
unfolding ones
new-one-requires-clause-ranks_power g c = search rules

pub new-two-requires-clause-ranks_power : goal.new-two-requires-clause-ranks_power
unfolding ones
new-two-requires-clause-ranks_power g c = search rules

pub new-never-requires-clause-ranks_power : goal.new-never-requires-clause-ranks_power
unfolding ones
new-never-requires-clause-ranks_power g c = search rules
