-- The results come in another order.
use Rattle.std.proofs.lemmas.List.Sorted.{IsPermutation-trans}
use Rattle.run_tests.proofs.shared_out.ReversedRunner.run_phase.Goals as goal

pub returns-clause-each : goal.returns-clause-each
returns-clause-each c = IsPermutation-trans _ _ _ (c.in_ok-results.ensures {u = tt}).each c.reverse.ensures.permutation
