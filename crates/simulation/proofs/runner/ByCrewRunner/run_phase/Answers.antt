-- The jobs are claimed in another order.
use Rattle.std.proofs.Common.{IsPermutation, subst, map-id}
use Rattle.std.proofs.lemmas.List.Sorted.{IsPermutation-trans}
use Rattle.simulation.proofs.runner.ByCrewRunner.run_phase.Goals as goal

pub returns-clause-each : goal.returns-clause-each
returns-clause-each g c =
    let claimed = IsPermutation-trans _ _ _ c.reverse.ensures.permutation (c.in_ok-results.ensures {u = tt}) in
    subst (IsPermutation c.args.jobs.items) (map-id c.in_ok-results.results.items) claimed
