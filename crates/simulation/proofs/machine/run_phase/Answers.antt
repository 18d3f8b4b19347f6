-- The runner gives one result of each job, in some order: they can be put together, and only memory can be refused.
use Rattle.std.proofs.Common.{IsPermutation, subst}
use Rattle.shards.proofs.Whole.{permuted_of}
use Rattle.simulation.proofs.machine.run_phase.Goals as goal

pub merge-requires : goal.merge-requires
merge-requires g c =
    let results = c.in_ok-results.results.items in
    record { of = permuted_of c.args.phase results (subst (λ jobs. IsPermutation jobs results) c.requires.jobs (c.in_ok-results.ensures {u = tt}).each) }
