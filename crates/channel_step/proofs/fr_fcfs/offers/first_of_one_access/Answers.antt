-- Requests of one access go where the channel drains.
use Rattle.std.proofs.Common.{ap, ◌∙◌}
use Rattle.channel_step.specs.FrFcfs.Offers.{only, going}
use Rattle.channel_step.proofs.fr_fcfs.offers.first_of_one_access.Goals as goal

pub returns-in-Read-clause-first : goal.returns-in-Read-clause-first
returns-in-Read-clause-first c s history banks bank_candidates high =
    let log = c.args.queue.now.log in
    c.first_of.ensures.first s history banks bank_candidates (c.access_that_goes.ensures s _ high bank_candidates ∙ ap (λ access. going (only access) log) c.in-Read.is)

pub returns-in-Write-clause-first : goal.returns-in-Write-clause-first
returns-in-Write-clause-first c s history banks bank_candidates high =
    let log = c.args.queue.now.log in
    c.first_of-in-Write.ensures.first s history banks bank_candidates
    (c.access_that_goes.ensures s _ high bank_candidates ∙ ap (λ access. going (only access) log) c.in-Write.is)
