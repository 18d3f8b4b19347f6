use Rattle.std.proofs.Common.{◌&&◌, ◌||◌, ◌∙◌}
use Rattle.queue.specs.Stands.{candidates_of_bank}
use Rattle.channel_step.proofs.FrFcfs.BankMore.{some_allowed}
use Rattle.channel_step.proofs.fr_fcfs.first.hit.Goals as goal

pub returns : goal.returns
returns c k exists =
    let accesses = c.args.accesses in
    let h = candidates_of_bank c.args.bank_candidates.now k in
    c.union.ensures k
    ∙ (λ i. c.banks_if-reads.ensures k i || c.banks_if-writes.ensures k i)
    ∙ (λ i. (accesses.reads && c.hit.ensures.each k exists i) || (accesses.writes && c.hit-2.ensures.each k exists i))
    ∙ some_allowed h.reads.hit h.writes.hit accesses.reads accesses.writes
