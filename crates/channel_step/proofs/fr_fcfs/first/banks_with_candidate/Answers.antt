use Rattle.std.proofs.Common.{◌&&◌, ◌||◌, sym, ◌∙◌}
use Rattle.queue.specs.Sets.{is_in}
use Rattle.queue.specs.Stands.{candidates_of_bank}
use Rattle.channel_step.proofs.FrFcfs.BankMore.{some_allowed, either_in}
use Rattle.channel_step.proofs.fr_fcfs.first.banks_with_candidate.Goals as goal

pub returns-clause-within : goal.returns-clause-within
returns-clause-within c k there =
    either_in c.args.accesses.reads c.args.accesses.writes (is_in c.banks_with_candidate.result k) (is_in c.banks_with_candidate-2.result k)
    (sym (λ i. c.banks_if-reads.ensures k i || c.banks_if-writes.ensures k i) ∙ sym (c.union.ensures k) ∙ there) (c.banks_with_candidate.ensures.within k) (c.banks_with_candidate-2.ensures.within k)

pub returns-clause-each : goal.returns-clause-each
returns-clause-each c k exists =
    let accesses = c.args.accesses in
    let h = candidates_of_bank c.args.bank_candidates.now k in
    c.union.ensures k
    ∙ (λ i. c.banks_if-reads.ensures k i || c.banks_if-writes.ensures k i)
    ∙ (λ i. (accesses.reads && c.banks_with_candidate.ensures.each k exists i) || (accesses.writes && c.banks_with_candidate-2.ensures.each k exists i))
    ∙ some_allowed h.reads.oldest h.writes.oldest accesses.reads accesses.writes
