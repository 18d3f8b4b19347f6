-- There is one.
use Rattle.std.proofs.Common.{◌≡◌, ap, sym, ◌∙◌}
use Rattle.std.proofs.lemmas.Bool.{false≢true}
use Rattle.std.specs.Option.{is_some}
use Rattle.sim_base.specs.Earlier.{earlier}
use Rattle.queue.specs.Stands.{candidates_of_bank}
use Rattle.channel_step.specs.FrFcfs.Offers.{if_allowed, oldest_candidate}
use Rattle.channel_step.proofs.fr_fcfs.first.oldest.Goals as goal

pub unreachable-requires : goal.unreachable-requires
unreachable-requires c =
    let accesses = c.args.accesses in
    let first : c.earlier.result ≡ oldest_candidate accesses (candidates_of_bank c.args.bank_candidates.now c.args.bank) =
    c.earlier.ensures
    ∙ (λ i. earlier (c.if_allowed-read.ensures i) (c.if_allowed-write.ensures i))
    ∙ (λ i. earlier (if_allowed (c.of_access.ensures i).oldest accesses.reads) (if_allowed (c.of_access-2.ensures i).oldest accesses.writes)) in
    false≢true (ap is_some (sym c.in-None.is ∙ first) ∙ c.requires.some)
