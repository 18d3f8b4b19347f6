-- All stands but for the request that may be served since then, which is taken in.
use Rattle.std.proofs.Common.{subst}
use Rattle.queue.specs.Stands.{StandsUpTo}
use Rattle.queue.proofs.Stood.{none_unblocked}
use Rattle.queue.proofs.bank_candidates.all_banks.BankCandidates.on_service.Goals as goal

pub returns-in-Some-clause-stands : goal.returns-in-Some-clause-stands
returns-in-Some-clause-stands c earlier open_rows served stands =
    let log = c.args.log.now.log in
    c.unblock.ensures.stands open_rows
    (subst (λ o. StandsUpTo c.leave.new.self log o open_rows) c.in-Some.is (c.leave.ensures.stands earlier c.args.unblocked open_rows served stands))

pub returns-in_default-clause-stands : goal.returns-in_default-clause-stands
returns-in_default-clause-stands c earlier open_rows served stands =
    let log = c.args.log.now.log in
    none_unblocked c.leave.new.self log open_rows
    (subst (λ o. StandsUpTo c.leave.new.self log o open_rows) c.in_default.is (c.leave.ensures.stands earlier c.args.unblocked open_rows served stands))
