use Rattle.std.proofs.Common.{None, subst}
use Rattle.queue.specs.Stands.{StandsFor, with_row}
use Rattle.queue.proofs.bank_candidates.all_banks.BankCandidates.closed.Goals as goal

pub returns-clause-stands : goal.returns-clause-stands
returns-clause-stands c log open_rows stands =
    subst (λ n. StandsFor c.close.new.self log (with_row n None open_rows)) c.number.ensures (c.close.ensures.stands log open_rows stands)
