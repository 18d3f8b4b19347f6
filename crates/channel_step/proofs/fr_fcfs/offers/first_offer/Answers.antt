-- All requests go where the channel never drains.
use Rattle.std.proofs.Common.{◌≡◌, sym, ◌∙◌, arith}
use Rattle.sim_base.specs.Scheduling.{first_of_lines}
use Rattle.queue.specs.Log.{waiting_requests}
use Rattle.channel_step.proofs.FrFcfs.Favoured.{favour_never, of_all_accesses}
use Rattle.channel_step.proofs.fr_fcfs.offers.first_offer.Goals as goal

pub returns-then-high-eq0-clause-first : goal.returns-then-high-eq0-clause-first
returns-then-high-eq0-clause-first c s history banks bank_candidates high =
    let queue = c.args.queue.now in
    let never : s.write_high ≡ 0 = omega (arith, high, c.if-high-eq0.true, c.high.ensures) in
    c.first_of.ensures.first s history banks bank_candidates (sym (favour_never s queue never) ∙ of_all_accesses (first_of_lines (waiting_requests queue.log)))
