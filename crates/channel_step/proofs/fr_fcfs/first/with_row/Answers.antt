-- One bank more, whose row is opened or closed.
use Rattle.std.proofs.Common.{false, refl, sym, subst, arith}
use Rattle.sim_base.specs.Places.{bank_at}
use Rattle.queue.specs.Stands.{candidates_of_bank}
use Rattle.channel_step.specs.FrFcfs.Offers.{oldest_candidate, IsReadyFrom}
use Rattle.channel_step.proofs.FrFcfs.SoFar.{not_taken, taken}
use Rattle.channel_step.proofs.FrFcfs.BankMore.{row_more}
use Rattle.channel_step.proofs.fr_fcfs.first.with_row.Goals as goal

pub returns-then-best-ready : goal.returns-then-best-ready
returns-then-best-ready c s history log known hits rows so_far =
    let bank = c.args.bank in
    let accesses = c.args.commands.accesses in
    let now = c.args.commands.now in
    let best = c.args.best.now in
    let ready = c.ready-ready.result in
    let h = candidates_of_bank c.args.bank_candidates.now bank in
    let from = subst (λ k. IsReadyFrom s history (bank_at bank) k ready) c.requires.needed.kind_is (c.ready-ready.ensures s history known.banks_stand) in
    row_more s history _ log accesses bank h ready now hits rows best best (omega arith) (omega arith) known.in_banks (known.candidates_stand.candidates_are bank c.requires.bank_candidates)
    (known.candidates_stand.rows_are bank c.requires.bank_candidates) from c.requires.needed.no_hit (oldest_candidate accesses h) refl
    (not_taken (oldest_candidate accesses h) now ready false best c.if-best-ready.true) so_far

pub returns : goal.returns
returns c s history log known hits rows so_far =
    let bank = c.args.bank in
    let accesses = c.args.commands.accesses in
    let now = c.args.commands.now in
    let best = c.args.best.now in
    let ready = c.ready-ready.result in
    let h = candidates_of_bank c.args.bank_candidates.now bank in
    let from = subst (λ k. IsReadyFrom s history (bank_at bank) k ready) c.requires.needed.kind_is (c.ready-ready.ensures s history known.banks_stand) in
    row_more s history _ log accesses bank h ready now hits rows best c.improve.new.best (omega arith) (omega arith) known.in_banks (known.candidates_stand.candidates_are bank c.requires.bank_candidates)
    (known.candidates_stand.rows_are bank c.requires.bank_candidates) from c.requires.needed.no_hit (oldest_candidate accesses h) refl
    (taken (oldest_candidate accesses h) now ready c.oldest-place.result false best c.improve.new.best (sym c.oldest-place.ensures) c.improve.ensures) so_far
