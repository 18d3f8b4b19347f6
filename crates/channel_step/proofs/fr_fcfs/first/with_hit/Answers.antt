-- One bank more, whose row hit is taken.
use Rattle.std.proofs.Common.{true, refl, sym, ap, subst, ◌∙◌, arith}
use Rattle.sim_base.specs.Places.{bank_at}
use Rattle.queue.specs.Stands.{candidates_of_bank}
use Rattle.channel_step.specs.FrFcfs.Offers.{IsReadyFrom}
use Rattle.channel_step.proofs.FrFcfs.SoFar.{not_taken, taken, none_taken}
use Rattle.channel_step.proofs.FrFcfs.BankMore.{access_candidates, candidates_are, hit_more}
use Rattle.channel_step.proofs.fr_fcfs.first.with_hit.Goals as goal

pub returns-then-best-ready : goal.returns-then-best-ready
returns-then-best-ready c s history log known hits rows so_far =
    let bank = c.args.bank in
    let access = c.args.commands.access in
    let now = c.args.commands.now in
    let best = c.args.best.now in
    let ready = c.ready-ready.result in
    let h = candidates_of_bank c.args.bank_candidates.now bank in
    let from = subst (λ k. IsReadyFrom s history (bank_at bank) k ready) c.column_kind.ensures.kind (c.ready-ready.ensures s history known.banks_stand) in
    hit_more s history _ log access bank h ready now hits rows best best (omega arith) (omega arith) known.in_banks (known.candidates_stand.candidates_are bank c.requires.bank_candidates)
    (known.candidates_stand.rows_are bank c.requires.bank_candidates) from (access_candidates access h).hit refl
    (not_taken (access_candidates access h).hit now ready true best c.if-best-ready.true) so_far

pub returns-in-Some : goal.returns-in-Some
returns-in-Some c s history log known hits rows so_far =
    let bank = c.args.bank in
    let access = c.args.commands.access in
    let now = c.args.commands.now in
    let best = c.args.best.now in
    let ready = c.ready-ready.result in
    let h = candidates_of_bank c.args.bank_candidates.now bank in
    let from = subst (λ k. IsReadyFrom s history (bank_at bank) k ready) c.column_kind.ensures.kind (c.ready-ready.ensures s history known.banks_stand) in
    hit_more s history _ log access bank h ready now hits rows best c.improve.new.best (omega arith) (omega arith) known.in_banks (known.candidates_stand.candidates_are bank c.requires.bank_candidates)
    (known.candidates_stand.rows_are bank c.requires.bank_candidates) from (access_candidates access h).hit refl
    (taken (access_candidates access h).hit now ready c.in-Some.place true best c.improve.new.best (ap (λ x. x.hit) (candidates_are c.args.bank_candidates.now bank access ∙ sym c.of_access.ensures) ∙ c.in-Some.is) c.improve.ensures) so_far

pub returns-in_default : goal.returns-in_default
returns-in_default c s history log known hits rows so_far =
    let bank = c.args.bank in
    let access = c.args.commands.access in
    let now = c.args.commands.now in
    let best = c.args.best.now in
    let ready = c.ready-ready.result in
    let h = candidates_of_bank c.args.bank_candidates.now bank in
    let from = subst (λ k. IsReadyFrom s history (bank_at bank) k ready) c.column_kind.ensures.kind (c.ready-ready.ensures s history known.banks_stand) in
    hit_more s history _ log access bank h ready now hits rows best best (omega arith) (omega arith) known.in_banks (known.candidates_stand.candidates_are bank c.requires.bank_candidates)
    (known.candidates_stand.rows_are bank c.requires.bank_candidates) from (access_candidates access h).hit refl
    (none_taken (access_candidates access h).hit now ready true best (ap (λ x. x.hit) (candidates_are c.args.bank_candidates.now bank access ∙ sym c.of_access.ensures) ∙ c.in_default.is)) so_far
