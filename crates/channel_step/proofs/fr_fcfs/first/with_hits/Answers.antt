-- Row hits that do not go, or are left out since they are ready only after the cycle of the best offer.
use Rattle.std.proofs.Common.{◌&&◌, refl, ap, sym, length, ◌∙◌, arith}
use Rattle.queue.specs.Candidates.{first_place}
use Rattle.sim_base.specs.Earlier.{earlier}
use Rattle.channel_step.specs.FrFcfs.Offers.{only, hits_now}
use Rattle.channel_step.proofs.FrFcfs.BankMore.{hits_before, none_goes, all_go}
use Rattle.channel_step.proofs.FrFcfs.SoFar.{hits_late, so_far_same}
use Rattle.channel_step.proofs.fr_fcfs.first.with_hits.Goals as goal

pub returns-then-not-goes : goal.returns-then-not-goes
returns-then-not-goes c s history log known hits rows so_far =
    let goes = c.args.goes in
    let test = hits_now s history (only c.args.commands.access) in
    so_far_same (length log) c.args.commands.now hits rows (λ cycle. earlier (hits cycle) (first_place (λ r. goes && test cycle r) log)) rows c.args.best.now
    (λ cycle late. none_goes hits goes test log c.if-not-goes.true cycle) (λ cycle late. refl) so_far

pub returns-then-best-column_floor : goal.returns-then-best-column_floor
returns-then-best-column_floor c s history log known hits rows so_far =
    let access = c.args.commands.access in
    let goes = c.args.goes in
    let floor = c.column_floor.result in
    let test = hits_now s history (only access) in
    hits_late (length log) c.args.commands.now floor hits rows (λ cycle. first_place (λ r. goes && test cycle r) log) c.args.best.now (omega arith) (omega arith)
    (λ cycle early.
    all_go goes (test cycle) log c.if-not-goes.false
    ∙ hits_before s history _ log access floor known.in_banks (λ command least bank is at inside allowed. c.column_floor.ensures.least s history command least known.banks_stand (is ∙ sym c.column_kind.ensures.kind) allowed)
    cycle early)
    so_far

pub returns : goal.returns
returns c s history log known hits rows so_far =
    let goes = c.args.goes in
    let test = hits_now s history (only c.args.commands.access) in
    so_far_same (length log) c.args.commands.now (λ cycle. earlier (hits cycle) (first_place (test cycle) log)) rows
    (λ cycle. earlier (hits cycle) (first_place (λ r. goes && test cycle r) log)) rows c.with_all_hits.new.best
    (λ cycle late. ap (earlier (hits cycle)) (sym (all_go goes (test cycle) log c.if-not-goes.false))) (λ cycle late. refl)
    (c.with_all_hits.ensures s history log known hits rows so_far)
