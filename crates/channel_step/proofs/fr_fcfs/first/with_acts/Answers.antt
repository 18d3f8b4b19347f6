-- ACTs that are left out, since none may be issued by the cycle of the best offer.
use Rattle.std.proofs.Common.{◌≡◌, ℕ, ◌&&◌, ◌||◌, Option, None, Some, length, refl, sym, ◌∙◌, arith}
use Rattle.sim_base.specs.declared.command.Kind.TheVariants as kind
use Rattle.bank_ready.proofs.Allowed.{rank_of-bank}
use Rattle.queue.specs.Candidates.{first_place}
use Rattle.sim_base.specs.Places.{bank_at}
use Rattle.queue.specs.Columns.{bank_number}
use Rattle.sim_base.specs.Earlier.{earlier}
use Rattle.queue.specs.Sets.{is_in}
use Rattle.queue.specs.Stands.{row_of_bank}
use Rattle.channel_step.specs.FrFcfs.Offers.{row_requests_now, row_requests_beside, row_kind}
use Rattle.channel_step.proofs.FrFcfs.BankMore.{acts_before}
use Rattle.channel_step.proofs.FrFcfs.Beside.{beside_parts}
use Rattle.channel_step.proofs.FrFcfs.SoFar.{rows_late, so_far_same}
use Rattle.channel_step.proofs.fr_fcfs.first.with_acts.Goals as goal

-- commands that open rows are for banks in which none is open
closed_row : (row : Option ℕ) → kind.Act ≡ row_kind row → row ≡ None
closed_row None is = refl
closed_row (Some row) is = cc

pub returns-then-best-act_floor : goal.returns-then-best-act_floor
returns-then-best-act_floor c s history log hits left known apart so_far =
    let now = c.args.commands.now in
    let accesses = c.args.commands.accesses in
    let closed = λ (k : ℕ). is_in c.args.closed k in
    let floor = c.act_floor.result in
    let beside = row_requests_beside s history log accesses (λ k. closed k || left k) in
    let late = λ (cycle : ℕ). first_place (λ r. closed (bank_number r.place) && row_requests_now s history log accesses cycle r) log in
    so_far_same (length log) now hits (λ cycle. earlier (beside cycle) (late cycle)) hits (row_requests_beside s history log accesses left) c.args.best.now (λ cycle from. refl)
    (λ cycle from. sym (beside_parts closed left (row_requests_now s history log accesses cycle) log apart))
    (rows_late (length log) now floor hits beside late c.args.best.now (omega arith) (omega arith)
    (λ cycle early.
    acts_before s history _ log accesses closed floor known.in_banks known.banks_stand.ascending
    (λ command ready bank is at inside allowed. c.act_floor.ensures.floor s history command ready known.banks_stand is (omega (arith, inside, rank_of-bank command (bank_at bank) at)) allowed)
    (λ bank there.
    sym (known.candidates_stand.rows_are bank (c.requires.within bank there))
    ∙ closed_row (row_of_bank c.args.bank_candidates.now bank) (sym c.requires.acts ∙ (c.requires.needed bank there).kind_is))
    cycle early)
    so_far)
