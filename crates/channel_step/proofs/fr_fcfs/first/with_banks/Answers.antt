-- What opens or closes a row, and then the row hits of each kind that goes.
use Rattle.std.proofs.Common.{ℕ, ◌&&◌, None, refl, length}
use Rattle.sim_base.specs.declared.message.Access.TheVariants as access
use Rattle.queue.specs.Candidates.{first_place}
use Rattle.sim_base.specs.Earlier.{earlier}
use Rattle.channel_step.specs.FrFcfs.Offers.{only, hits_now, row_requests_now}
use Rattle.channel_step.proofs.FrFcfs.BankMore.{both_hits}
use Rattle.channel_step.proofs.FrFcfs.SoFar.{so_far_same}
use Rattle.channel_step.proofs.fr_fcfs.first.with_banks.Goals as goal

pub returns : goal.returns
returns c s history log known before =
    let accesses = c.args.accesses in
    let rows = λ (cycle : ℕ). first_place (row_requests_now s history log accesses cycle) log in
    let reads = λ (cycle : ℕ). first_place (λ r. accesses.reads && hits_now s history (only access.Read) cycle r) log in
    let writes = λ (cycle : ℕ). first_place (λ r. accesses.writes && hits_now s history (only access.Write) cycle r) log in
    so_far_same (length log) c.args.now (λ cycle. earlier (reads cycle) (writes cycle)) rows (λ cycle. first_place (hits_now s history accesses cycle) log) rows c.with_hits-2.new.best
    (λ cycle late. both_hits s history log accesses cycle) (λ cycle late. refl)
    (c.with_hits-2.ensures s history log known reads rows
    (c.with_hits.ensures s history log known (λ cycle. None) rows (c.with_rows.ensures s history log known (λ cycle. None) before)))
