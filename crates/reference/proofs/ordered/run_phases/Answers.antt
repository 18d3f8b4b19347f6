use Rattle.std.proofs.Common.{◌≡◌, ◌≤◌, ◌-◌, length, refl, sym, ap, subst, ◌∙◌, arith}
use Rattle.std.proofs.lemmas.Result.{err_from_is_err_and}
use Rattle.units.specs.Views.{SimView}
use Rattle.shards.specs.Phases.{ShardedView, ended, shards_in, sim_of}
use Rattle.shards.specs.Planning.{IsPlanned}
use Rattle.reference.specs.Orders.{HasCome, IsNext}
use Rattle.reference.proofs.Coming.{come-none, come-on, come-phase, why-on, why-phase}
use Rattle.reference.proofs.ordered.run_phases.Goals as goal

pub loop-sim-init : goal.loop-sim-init
loop-sim-init g c =
    let m = g.O.Order.may_give in
    let sim = c.args.sim in
    let same = sym (c.in_ok-sharded.ensures {u = tt}).same in
    let come = subst (λ (s : SimView). (s.machine ≡ sim.machine) × (s.now ≤ c.args.stop) × HasCome m c.args.shards sim c.args.stop s) same
    (refl, c.requires.not_past, come-none m c.args.shards sim c.args.stop) in
    (come.0, come.1, (c.in_ok-sharded.ensures {u = tt}).count, come.2)

pub loop-sim-preserved : goal.loop-sim-preserved
loop-sim-preserved g c =
    let m = g.O.Order.may_give in
    let at = c.loop-sim in
    let stop = c.args.stop in
    let phase = c.in-Phase.phase in
    let planned = subst (IsPlanned at.sharded stop) c.in-Phase.is (c.in_ok-sim.ensures {u = tt}) in
    let went = c.in_ok-sharded-in-Phase.ensures {u = tt} in
    let many : shards_in (ended phase) ≡ c.args.shards = ap (λ bounds. length bounds - 1) planned.1 ∙ at.invariant.2 in
    let next : IsNext c.args.shards (sim_of at.sharded) stop phase = record { phase_is = planned.0; shards_are = many } in
    subst (λ (s : ShardedView). (s.machine ≡ c.args.sim.machine) × (s.now ≤ stop) × (shards_in s ≡ c.args.shards) × HasCome m c.args.shards c.args.sim stop (sim_of s)) (sym went.ok) (
      planned.0.machine_is ∙ at.invariant.0,
      planned.0.within,
      many,
      come-on m c.args.shards c.args.sim (sim_of at.sharded) (sim_of (ended phase)) stop stop (omega arith) at.invariant.3 (come-phase m c.args.shards (sim_of at.sharded) stop phase next went.fits),
    )

pub returns-in_err-sharded-in-Phase-clause-stopped : goal.returns-in_err-sharded-in-Phase-clause-stopped
returns-in_err-sharded-in-Phase-clause-stopped g c =
    let m = g.O.Order.may_give in
    let at = c.loop-sim in
    let stop = c.args.stop in
    let phase = c.in-Phase.phase in
    let fault = c.in_err-sharded-in-Phase.field-0.0 in
    let planned = subst (IsPlanned at.sharded stop) c.in-Phase.is (c.in_ok-sim.ensures {u = tt}) in
    let q = err_from_is_err_and c.from_residual-in_err-sharded-in-Phase.result c.from_residual-in_err-sharded-in-Phase.ensures.1 in
    let many : shards_in (ended phase) ≡ c.args.shards = ap (λ bounds. length bounds - 1) planned.1 ∙ at.invariant.2 in
    let next : IsNext c.args.shards (sim_of at.sharded) stop phase = record { phase_is = planned.0; shards_are = many } in
    rw (q.1, q.2)
    (why-on m c.args.shards c.args.sim (sim_of at.sharded) stop stop fault (omega arith) at.invariant.3 (why-phase m c.args.shards (sim_of at.sharded) stop phase fault next (c.in_err-sharded-in-Phase.ensures {u = tt}).stopped))
