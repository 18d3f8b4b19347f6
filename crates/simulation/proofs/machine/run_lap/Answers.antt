-- Where a run does not end before a limit, it stops at the limit.
use Rattle.std.proofs.Common.{arith, sym, subst}
use Rattle.std.proofs.lemmas.Result.{IfOk-weaker}
use Rattle.units.proofs.Stopping.{stands-at_stop}
use Rattle.units.specs.Views.{HasReached}
use Rattle.simulation.proofs.machine.run_lap.Goals as goal

pub returns-in-Workers-clause-ok : goal.returns-in-Workers-clause-ok
returns-in-Workers-clause-ok g c =
    let sim = c.args.sim in
    let limit = c.args.limit in
    let at = stands-at_stop sim limit limit c.requires.not_past (omega arith) c.requires.goes_on (λ l. absurd (omega (arith, l))) in
    IfOk-weaker c.run_with.result _ _ (λ after reached. subst (λ n. HasReached sim n after) (sym at) reached) c.run_with.ensures.ok
