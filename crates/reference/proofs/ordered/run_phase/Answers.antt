use Rattle.std.proofs.Common.{subst, ◌∙◌}
use Rattle.shards.specs.Phases.{jobs_of}
use Rattle.reference.proofs.Given.{of_phase}
use Rattle.reference.proofs.Stopped.{misfits}
use Rattle.reference.proofs.ordered.run_phase.Goals as goal

pub merge-requires : goal.merge-requires
merge-requires g c = record { of = of_phase c.args.phase _ _ (c.in_ok-results_of.ensures ∙ c.requires.jobs) c.arrange-results.ensures.given }

pub returns-in-Err-clause-stopped : goal.returns-in-Err-clause-stopped
returns-in-Err-clause-stopped g c =
    let phase = c.args.phase in
    let arranged = c.arrange-results.result.items in
    let given = subst (λ results. g.O.Order.may_give c.number.result results arranged) (c.in_ok-results_of.ensures ∙ c.requires.jobs) c.arrange-results.ensures.may in
    let may = subst (λ n. g.O.Order.may_give n (jobs_of phase) arranged) c.number.ensures given in
    rw c.fault_of.ensures (misfits g.O.Order.may_give phase arranged c.in-Err.cause may c.in-Err.ensures.err)

pub returns-in-Ok-clause-fits : goal.returns-in-Ok-clause-fits
returns-in-Ok-clause-fits g c =
    let phase = c.args.phase in
    let arranged = c.arrange-results.result.items in
    let given = subst (λ results. g.O.Order.may_give c.number.result results arranged) (c.in_ok-results_of.ensures ∙ c.requires.jobs) c.arrange-results.ensures.may in
    let may = subst (λ n. g.O.Order.may_give n (jobs_of phase) arranged) c.number.ensures given in
    record { arranged = arranged; given = may; whole = c.in-Ok.ensures.fits }
