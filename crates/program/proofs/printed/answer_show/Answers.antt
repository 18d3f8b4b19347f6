use Rattle.std.proofs.Common.{refl}
use Rattle.program.proofs.DoneFacts.{done_is_not_refused, unwarned_ok, unwarned_each, unwarned_err, unwarned_refused}
use Rattle.program.proofs.printed.answer_show.Goals as goal

pub returns-clause-answered : goal.returns-clause-answered
returns-clause-answered g c =
    rw c.done_unwarned.ensures (unwarned_ok _ c.perform_show.result (λ h tells. record {
      status_is = refl;
      shown = rw c.options_of.ensures at (h tells);
      untouched = record { same = c.perform_show.ensures.same tells; unopened = c.perform_show.ensures.unopened tells };
    }) c.perform_show.ensures.shown)

pub returns-clause-status : goal.returns-clause-status
returns-clause-status g c = rw c.done_unwarned.ensures (unwarned_each _ c.perform_show.result done_is_not_refused)

pub returns-clause-unwarned : goal.returns-clause-unwarned
returns-clause-unwarned g c = rw c.done_unwarned.ensures (unwarned_each _ c.perform_show.result refl)

pub returns-clause-refused : goal.returns-clause-refused
returns-clause-refused g c =
    rw c.done_unwarned.ensures (unwarned_refused _ c.perform_show.result (λ e tells. record {
      kept = tt;
      untouched = record { same = c.perform_show.ensures.same tells; unopened = c.perform_show.ensures.unopened tells };
    }))

pub returns-clause-fault : goal.returns-clause-fault
returns-clause-fault g c = rw c.done_unwarned.ensures (unwarned_err _ c.perform_show.result (λ e h. h) c.perform_show.ensures.fault)

pub returns-clause-unprinted : goal.returns-clause-unprinted
returns-clause-unprinted g c = rw c.done_unwarned.ensures (unwarned_err _ c.perform_show.result (λ e h. h) c.perform_show.ensures.unprinted)
