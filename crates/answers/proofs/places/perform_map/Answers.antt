use Rattle.config_reader.proofs.Refusing.{same_fault}
use Rattle.std.proofs.lemmas.Result.{on_ok_weaker, IfErr-weaker, IfOk-from_err}
use Rattle.answers.proofs.NamedFacts.{ok_with, err_with, unprinted_by}
use Rattle.std.proofs.Common.{inl, inr, refl}
use Rattle.answers.proofs.places.perform_map.Goals as goal

pub returns-in_err-ranks-clause-mapped : goal.returns-in_err-ranks-clause-mapped
returns-in_err-ranks-clause-mapped g c = IfOk-from_err c.from_residual.result _ c.from_residual.ensures.0

pub returns-in_err-ranks-clause-fault : goal.returns-in_err-ranks-clause-fault
returns-in_err-ranks-clause-fault g c =
    rw (same_fault c.from_residual.result _ c.from_residual.ensures) (inl c.in_err-ranks.ensures.fault)

pub returns-in_err-ranks-clause-same : goal.returns-in_err-ranks-clause-same
returns-in_err-ranks-clause-same g c = c.in_err-ranks.ensures.same

pub returns-in_err-ranks-clause-unopened : goal.returns-in_err-ranks-clause-unopened
returns-in_err-ranks-clause-unopened g c = c.in_err-ranks.ensures.unopened

pub returns-clause-same : goal.returns-clause-same
returns-clause-same g c = c.in_ok-ranks.ensures.same

pub returns-clause-unopened : goal.returns-clause-unopened
returns-clause-unopened g c = c.in_ok-ranks.ensures.unopened

pub returns-clause-mapped : goal.returns-clause-mapped
returns-clause-mapped g c = on_ok_weaker c.print_answer.result (λ given tells.
    let made = ok_with c.place_line_of.result _ _ c.place_line_of.ensures.line given in
    record {
      ranks = c.in_ok-ranks.ranks;
      place = c.in_ok-ranks.place;
      is_place = c.in_ok-ranks.ensures.place tells;
      printed = rw (← made.1) made.2;
    }) c.print_answer.ensures.printed

pub returns-clause-fault : goal.returns-clause-fault
returns-clause-fault g c = IfErr-weaker c.print_answer.result _ _ (λ fault refused. elim refused [
  | inl write ↦ inr (write.0, c.in_ok-ranks.ensures.ready)
  | inr made ↦ inl (inl (inl (err_with c.place_line_of.result _ _ c.place_line_of.ensures.fault made)))
]) c.print_answer.ensures.fault

pub returns-in_err-ranks-clause-unprinted : goal.returns-in_err-ranks-clause-unprinted
returns-in_err-ranks-clause-unprinted g c = rw (same_fault c.from_residual.result _ c.from_residual.ensures) (λ other. refl)

pub returns-clause-unprinted : goal.returns-clause-unprinted
returns-clause-unprinted g c =
    IfErr-weaker c.print_answer.result _ _ (λ fault refused other. unprinted_by c.place_line_of.result _ _ refused c.print_answer.ensures.unprinted other) c.print_answer.ensures.fault
