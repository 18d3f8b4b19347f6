use Rattle.std.proofs.Common.{refl}
use Rattle.program.proofs.DoneFacts.{done_is_not_refused, err_each, unwarned_each, unwarned_err, run_ok, run_each, run_err, warned_ok, warned_each, warned_err}
use Rattle.program.proofs.perform.answer.Goals as goal

pub returns-in-Run-clause-answered : goal.returns-in-Run-clause-answered
returns-in-Run-clause-answered g c =
    let asked = c.run_ask.ensures in
    rw (c.run_done.ensures, c.in-Run.is) (run_ok _ c.perform_run.result (λ done folder tells. record {
      status_is = refl;
      folder = folder tells;
      done = done tells;
      silent = refl;
    })
    (rw (asked.config, asked.cycles, asked.workers, asked.tables, asked.out, asked.traces) at c.perform_run.ensures.done)
    (rw asked.out at c.perform_run.ensures.folder))

pub returns-in-Run-clause-status : goal.returns-in-Run-clause-status
returns-in-Run-clause-status g c = rw c.run_done.ensures (run_each _ c.perform_run.result done_is_not_refused)

pub returns-in-Run-clause-unwarned : goal.returns-in-Run-clause-unwarned
returns-in-Run-clause-unwarned g c = rw (c.run_done.ensures, c.in-Run.is) (run_each _ c.perform_run.result refl)

pub returns-in-Run-clause-refused : goal.returns-in-Run-clause-refused
returns-in-Run-clause-refused g c =
    let asked = c.run_ask.ensures in
    rw (c.run_done.ensures, c.in-Run.is) (run_err _ c.perform_run.result (λ e left. left)
    (rw (asked.config, asked.cycles, asked.workers, asked.tables, asked.out, asked.traces) at c.perform_run.ensures.refused))

pub returns-in-Run-clause-fault : goal.returns-in-Run-clause-fault
returns-in-Run-clause-fault g c =
    let asked = c.run_ask.ensures in
    rw (c.run_done.ensures, c.in-Run.is) (run_err _ c.perform_run.result (λ e why. why)
    (rw (asked.config, asked.cycles, asked.workers, asked.traces) at c.perform_run.ensures.fault))

pub returns-in-Page-clause-answered : goal.returns-in-Page-clause-answered
returns-in-Page-clause-answered g c =
    rw (c.warned_done.ensures, c.in-Page.is) (warned_ok _ c.perform_page.result (λ warning made opened tells. record {
      status_is = refl;
      page = made tells;
      opened_is = opened tells;
      silent = refl;
    }) c.perform_page.ensures.done c.perform_page.ensures.noted)

pub returns-in-Page-clause-status : goal.returns-in-Page-clause-status
returns-in-Page-clause-status g c = rw c.warned_done.ensures (warned_each _ c.perform_page.result (λ warning. done_is_not_refused))

pub returns-in-Page-clause-unwarned : goal.returns-in-Page-clause-unwarned
returns-in-Page-clause-unwarned g c = rw (c.warned_done.ensures, c.in-Page.is) (warned_each _ c.perform_page.result (λ warning. tt))

pub returns-in-Page-clause-fault : goal.returns-in-Page-clause-fault
returns-in-Page-clause-fault g c =
    rw (c.warned_done.ensures, c.in-Page.is) (warned_err _ c.perform_page.result (λ e why. why) c.perform_page.ensures.fault)

pub returns-in-Help-clause-status : goal.returns-in-Help-clause-status
returns-in-Help-clause-status g c = rw c.done_unwarned.ensures (unwarned_each _ c.print_text.result done_is_not_refused)

pub returns-in-Check-clause-status : goal.returns-in-Check-clause-status
returns-in-Check-clause-status g c = c.answer_check.ensures.status

pub returns-in-Check-clause-unwarned : goal.returns-in-Check-clause-unwarned
returns-in-Check-clause-unwarned g c = rw c.in-Check.is c.answer_check.ensures.unwarned

pub returns-in-Check-clause-fault : goal.returns-in-Check-clause-fault
returns-in-Check-clause-fault g c = rw c.in-Check.is c.answer_check.ensures.fault

pub returns-in-Check-clause-answered : goal.returns-in-Check-clause-answered
returns-in-Check-clause-answered g c = rw c.in-Check.is c.answer_check.ensures.answered

pub returns-in-Map-clause-status : goal.returns-in-Map-clause-status
returns-in-Map-clause-status g c = c.answer_map.ensures.status

pub returns-in-Map-clause-unwarned : goal.returns-in-Map-clause-unwarned
returns-in-Map-clause-unwarned g c = rw c.in-Map.is c.answer_map.ensures.unwarned

pub returns-in-Map-clause-fault : goal.returns-in-Map-clause-fault
returns-in-Map-clause-fault g c = rw c.in-Map.is c.answer_map.ensures.fault

pub returns-in-Map-clause-answered : goal.returns-in-Map-clause-answered
returns-in-Map-clause-answered g c = rw c.in-Map.is c.answer_map.ensures.answered

pub returns-in-Show-clause-status : goal.returns-in-Show-clause-status
returns-in-Show-clause-status g c = c.answer_show.ensures.status

pub returns-in-Show-clause-unwarned : goal.returns-in-Show-clause-unwarned
returns-in-Show-clause-unwarned g c = rw c.in-Show.is c.answer_show.ensures.unwarned

pub returns-in-Show-clause-fault : goal.returns-in-Show-clause-fault
returns-in-Show-clause-fault g c = rw c.in-Show.is c.answer_show.ensures.fault

pub returns-in-Show-clause-answered : goal.returns-in-Show-clause-answered
returns-in-Show-clause-answered g c = rw c.in-Show.is c.answer_show.ensures.answered

pub returns-in-ShowBanks-clause-status : goal.returns-in-ShowBanks-clause-status
returns-in-ShowBanks-clause-status g c = c.answer_show_banks.ensures.status

pub returns-in-ShowBanks-clause-unwarned : goal.returns-in-ShowBanks-clause-unwarned
returns-in-ShowBanks-clause-unwarned g c = rw c.in-ShowBanks.is c.answer_show_banks.ensures.unwarned

pub returns-in-ShowBanks-clause-fault : goal.returns-in-ShowBanks-clause-fault
returns-in-ShowBanks-clause-fault g c = rw c.in-ShowBanks.is c.answer_show_banks.ensures.fault

pub returns-in-ShowBanks-clause-answered : goal.returns-in-ShowBanks-clause-answered
returns-in-ShowBanks-clause-answered g c = rw c.in-ShowBanks.is c.answer_show_banks.ensures.answered

pub returns-in-Compare-clause-status : goal.returns-in-Compare-clause-status
returns-in-Compare-clause-status g c = c.answer_compare.ensures.status

pub returns-in-Compare-clause-unwarned : goal.returns-in-Compare-clause-unwarned
returns-in-Compare-clause-unwarned g c = rw c.in-Compare.is c.answer_compare.ensures.unwarned

pub returns-in-Compare-clause-fault : goal.returns-in-Compare-clause-fault
returns-in-Compare-clause-fault g c = rw c.in-Compare.is (rw c.deref.ensures.value at c.answer_compare.ensures.fault)

pub returns-in-Compare-clause-answered : goal.returns-in-Compare-clause-answered
returns-in-Compare-clause-answered g c = rw c.in-Compare.is (rw c.deref.ensures.value at c.answer_compare.ensures.answered)

pub returns-in-Check-clause-refused : goal.returns-in-Check-clause-refused
returns-in-Check-clause-refused g c = rw c.in-Check.is c.answer_check.ensures.refused

pub returns-in-Map-clause-refused : goal.returns-in-Map-clause-refused
returns-in-Map-clause-refused g c = rw c.in-Map.is c.answer_map.ensures.refused

pub returns-in-Show-clause-refused : goal.returns-in-Show-clause-refused
returns-in-Show-clause-refused g c = rw c.in-Show.is c.answer_show.ensures.refused

pub returns-in-ShowBanks-clause-refused : goal.returns-in-ShowBanks-clause-refused
returns-in-ShowBanks-clause-refused g c = rw c.in-ShowBanks.is c.answer_show_banks.ensures.refused

pub returns-in-Compare-clause-refused : goal.returns-in-Compare-clause-refused
returns-in-Compare-clause-refused g c = rw c.in-Compare.is c.answer_compare.ensures.refused

pub returns-in-Run-clause-unprinted : goal.returns-in-Run-clause-unprinted
returns-in-Run-clause-unprinted g c = err_each _ c.run_done.result (λ e other. refl)

pub returns-in-Page-clause-unprinted : goal.returns-in-Page-clause-unprinted
returns-in-Page-clause-unprinted g c = err_each _ c.warned_done.result (λ e other. refl)

pub returns-in-Help-clause-unprinted : goal.returns-in-Help-clause-unprinted
returns-in-Help-clause-unprinted g c = rw c.done_unwarned.ensures (unwarned_err _ c.print_text.result (λ e write other. absurd (other write)) c.print_text.ensures.fault)

pub returns-in-Check-clause-unprinted : goal.returns-in-Check-clause-unprinted
returns-in-Check-clause-unprinted g c = c.answer_check.ensures.unprinted

pub returns-in-Map-clause-unprinted : goal.returns-in-Map-clause-unprinted
returns-in-Map-clause-unprinted g c = c.answer_map.ensures.unprinted

pub returns-in-Show-clause-unprinted : goal.returns-in-Show-clause-unprinted
returns-in-Show-clause-unprinted g c = c.answer_show.ensures.unprinted

pub returns-in-ShowBanks-clause-unprinted : goal.returns-in-ShowBanks-clause-unprinted
returns-in-ShowBanks-clause-unprinted g c = c.answer_show_banks.ensures.unprinted

pub returns-in-Compare-clause-unprinted : goal.returns-in-Compare-clause-unprinted
returns-in-Compare-clause-unprinted g c = c.answer_compare.ensures.unprinted
