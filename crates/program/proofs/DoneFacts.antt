-- What is so of an answer, of a run or of a page is so of what it has done, or of why it is refused.
use Rattle.std.proofs.Common.{◌≢◌, Option, None, Result, Ok, Err}
use Rattle.std.specs.Prelude.{IfOk, IfErr, OnOk}
use Rattle.sim_base.specs.declared.fault.Fault.{Fault}
use Rattle.refusal.specs.declared.refusal.Refusal.{Refusal}
use Rattle.refusal.specs.declared.refusal.Refusal.TheVariants.{Kept}
use Rattle.refusal.specs.declared.warning.LargePage.{LargePage}
use Rattle.program.specs.Done.{done_with, done_unwarned, run_done, warned_done}
use Rattle.program.specs.declared.done.Done.{Done}
use Rattle.program.specs.declared.status.ExitStatus.TheVariants as status

-- who has done what was asked has not refused it
pub done_is_not_refused : status.Done ≢ status.Refused
done_is_not_refused is = absurd cc

-- what is so of each refusal
pub err_each : {T E : Type 0} (Q : E → Type 0) (r : Result T E) → ((e : E) → Q e) → IfErr r Q
err_each Q (Ok x) q = tt
err_each Q (Err e) q = q e

-- ---- an answer that warns of nothing

pub unwarned_ok : {P : Type 0} (Q : Done → Type 0) (answer : Result (Unit {0}) Fault) → (P → Q (done_with None)) → OnOk answer P → IfOk (done_unwarned answer) Q
unwarned_ok Q (Ok x) gives h = gives h
unwarned_ok Q (Err e) gives h = tt

pub unwarned_each : (Q : Done → Type 0) (answer : Result (Unit {0}) Fault) → Q (done_with None) → IfOk (done_unwarned answer) Q
unwarned_each Q (Ok x) q = q
unwarned_each Q (Err e) q = tt

pub unwarned_err : {P : Fault → Type 0} (Q : Refusal → Type 0) (answer : Result (Unit {0}) Fault) → ((e : Fault) → P e → Q (Kept e)) → IfErr answer P → IfErr (done_unwarned answer) Q
unwarned_err Q (Ok x) gives h = tt
unwarned_err Q (Err e) gives h = gives e h

pub unwarned_refused : (Q : Refusal → Type 0) (answer : Result (Unit {0}) Fault) → ((e : Fault) → Q (Kept e)) → IfErr (done_unwarned answer) Q
unwarned_refused Q (Ok x) q = tt
unwarned_refused Q (Err e) q = q e

-- ---- a run

pub run_ok : {P R : Type 0} (Q : Done → Type 0) (run : Result (Unit {0}) Refusal) → (P → R → Q (done_with None)) → OnOk run P → OnOk run R → IfOk (run_done run) Q
run_ok Q (Ok x) gives p r = gives p r
run_ok Q (Err e) gives p r = tt

pub run_each : (Q : Done → Type 0) (run : Result (Unit {0}) Refusal) → Q (done_with None) → IfOk (run_done run) Q
run_each Q (Ok x) q = q
run_each Q (Err e) q = tt

pub run_err : {P : Refusal → Type 0} (Q : Refusal → Type 0) (run : Result (Unit {0}) Refusal) → ((e : Refusal) → P e → Q e) → IfErr run P → IfErr (run_done run) Q
run_err Q (Ok x) gives h = tt
run_err Q (Err e) gives h = gives e h

-- ---- a page

pub warned_ok : {P : Option LargePage → Type 0} {R : Type 0} (Q : Done → Type 0) (page : Result (Option LargePage) Fault)
    → ((w : Option LargePage) → P w → R → Q (done_with w)) → IfOk page P → OnOk page R → IfOk (warned_done page) Q
warned_ok Q (Ok w) gives p r = gives w p r
warned_ok Q (Err e) gives p r = tt

pub warned_each : (Q : Done → Type 0) (page : Result (Option LargePage) Fault) → ((w : Option LargePage) → Q (done_with w)) → IfOk (warned_done page) Q
warned_each Q (Ok w) q = q w
warned_each Q (Err e) q = tt

pub warned_err : {P : Fault → Type 0} (Q : Refusal → Type 0) (page : Result (Option LargePage) Fault) → ((e : Fault) → P e → Q (Kept e)) → IfErr page P → IfErr (warned_done page) Q
warned_err Q (Ok w) gives h = tt
warned_err Q (Err e) gives h = gives e h
