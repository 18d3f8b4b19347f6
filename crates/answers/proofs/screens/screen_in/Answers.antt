use Rattle.config_reader.proofs.Refusing.{same_fault}
use Rattle.std.proofs.lemmas.Result.{IfOk-weaker, IfErr-weaker, IfOk-from_err}
use Rattle.std.proofs.Common.{option_map}
use Rattle.answers.proofs.NamedFacts.{any_ok}
use Rattle.answers.proofs.RequestFacts.{memory_refused}
use Rattle.answers.proofs.screens.screen_in.Goals as goal

pub returns-clause-screen : goal.returns-clause-screen
returns-clause-screen g c =
    IfOk-weaker c.screen_of.result _ _ (λ text made tells. record {
      requests = option_map (λ r. r.items) c.in_ok-requests.requests;
      requests_are = c.in_ok-requests.ensures.found tells;
      screen = made;
    }) c.screen_of.ensures.screen

pub returns-in_err-requests-clause-screen : goal.returns-in_err-requests-clause-screen
returns-in_err-requests-clause-screen g c = IfOk-from_err c.from_residual.result _ c.from_residual.ensures.0

pub returns-in_err-requests-clause-requests : goal.returns-in_err-requests-clause-requests
returns-in_err-requests-clause-requests g c = IfOk-from_err c.from_residual.result _ c.from_residual.ensures.0

pub returns-in_err-requests-clause-fault : goal.returns-in_err-requests-clause-fault
returns-in_err-requests-clause-fault g c =
    rw (same_fault c.from_residual.result _ c.from_residual.ensures) c.in_err-requests.ensures.fault

pub returns-in_err-requests-clause-same : goal.returns-in_err-requests-clause-same
returns-in_err-requests-clause-same g c = c.in_err-requests.ensures.same

pub returns-in_err-requests-clause-unopened : goal.returns-in_err-requests-clause-unopened
returns-in_err-requests-clause-unopened g c = c.in_err-requests.ensures.unopened

pub returns-clause-requests : goal.returns-clause-requests
returns-clause-requests g c = any_ok c.screen_of.result (λ t. record {
  requests = option_map (λ r. r.items) c.in_ok-requests.requests;
  requests_are = c.in_ok-requests.ensures.found t;
})

pub returns-clause-fault : goal.returns-clause-fault
returns-clause-fault g c = IfErr-weaker c.screen_of.result _ _ (λ fault memory. memory_refused _ _ _ _ _ memory) c.screen_of.ensures.fault

pub returns-clause-same : goal.returns-clause-same
returns-clause-same g c = c.in_ok-requests.ensures.same

pub returns-clause-unopened : goal.returns-clause-unopened
returns-clause-unopened g c = c.in_ok-requests.ensures.unopened
