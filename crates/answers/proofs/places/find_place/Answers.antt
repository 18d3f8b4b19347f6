use Rattle.std.proofs.lemmas.Result.{IfOk-from_err}
use Rattle.answers.proofs.NamedFacts.{one_unread}
use Rattle.std.proofs.Common.{[], ◌∷◌, sym, ap, ◌∙◌, refl, None}
use Rattle.std.specs.Result.{is_ok}
use Rattle.config_reader.specs.Document.{document_of}
use Rattle.config_reader.proofs.Refusing.{same_fault}
use Rattle.answers.proofs.RefusedFacts.{one_text, map_fault}
use Rattle.answers.proofs.places.find_place.Goals as goal

pub returns-clause-place : goal.returns-clause-place
returns-clause-place g c = λ tells. record {
  document = c.in_ok-document.document.items;
  machine = c.in_ok-config.config;
  config_is = c.in_ok-document.ensures.bytes tells;
  configured = ap document_of (sym c.deref.ensures.value) ∙ c.in_ok-config.ensures.ok;
  ranks_is = refl;
  place_is = c.place_of.ensures.value;
}

pub returns-clause-ready : goal.returns-clause-ready
returns-clause-ready g c = record {
  texts = c.in_ok-document.document.items ∷ [];
  read = one_text _ _ _ _ c.in_ok-document.ensures.bytes;
  right = ap is_ok (ap document_of (sym c.deref.ensures.value) ∙ c.in_ok-config.ensures.ok);
}

pub returns-in_err-config-clause-fault : goal.returns-in_err-config-clause-fault
returns-in_err-config-clause-fault g c =
    rw (same_fault c.from_residual-in_err-config.result _ c.from_residual-in_err-config.ensures) (map_fault _ _ _ _ _ _ (one_text _ _ _ _ c.in_ok-document.ensures.bytes) c.deref.ensures.value c.in_err-config.ensures.refused)

pub returns-in_err-document-clause-place : goal.returns-in_err-document-clause-place
returns-in_err-document-clause-place g c = IfOk-from_err c.from_residual.result _ c.from_residual.ensures.0

pub returns-in_err-document-clause-ready : goal.returns-in_err-document-clause-ready
returns-in_err-document-clause-ready g c = IfOk-from_err c.from_residual.result _ c.from_residual.ensures.0

pub returns-in_err-document-clause-fault : goal.returns-in_err-document-clause-fault
returns-in_err-document-clause-fault g c =
    rw (same_fault c.from_residual.result _ c.from_residual.ensures) (one_unread _ _ _ None _ _ _ _ (λ t path. refl) c.in_err-document.ensures.fault)

pub returns-in_err-document-clause-same : goal.returns-in_err-document-clause-same
returns-in_err-document-clause-same g c = c.in_err-document.ensures.same

pub returns-in_err-document-clause-unopened : goal.returns-in_err-document-clause-unopened
returns-in_err-document-clause-unopened g c = c.in_err-document.ensures.unopened

pub returns-in_err-config-clause-place : goal.returns-in_err-config-clause-place
returns-in_err-config-clause-place g c =
    IfOk-from_err c.from_residual-in_err-config.result _ c.from_residual-in_err-config.ensures.0

pub returns-in_err-config-clause-ready : goal.returns-in_err-config-clause-ready
returns-in_err-config-clause-ready g c =
    IfOk-from_err c.from_residual-in_err-config.result _ c.from_residual-in_err-config.ensures.0

pub returns-in_err-config-clause-same : goal.returns-in_err-config-clause-same
returns-in_err-config-clause-same g c = c.in_ok-document.ensures.same

pub returns-in_err-config-clause-unopened : goal.returns-in_err-config-clause-unopened
returns-in_err-config-clause-unopened g c = c.in_ok-document.ensures.unopened

pub returns-clause-fault : goal.returns-clause-fault
returns-clause-fault g c = tt

pub returns-clause-same : goal.returns-clause-same
returns-clause-same g c = c.in_ok-document.ensures.same

pub returns-clause-unopened : goal.returns-clause-unopened
returns-clause-unopened g c = c.in_ok-document.ensures.unopened
