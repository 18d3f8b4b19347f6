use Rattle.std.proofs.Common.{inl, ◌∷◌, map, ap, ◌∙◌}
use Rattle.config_reader.proofs.Refusing.{same_fault}
use Rattle.std.specs.Result.{is_ok}
use Rattle.std.proofs.lemmas.Result.{IfOk-weaker, IfErr-weaker, IfOk-from_err}
use Rattle.answers.proofs.ManyFiles.{texts_held}
use Rattle.program.proofs.RefusedFacts.{not_read_later, run_texts, run_refused}
use Rattle.program.proofs.runs.read_files.Goals as goal

pub returns-clause-read : goal.returns-clause-read
returns-clause-read g c =
    IfOk-weaker c.tested_input.result _ _ (λ read input. λ tells. record {
      document = c.in_ok-document.document.items;
      texts = map (λ t. t) c.in_ok-texts.texts.items;
      config_is = c.in_ok-document.ensures.bytes tells;
      traces_are = texts_held _ _ (λ t. t.now) (λ t. t) c.args.asked.now.traces.now c.in_ok-texts.texts.items (c.in_ok-document.ensures.same tells) (c.in_ok-texts.ensures.texts tells);
      input = rw (c.deref-2.ensures.value, c.deref-3.ensures.value, c.in_ok-slices.ensures, c.deref.ensures.value) at input;
    }) c.tested_input.ensures.read

pub returns-clause-ready : goal.returns-clause-ready
returns-clause-ready g c =
    IfOk-weaker c.tested_input.result _ _ (λ read input. record {
      texts = c.in_ok-document.document.items ∷ map (λ t. t) c.in_ok-texts.texts.items;
      read =
          run_texts _ _ _ _ _ (λ t. t.now) (λ t. t) c.args.asked.now.traces.now c.in_ok-texts.texts.items c.in_ok-document.ensures.bytes c.in_ok-document.ensures.same
          c.in_ok-texts.ensures.count c.in_ok-texts.ensures.texts;
      right = ap is_ok (rw (c.deref-2.ensures.value, c.deref-3.ensures.value, c.in_ok-slices.ensures, c.deref.ensures.value) at input.read);
    }) c.tested_input.ensures.read

pub returns-clause-fault : goal.returns-clause-fault
returns-clause-fault g c =
    IfErr-weaker c.tested_input.result _ _ (λ fault refused. run_refused _ _ _ _ _ _ _ fault
    (run_texts _ _ _ _ _ (λ t. t.now) (λ t. t) c.args.asked.now.traces.now c.in_ok-texts.texts.items c.in_ok-document.ensures.bytes c.in_ok-document.ensures.same
    c.in_ok-texts.ensures.count c.in_ok-texts.ensures.texts)
    (rw (c.deref-2.ensures.value, c.deref-3.ensures.value, c.in_ok-slices.ensures, c.deref.ensures.value) at refused)) c.tested_input.ensures.refused

pub returns-in_err-texts-clause-fault : goal.returns-in_err-texts-clause-fault
returns-in_err-texts-clause-fault g c =
    rw (same_fault c.from_residual-in_err-texts.result _ c.from_residual-in_err-texts.ensures)
    (inl (inl (not_read_later _ _ _ _ _ _ c.in_ok-document.ensures.same c.in_err-texts.ensures.fault)))

pub returns-in_err-document-clause-folder : goal.returns-in_err-document-clause-folder
returns-in_err-document-clause-folder g c = IfOk-from_err c.from_residual.result _ c.from_residual.ensures.0

pub returns-in_err-document-clause-read : goal.returns-in_err-document-clause-read
returns-in_err-document-clause-read g c = IfOk-from_err c.from_residual.result _ c.from_residual.ensures.0

pub returns-in_err-document-clause-count : goal.returns-in_err-document-clause-count
returns-in_err-document-clause-count g c = IfOk-from_err c.from_residual.result _ c.from_residual.ensures.0

pub returns-in_err-document-clause-workers : goal.returns-in_err-document-clause-workers
returns-in_err-document-clause-workers g c = IfOk-from_err c.from_residual.result _ c.from_residual.ensures.0

pub returns-in_err-document-clause-cycles : goal.returns-in_err-document-clause-cycles
returns-in_err-document-clause-cycles g c = IfOk-from_err c.from_residual.result _ c.from_residual.ensures.0

pub returns-in_err-document-clause-ready : goal.returns-in_err-document-clause-ready
returns-in_err-document-clause-ready g c = IfOk-from_err c.from_residual.result _ c.from_residual.ensures.0

pub returns-in_err-document-clause-same : goal.returns-in_err-document-clause-same
returns-in_err-document-clause-same g c = c.in_err-document.ensures.same

pub returns-in_err-document-clause-unopened : goal.returns-in_err-document-clause-unopened
returns-in_err-document-clause-unopened g c = c.in_err-document.ensures.unopened

pub returns-in_err-texts-clause-folder : goal.returns-in_err-texts-clause-folder
returns-in_err-texts-clause-folder g c =
    IfOk-from_err c.from_residual-in_err-texts.result _ c.from_residual-in_err-texts.ensures.0

pub returns-in_err-texts-clause-read : goal.returns-in_err-texts-clause-read
returns-in_err-texts-clause-read g c =
    IfOk-from_err c.from_residual-in_err-texts.result _ c.from_residual-in_err-texts.ensures.0

pub returns-in_err-texts-clause-count : goal.returns-in_err-texts-clause-count
returns-in_err-texts-clause-count g c =
    IfOk-from_err c.from_residual-in_err-texts.result _ c.from_residual-in_err-texts.ensures.0

pub returns-in_err-texts-clause-workers : goal.returns-in_err-texts-clause-workers
returns-in_err-texts-clause-workers g c =
    IfOk-from_err c.from_residual-in_err-texts.result _ c.from_residual-in_err-texts.ensures.0

pub returns-in_err-texts-clause-cycles : goal.returns-in_err-texts-clause-cycles
returns-in_err-texts-clause-cycles g c =
    IfOk-from_err c.from_residual-in_err-texts.result _ c.from_residual-in_err-texts.ensures.0

pub returns-in_err-texts-clause-ready : goal.returns-in_err-texts-clause-ready
returns-in_err-texts-clause-ready g c =
    IfOk-from_err c.from_residual-in_err-texts.result _ c.from_residual-in_err-texts.ensures.0

pub returns-in_err-texts-clause-same : goal.returns-in_err-texts-clause-same
returns-in_err-texts-clause-same g c =
    λ t path. c.in_err-texts.ensures.same t path ∙ c.in_ok-document.ensures.same t path

pub returns-in_err-texts-clause-unopened : goal.returns-in_err-texts-clause-unopened
returns-in_err-texts-clause-unopened g c = λ t. c.in_err-texts.ensures.unopened t ∙ c.in_ok-document.ensures.unopened t

pub returns-in_err-slices-clause-folder : goal.returns-in_err-slices-clause-folder
returns-in_err-slices-clause-folder g c =
    IfOk-from_err c.from_residual-in_err-slices.result _ c.from_residual-in_err-slices.ensures.0

pub returns-in_err-slices-clause-read : goal.returns-in_err-slices-clause-read
returns-in_err-slices-clause-read g c =
    IfOk-from_err c.from_residual-in_err-slices.result _ c.from_residual-in_err-slices.ensures.0

pub returns-in_err-slices-clause-count : goal.returns-in_err-slices-clause-count
returns-in_err-slices-clause-count g c =
    IfOk-from_err c.from_residual-in_err-slices.result _ c.from_residual-in_err-slices.ensures.0

pub returns-in_err-slices-clause-workers : goal.returns-in_err-slices-clause-workers
returns-in_err-slices-clause-workers g c =
    IfOk-from_err c.from_residual-in_err-slices.result _ c.from_residual-in_err-slices.ensures.0

pub returns-in_err-slices-clause-cycles : goal.returns-in_err-slices-clause-cycles
returns-in_err-slices-clause-cycles g c =
    IfOk-from_err c.from_residual-in_err-slices.result _ c.from_residual-in_err-slices.ensures.0

pub returns-in_err-slices-clause-ready : goal.returns-in_err-slices-clause-ready
returns-in_err-slices-clause-ready g c =
    IfOk-from_err c.from_residual-in_err-slices.result _ c.from_residual-in_err-slices.ensures.0

pub returns-in_err-slices-clause-same : goal.returns-in_err-slices-clause-same
returns-in_err-slices-clause-same g c =
    λ t path. c.in_ok-texts.ensures.same t path ∙ c.in_ok-document.ensures.same t path

pub returns-in_err-slices-clause-unopened : goal.returns-in_err-slices-clause-unopened
returns-in_err-slices-clause-unopened g c = λ t. c.in_ok-texts.ensures.unopened t ∙ c.in_ok-document.ensures.unopened t

pub returns-clause-same : goal.returns-clause-same
returns-clause-same g c = λ t path. c.in_ok-texts.ensures.same t path ∙ c.in_ok-document.ensures.same t path

pub returns-clause-unopened : goal.returns-clause-unopened
returns-clause-unopened g c = λ t. c.in_ok-texts.ensures.unopened t ∙ c.in_ok-document.ensures.unopened t
