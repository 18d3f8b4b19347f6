use Rattle.config_reader.specs.Document.{document_of}
use Rattle.dramsim_c.specs.CInterface.Channels.{IsNewSession, open_refusal}
use Rattle.dramsim_c.proofs.CInterface.Keeping.{new-boxed, boxed-answer, is-opened, not-opened}
use Rattle.dramsim_c.proofs.c_interface.channel.opened.Goals as goal

pub returns-in-Ok-open-clause-opened : goal.returns-in-Ok-open-clause-opened
returns-in-Ok-open-clause-opened c =
    let session = c.in-Ok-open.ensures {u = tt} in
    new-boxed (IsNewSession c.args.text.now c.args.number) (λ owner. owner.value) c.in-Ok-open.session c.boxed.result c.boxed.ensures.value
    (record { config = c.in-Ok.config; configured = (c.in-Ok.ensures {u = tt}).ok; past = session.opened; now = session.now })

pub returns-in-Ok-open-clause-answer : goal.returns-in-Ok-open-clause-answer
returns-in-Ok-open-clause-answer c =
    boxed-answer (open_refusal (document_of c.args.text.now) c.args.number) c.boxed.result c.boxed.ensures.memory
    (is-opened c.args.text.now c.args.number c.in-Ok.config c.in-Ok-open.session (c.in-Ok.ensures {u = tt}).ok (c.in-Ok-open.ensures {u = tt}).answer)

pub returns-clause-answer : goal.returns-clause-answer
returns-clause-answer c =
    not-opened c.args.text.now c.args.number c.in-Ok.config c.in-Err-open.fault (c.in-Ok.ensures {u = tt}).ok (c.in-Err-open.ensures {u = tt}).answer
