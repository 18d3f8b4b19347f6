use Rattle.std.proofs.Common.{ap}
use Rattle.config_reader.specs.Document.{document_of}
use Rattle.dramsim_c.proofs.CInterface.Keeping.{new-boxed, boxed-answer}
use Rattle.dramsim_c.specs.CInterface.Memories.{IsNewMemory, configuration_refusal}
use Rattle.dramsim_c.proofs.c_interface.c_memory.memory.opened.Goals as goal

pub returns-in-Ok-open-clause-opened : goal.returns-in-Ok-open-clause-opened
returns-in-Ok-open-clause-opened c =
    let memory = c.in-Ok-open.ensures {u = tt} in
    new-boxed (IsNewMemory c.args.text.now) (λ owner. owner.value) c.in-Ok-open.memory c.boxed.result c.boxed.ensures.value
    (record { config = c.in-Ok.config; configured = (c.in-Ok.ensures {u = tt}).ok; pasts = memory.opened; now = memory.now; is_of = memory.config })

pub returns-in-Ok-open-clause-answer : goal.returns-in-Ok-open-clause-answer
returns-in-Ok-open-clause-answer c =
    boxed-answer (configuration_refusal (document_of c.args.text.now)) c.boxed.result c.boxed.ensures.memory (ap configuration_refusal (c.in-Ok.ensures {u = tt}).ok)
