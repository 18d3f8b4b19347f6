-- The law, as it is proved.
use Rattle.units.proofs.SpanLaws.CoreSpans.{messages-fit_spans, cores-run_alone}
use Rattle.units.proofs.span_laws.cores.messages_of_a_run_fit_cores.Goals as goal

pub returns : goal.returns
returns c = record { fit = messages-fit_spans; alone = cores-run_alone }
