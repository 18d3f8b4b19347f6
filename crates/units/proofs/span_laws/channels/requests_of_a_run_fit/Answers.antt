-- The law, as it is proved.
use Rattle.units.proofs.SpanLaws.ChannelSpans.{requests-fit_spans, channels-run_alone}
use Rattle.units.proofs.span_laws.channels.requests_of_a_run_fit.Goals as goal

pub returns : goal.returns
returns c = record { fit = requests-fit_spans; alone = channels-run_alone }
