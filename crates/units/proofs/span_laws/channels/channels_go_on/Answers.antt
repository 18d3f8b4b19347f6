-- The law, as it is proved.
use Rattle.units.proofs.SpanLaws.ChannelsOn.{channels-start, channels-may_run, channels-go_on, channels-end_alike}
use Rattle.units.proofs.span_laws.channels.channels_go_on.Goals as goal

pub returns : goal.returns
returns c = record { start = channels-start; may_run = channels-may_run; go_on = channels-go_on; end_alike = channels-end_alike }
