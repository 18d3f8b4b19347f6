-- The law, as it is proved.
use Rattle.units.proofs.SpanLaws.Taking.{channel-turns, core-turns, channel-keeps, core-keeps}
use Rattle.units.proofs.span_laws.turns.units_go_in_turns.Goals as goal

pub returns : goal.returns
returns c = record { channel_goes = channel-turns; core_goes = core-turns; channel_stays = channel-keeps; core_stays = core-keeps }
