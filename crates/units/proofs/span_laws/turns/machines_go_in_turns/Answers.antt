-- The law, as it is proved.
use Rattle.units.proofs.SpanLaws.Taking.{channels-ready, cores-ready, channels-turn, cores-turn}
use Rattle.units.proofs.span_laws.turns.machines_go_in_turns.Goals as goal

pub returns : goal.returns
returns c = record { channels_ready = channels-ready; cores_ready = cores-ready; channels_turn = channels-turn; cores_turn = cores-turn }
