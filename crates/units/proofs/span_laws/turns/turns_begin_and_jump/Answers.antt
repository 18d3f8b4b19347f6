-- The law, as it is proved.
use Rattle.units.proofs.SpanLaws.Jumps.{turns-begin, channels-idle, cores-idle, turns-jump}
use Rattle.units.proofs.span_laws.turns.turns_begin_and_jump.Goals as goal

pub returns : goal.returns
returns c = record { begin = turns-begin; channels_idle = channels-idle; cores_idle = cores-idle; jump = turns-jump }
