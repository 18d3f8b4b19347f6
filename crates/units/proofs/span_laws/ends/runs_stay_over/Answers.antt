-- The law, as it is proved.
use Rattle.units.proofs.SpanLaws.Over.{runs-stay_over, over-is_seen, cycles-are_counted}
use Rattle.units.proofs.span_laws.ends.runs_stay_over.Goals as goal

pub returns : goal.returns
returns c = record { stay = runs-stay_over; seen = over-is_seen; counted = cycles-are_counted }
