-- The law, as it is proved.
use Rattle.units.proofs.SpanLaws.Lasting.{retires-by_width, flight-stays, lasts-for_trace, lasts-for_flight}
use Rattle.units.proofs.span_laws.ends.runs_last.Goals as goal

pub returns : goal.returns
returns c = record { retire = retires-by_width; flight = flight-stays; for_trace = lasts-for_trace; for_flight = lasts-for_flight }
