-- The law, as it is proved.
use Rattle.units.proofs.SpanLaws.CoresOn.{cores-start, cores-may_run, cores-go_on, cores-end_alike}
use Rattle.units.proofs.span_laws.cores.cores_go_on.Goals as goal

pub returns : goal.returns
returns c = record { start = cores-start; may_run = cores-may_run; go_on = cores-go_on; end_alike = cores-end_alike }
