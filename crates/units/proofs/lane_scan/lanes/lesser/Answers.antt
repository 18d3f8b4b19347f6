use Rattle.units.proofs.Vectors.{select-lesser}
use Rattle.units.proofs.lane_scan.lanes.lesser.Goals as goal

pub returns : goal.returns
returns g c = select-lesser c.args.a c.args.b
