use Rattle.std.proofs.Common.{ltb, w64}
use Rattle.std.proofs.lemmas.Simd.{bitmask_splat}
use Rattle.units.proofs.lane_scan.lanes.below_bits.Goals as goal

pub returns : goal.returns
returns g c = bitmask_splat w64 ltb c.args.words g.row.N c.args.bound c.fits-words.0 c.requires
