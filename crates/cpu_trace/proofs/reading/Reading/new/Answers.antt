use Rattle.std.proofs.Common.{refl}
use Rattle.cpu_trace.proofs.Behind.{kept_of-none}
use Rattle.cpu_trace.proofs.reading.Reading.new.Goals as goal

pub returns : goal.returns
returns c = record { counted = refl; is_kept = rw c.new.ensures kept_of-none }
