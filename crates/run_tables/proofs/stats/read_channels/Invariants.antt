-- The channels so far are read.
use Rattle.std.proofs.Common.{◌-◌, length}
use Rattle.run_tables.specs.Units.{SomeChannels}
use Rattle.run_tables.proofs.stats.read_channels.Given as goal

abbrev pub invariant-loop-channels : goal.invariant-loop-channels
invariant-loop-channels l = SomeChannels l.fn.table l.fn.start l.channels.items l.row

abbrev pub decreases-loop-channels : goal.decreases-loop-channels
decreases-loop-channels l = length l.fn.table - l.row
