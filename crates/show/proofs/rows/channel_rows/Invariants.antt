-- A row for each channel so far.
use Rattle.std.proofs.Common.{◌≡◌, map, take}
use Rattle.show.specs.Rows.{channel_row, machine_in}
use Rattle.show.proofs.rows.channel_rows.Given as goal

abbrev pub invariant-loop-channel : goal.invariant-loop-channel
invariant-loop-channel l = l.rows.items ≡ map (channel_row l.cycles (machine_in l.config) l.khz) (take l.channel-index l.channels)
