-- The cores, and the channels so far behind them, stand for their parts before the first cycle.
use Rattle.std.proofs.Common.{◌≡◌, ◌+◌, length}
use Rattle.units.specs.Parts.{StandAt}
use Rattle.units.proofs.sim.add_channels.Given as goal

abbrev pub invariant-loop-number : goal.invariant-loop-number
invariant-loop-number l =
    (length l.parts.items ≡ l.machine.config.cores + l.number) × StandAt l.machine 0 l.parts.items
