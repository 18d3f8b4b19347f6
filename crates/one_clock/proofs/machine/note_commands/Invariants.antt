-- The commands of the channels that are done are in.
use Rattle.std.proofs.Common.{◌≡◌, ◌++◌}
use Rattle.one_clock.proofs.Next.{issued_below}
use Rattle.one_clock.specs.Cycles.{commands_before}
use Rattle.one_clock.proofs.machine.note_commands.Given as goal

abbrev pub invariant-loop-channel : goal.invariant-loop-channel
invariant-loop-channel l = l.issued.items ≡ commands_before l.cycle ++ issued_below l.cycle.config.now l.cycle.traces.now l.cycle.number l.channel
