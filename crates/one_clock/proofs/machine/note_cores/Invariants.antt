-- The cores that are done are a cycle further than the others.
use Rattle.std.proofs.Common.{◌≡◌}
use Rattle.one_clock.proofs.Units.{halfway}
use Rattle.one_clock.specs.Cycles.{core_before, core_after}
use Rattle.one_clock.proofs.machine.note_cores.Given as goal

abbrev pub invariant-loop-core : goal.invariant-loop-core
invariant-loop-core l = l.cores.items ≡ halfway (core_after l.cycle) (core_before l.cycle) l.cycle.config.now.cores l.core
