use Rattle.sessions.specs.Sessions.{IsOpen}
use Rattle.part_tests.proofs.channels.run_by_cycles.Given as goal

abbrev pub invariant-loop-cycle : goal.invariant-loop-cycle
invariant-loop-cycle g l = IsOpen l.session
