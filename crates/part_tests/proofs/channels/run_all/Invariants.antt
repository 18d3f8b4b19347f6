use Rattle.sessions.specs.Sessions.{IsOpen}
use Rattle.part_tests.proofs.channels.run_all.Given as goal

abbrev pub invariant-loop-reads : goal.invariant-loop-reads
invariant-loop-reads g l = IsOpen l.session
