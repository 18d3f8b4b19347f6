use Rattle.sessions.specs.Sessions.{IsOpen}
use Rattle.part_tests.proofs.channels.send_all.Given as goal

abbrev pub invariant-loop-read : goal.invariant-loop-read
invariant-loop-read g l = IsOpen l.session
