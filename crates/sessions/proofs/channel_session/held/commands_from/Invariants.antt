use Rattle.std.proofs.Common.{◌≡◌, ◌++◌, drop}
use Rattle.sessions.proofs.channel_session.held.commands_from.Given as goal

abbrev pub invariant-loop-place : goal.invariant-loop-place
invariant-loop-place l = l.rest ++ drop l.place l.list ≡ drop l.from l.list
