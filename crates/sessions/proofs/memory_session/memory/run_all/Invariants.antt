-- The channels so far have run, and the others are as they were.
use Rattle.std.proofs.Common.{◌≡◌, ◌<◌, ◌≤◌, ℕ, get_or}
use Rattle.sessions.specs.declared.channel_session.session.Session.{Session}
use Rattle.sessions.specs.Memories.{HasRunTo}
use Rattle.sessions.proofs.memory_session.memory.run_all.Given as goal

abbrev pub invariant-loop-session : goal.invariant-loop-session
invariant-loop-session l = record {
  ran : (k : ℕ) (other : Session) → k < l.session-index → HasRunTo l.until (get_or l.fn.sessions k other) (get_or l.sessions k other);
  left : (k : ℕ) (other : Session) → l.session-index ≤ k → get_or l.sessions k other ≡ get_or l.fn.sessions k other;
}
