-- The channels so far.
use Rattle.std.proofs.Common.{◌≡◌, ◌<◌, ℕ, length, get_or}
use Rattle.sessions.specs.declared.channel_session.session.Session.{Session}
use Rattle.sessions.specs.Memories.{IsChannelOf, no_pasts}
use Rattle.sessions.proofs.memory_session.memory.opened.Given as goal

abbrev pub invariant-loop-number : goal.invariant-loop-number
invariant-loop-number l = record {
  count : length l.sessions.items ≡ l.number;
  each : (k : ℕ) (other : Session) → k < length l.sessions.items → IsChannelOf l.config 0 ((no_pasts l.config).past k) k (get_or l.sessions.items k other);
}
