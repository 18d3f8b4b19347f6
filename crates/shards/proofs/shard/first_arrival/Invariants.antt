-- The first arrival of the messages so far.
use Rattle.std.proofs.Common.{ℕ, ◌<◌, ◌≤◌, get_or}
use Rattle.std.specs.Prelude.{All}
use Rattle.sim_base.specs.declared.message.Message.{Message}
use Rattle.shards.proofs.shard.first_arrival.Given as goal

abbrev pub invariant-loop-message : goal.invariant-loop-message
invariant-loop-message l = record {
  within : l.first ≤ l.cycle;
  arrivals : (k : ℕ) (d : Message) → k < l.message-index → l.first ≤ (get_or l.messages k d).arrival;
  since : (since : ℕ) → since ≤ l.cycle → All (λ (m : Message). since ≤ m.arrival) l.messages → since ≤ l.first;
}
