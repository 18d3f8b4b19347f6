use Rattle.std.proofs.Common.{◌≡◌, take, drop}
use Rattle.std.specs.Prelude.{fold}
use Rattle.sim_base.specs.History.{insert_by_age, by_age}
use Rattle.links.specs.Buffers.{contents, joined, AreBuffers, CanTakeUp}
use Rattle.links.proofs.flight.put_all.Given as goal

abbrev pub invariant-loop-message : goal.invariant-loop-message
invariant-loop-message l = record {
  buffers : AreBuffers l.channels 0 (contents l.buffers.items);
  messages : by_age (joined (contents l.buffers.items)) ≡ fold insert_by_age (by_age (joined (contents l.initial.buffers.items))) (take l.message-index l.messages);
  room : CanTakeUp l.channels l.buffers.items (drop l.message-index l.messages);
}
