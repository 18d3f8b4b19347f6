use Rattle.std.proofs.Common.{◌-◌, length}
use Rattle.links.specs.Buffers.{Grows}
use Rattle.links.proofs.flight.make_buffers.Given as goal

abbrev pub invariant-loop-alloc : goal.invariant-loop-alloc
invariant-loop-alloc l = Grows l.initial.buffers.items l.buffers.items

abbrev pub decreases-loop-alloc : goal.decreases-loop-alloc
decreases-loop-alloc l = l.count - length l.buffers.items
