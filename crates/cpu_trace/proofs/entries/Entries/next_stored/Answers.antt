use Rattle.std.proofs.Common.{◌≤◌, ltb, length, IfSome, IfNone, rules}
use Rattle.std.proofs.lemmas.List.Sorted.{IsPartitionPoint-from_clause}
use Rattle.cpu_trace.proofs.Numbers.{IsPartitionedBy-numbers, IsPlaceOf, next_memory-get}
use Rattle.cpu_trace.specs.NextMemory.{IsPlainBetween, IsNextMemory}
use Rattle.cpu_trace.proofs.entries.Entries.next_stored.Goals as goal

found : (c : goal.After-get) → IfSome c.get.result (λ stored. IsNextMemory c.args.self.now c.args.from stored.now) × IfNone c.get.result (IsPlainBetween c.args.self.now c.args.from (length c.args.self.now))
found c =
    let memory = c.self.inside.memory.items in
    let len = c.self.inside.len in
    let k = c.partition_point-place.result in
    let rises = IsPartitionedBy-numbers 0 memory len c.args.from c.self.invariant.0 in
    let place : IsPlaceOf c.args.from memory k =
    rw c.deref.ensures.value at (IsPartitionPoint-from_clause (λ m. ltb m.number c.args.from) _ _ c.partition_point-place.ensures.partitioned (rw c.deref.ensures.value rises) (λ m r q called. search rules)) in
    let within : k ≤ length memory = rw c.deref.ensures.value at c.partition_point-place.ensures.bound in
    rw (← c.self.view_is) (next_memory-get memory len c.args.from k c.get.result c.self.invariant.0 within place (rw c.deref-2.ensures.value at c.get.ensures.lookup.3))

pub returns-clause-found : goal.returns-clause-found
returns-clause-found c = (found c).0

pub returns-clause-none : goal.returns-clause-none
returns-clause-none c = (found c).1
