-- Each memory entry is added behind the Plain ones before it, and at the end those behind the last.
use Rattle.std.proofs.Common.{◌≡◌, length, length-append, ap, ◌∙◌, arith}
use Rattle.cpu_trace.proofs.Growth.{IsNextAdded-at, last_added}
use Rattle.cpu_trace.proofs.entries.Entries.append.Goals as goal

pub overflow_sub-number : goal.overflow_sub-number
overflow_sub-number c =
    let added = IsNextAdded-at _ _ _ _ _ _ c.loop-stored.stored-index _ c.deref-stored-items.ensures.value c.loop-stored-test.true c.stored-item.is c.loop-stored.invariant.rises c.loop-stored.invariant.same in
    omega (arith, added.from, c.number.ensures)

pub add-requires-clause-memory : goal.add-requires-clause-memory
add-requires-clause-memory c =
    let added = IsNextAdded-at _ _ _ _ _ _ c.loop-stored.stored-index _ c.deref-stored-items.ensures.value c.loop-stored-test.true c.stored-item.is c.loop-stored.invariant.rises c.loop-stored.invariant.same in
    rw c.entry.ensures added.is_read_or_write

pub add-requires-clause-room : goal.add-requires-clause-room
add-requires-clause-room c =
    let added = IsNextAdded-at _ _ _ _ _ _ c.loop-stored.stored-index _ c.deref-stored-items.ensures.value c.loop-stored-test.true c.stored-item.is c.loop-stored.invariant.rises c.loop-stored.invariant.same in
    omega (arith, added.room, c.number.ensures, c.requires, length-append c.args.self.now c.args.others.now)

pub overflow_add-next : goal.overflow_add-next
overflow_add-next c =
    let added = IsNextAdded-at _ _ _ _ _ _ c.loop-stored.stored-index _ c.deref-stored-items.ensures.value c.loop-stored-test.true c.stored-item.is c.loop-stored.invariant.rises c.loop-stored.invariant.same in
    omega (arith, added.below, c.number-next.ensures, c.others.invariant.1)

pub loop-stored-preserved : goal.loop-stored-preserved
loop-stored-preserved c =
    let added = IsNextAdded-at _ _ _ _ _ _ c.loop-stored.stored-index _ c.deref-stored-items.ensures.value c.loop-stored-test.true c.stored-item.is c.loop-stored.invariant.rises c.loop-stored.invariant.same in
    record {
      rises = rw c.number-next.ensures added.rises;
      same = rw ((c.in_ok-add.ensures {u = tt}).ok, c.number-next.ensures, c.number.ensures, c.entry.ensures) added.same;
    }

pub overflow_sub-others-inside : goal.overflow_sub-others-inside
overflow_sub-others-inside c =
    let at_end : c.loop-stored.stored-index ≡ length c.others.inside.memory.items = omega (arith, c.loop-stored-test.false, c.loop-stored.auto.stored-index-end, ap length c.deref-stored-items.ensures.value) in
    (last_added _ _ _ c.others.inside.memory.items c.loop-stored.stored-index _ at_end c.loop-stored.invariant.rises c.loop-stored.invariant.same).0

pub add_plain-requires : goal.add_plain-requires
add_plain-requires c =
    let at_end : c.loop-stored.stored-index ≡ length c.others.inside.memory.items = omega (arith, c.loop-stored-test.false, c.loop-stored.auto.stored-index-end, ap length c.deref-stored-items.ensures.value) in
    let last = last_added _ _ _ c.others.inside.memory.items c.loop-stored.stored-index _ at_end c.loop-stored.invariant.rises c.loop-stored.invariant.same in
    omega (arith, last.2, c.requires, length-append c.args.self.now c.args.others.now)

pub returns : goal.returns
returns c =
    let at_end : c.loop-stored.stored-index ≡ length c.others.inside.memory.items = omega (arith, c.loop-stored-test.false, c.loop-stored.auto.stored-index-end, ap length c.deref-stored-items.ensures.value) in
    let last = last_added _ _ _ c.others.inside.memory.items c.loop-stored.stored-index _ at_end c.loop-stored.invariant.rises c.loop-stored.invariant.same in
    c.add_plain.ensures ∙ last.1
