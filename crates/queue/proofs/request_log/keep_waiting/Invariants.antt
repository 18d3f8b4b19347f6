use Rattle.std.proofs.Common.{◌≡◌, ◌≤◌, ◌++◌, length, take, drop, vec_capacity}
use Rattle.queue.specs.Columns.{waiting_items}
use Rattle.queue.proofs.request_log.keep_waiting.Given as goal

-- the tags in front, and those of the rest that waits, are those of all that wait
abbrev pub invariant-loop-from : goal.invariant-loop-from
invariant-loop-from l = record {
  behind : l.to ≤ l.from;
  long : length l.tags.items ≡ length l.log;
  room : vec_capacity l.tags ≡ vec_capacity l.fn.tags;
  whole : take l.to l.tags.items ++ waiting_items (drop l.from l.log) (drop l.from l.tags.items) ≡ waiting_items l.log l.fn.tags.items;
}
