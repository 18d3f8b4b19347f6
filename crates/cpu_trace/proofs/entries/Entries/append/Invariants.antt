-- What was added so far, and then what is left, is all of it.
use Rattle.std.proofs.Common.{◌≡◌, ◌++◌, drop}
use Rattle.cpu_trace.specs.Entries.{entries_after, IsAscending}
use Rattle.cpu_trace.proofs.entries.Entries.append.Given as goal

abbrev pub invariant-loop-stored : goal.invariant-loop-stored
invariant-loop-stored l = record {
  rises : IsAscending l.next (drop l.stored-index l.others-inside.memory.items) l.others-inside.len;
  same : l.self ++ entries_after l.next (drop l.stored-index l.others-inside.memory.items) l.others-inside.len ≡ l.fn.self ++ l.others;
}
