-- The Reads that wait for their reply, as a core keeps them.
--     waiting reads      the Reads that wait, in order
--     WaitsFor memory now old new      the Read that issues waits too, if one does
use Rattle.std.specs.Prelude.{◌≡◌, ℕ, List, drop, Option}
use Rattle.cpu_trace.specs.declared.entries.MemoryEntry.{MemoryEntry}
use Rattle.core_window.specs.Counting.{with_reads}
use Rattle.core_window.specs.declared.outstanding.OutstandingRead.{OutstandingRead}
use Rattle.core_window.specs.declared.outstanding.OutstandingReads.{OutstandingReads}

-- the Reads that wait, in order: they stand behind the places that are free
abbrev pub waiting : OutstandingReads → List OutstandingRead
waiting reads = drop reads.free reads.places.items

-- the memory entry that issues in a cycle waits behind the others from then on, if it is a Read
abbrev pub WaitsFor : Option MemoryEntry → ℕ → OutstandingReads → OutstandingReads → Type 0
WaitsFor memory now old new = waiting new ≡ with_reads (waiting old) memory now
