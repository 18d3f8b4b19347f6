-- The next Read or Write entry of a trace.
--     IsPlainBetween trace from to      the entries with these numbers are Plain
--     IsNextMemory trace from next      the first Read or Write entry from a number on
use Rattle.std.specs.Prelude.{◌≡◌, ℕ, ◌<◌, ◌≤◌, true, List, Some, slice_get}
use Rattle.sim_base.specs.declared.trace.Entry.{Entry}
use Rattle.sim_base.specs.declared.trace.Entry.TheVariants.{Plain}
use Rattle.sim_base.specs.Windows.{is_memory}
use Rattle.cpu_trace.specs.declared.entries.MemoryEntry.{MemoryEntry}

-- each entry from one number on and below another is Plain
abbrev pub IsPlainBetween : List Entry → ℕ → ℕ → Type 0
IsPlainBetween trace from to = (k : ℕ) → from ≤ k → k < to → slice_get trace k ≡ Some Plain

-- the entry of this number is a Read or a Write, and those before it, from another number on, are Plain
pub record IsNextMemory (trace : List Entry) (from : ℕ) (next : MemoryEntry) : Type 0 where
  pub is_from : from ≤ next.number
  pub is_at : slice_get trace next.number ≡ Some next.entry
  pub is_read_or_write : is_memory next.entry ≡ true
  pub is_plain_before : IsPlainBetween trace from next.number
