-- What memory entries with their numbers stand for, where all other entries are Plain.
--     entries_after from memory len      the entries from a number up to a length
--     IsAscending from memory len      each is a Read or a Write, and their numbers rise from one on, below a length
use Rattle.std.specs.Prelude.{◌≡◌, ℕ, ◌+◌, ◌-◌, ◌≤◌, true, List, [], ◌∷◌, ◌++◌, replicate}
use Rattle.sim_base.specs.declared.trace.Entry.{Entry}
use Rattle.sim_base.specs.declared.trace.Entry.TheVariants.{Plain}
use Rattle.sim_base.specs.Windows.{is_memory}
use Rattle.cpu_trace.specs.declared.entries.MemoryEntry.{MemoryEntry}

-- the entries from this number on, up to a length: each memory entry stands at its number, behind a run of Plain ones
unfoldable pub entries_after : ℕ → List MemoryEntry → ℕ → List Entry
entries_after from [] len = replicate (len - from) Plain
entries_after from (m ∷ memory) len =
    replicate (m.number - from) Plain ++ m.entry ∷ entries_after (m.number + 1) memory len

-- each is a Read or a Write, and their numbers rise, from this one on and below a length
unfoldable pub IsAscending : ℕ → List MemoryEntry → ℕ → Type 0
IsAscending from [] len = from ≤ len
IsAscending from (m ∷ memory) len =
    (from ≤ m.number) × (is_memory m.entry ≡ true) × IsAscending (m.number + 1) memory len
