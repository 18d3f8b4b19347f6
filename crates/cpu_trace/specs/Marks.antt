-- How the kind of a memory entry is kept with its number.
--     marked_entry mark address      the Read or Write of an address, by a mark
use Rattle.std.specs.Prelude.{ℕ, ◌%◌, ◌==◌, if◌then◌else◌}
use Rattle.sim_base.specs.declared.trace.Entry.{Entry}
use Rattle.sim_base.specs.declared.trace.Entry.TheVariants.{Read, Write}

-- a Read where the mark is even, and else a Write
abbrev pub marked_entry : ℕ → ℕ → Entry
marked_entry mark address = if mark % 2 == 0 then Read address else Write address
