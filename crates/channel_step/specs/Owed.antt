-- When a REF is due, by the counts of refreshes.
--     RefIsOwed counts now command      if a command is a REF, it is due for a rank that exists
use Rattle.std.specs.Prelude.{ℕ, ◌<◌}
use Rattle.sim_base.specs.declared.command.Command.{Command}
use Rattle.sim_base.specs.declared.command.Command.TheVariants.{Act, Rd, Wr, Pre, Prea, Ref}
use Rattle.bank_ready.specs.Refreshes.{RefreshCounts, owed}

-- if a command is a REF, it is due for a rank that exists
abbrev pub RefIsOwed : RefreshCounts → ℕ → Command → Type 0
RefIsOwed counts now (Ref rank) = (rank < counts.ranks) × (0 < owed counts rank now)
RefIsOwed counts now (Act bank row source) = Unit {0}
RefIsOwed counts now (Rd bank row column source) = Unit {0}
RefIsOwed counts now (Wr bank row column source) = Unit {0}
RefIsOwed counts now (Pre bank source) = Unit {0}
RefIsOwed counts now (Prea rank) = Unit {0}
