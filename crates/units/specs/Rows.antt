-- The rows that are open in the banks of a channel when a run is left.
--     HasGroup c rank group      a channel of a machine with this group of banks
--     AddsRows machine now number banks old new      a list with the rows that are open in these banks put at its end
use Rattle.std.specs.Prelude.{◌≡◌, ℕ, ◌<◌, List, ◌++◌}
use Rattle.sim_base.specs.declared.place.BankId.{BankId}
use Rattle.statistics.specs.declared.final_state.OpenRow.{OpenRow}
use Rattle.channel_step.specs.Channels.{HasBank}
use Rattle.channel_step.specs.declared.channel.Channel.{Channel}
use Rattle.units.specs.Runs.{rows_in_banks}
use Rattle.units.specs.declared.machine.Machine.{Machine}

-- a channel of a machine with the four banks of this group
abbrev pub HasGroup : Channel → ℕ → ℕ → Type 0
HasGroup c rank group = (bank : ℕ) → bank < 4 → HasBank c (record { rank = rank; group = group; bank = bank })

-- a list with the rows that are open in these banks of a channel, before a cycle of the run, put at its end
abbrev pub AddsRows : Machine → ℕ → ℕ → List BankId → List OpenRow → List OpenRow → Type 0
AddsRows machine now number banks old new = new ≡ old ++ rows_in_banks machine now number banks
