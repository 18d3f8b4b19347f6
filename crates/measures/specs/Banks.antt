-- What each bank of a channel did, over the commands of a run.
--     is_of_channel channel issued, of_channel channel commands      a command of a channel; the commands that are
--     names_bank bank issued, of_bank bank commands      a command that names a bank; the commands that do
--     is_of_rank rank issued, of_rank rank commands      a command that names a rank or a bank of it; those that do
--     every_bank      the banks that a channel may have, by rank, group and bank
--     counts_in commands bank      what a bank did, over the commands of its channel
--     channel_counts channel commands      the same of each bank of a channel that a command names
use Rattle.std.specs.Prelude.{ℕ, ◌+◌, ◌==◌, Bool, false, List, map, filter, Option, Some, None}
use Rattle.std.specs.List.{list_any}
use Rattle.sim_base.specs.Counts.{issued_of_kind, hits}
use Rattle.sim_base.specs.History.{below}
use Rattle.sim_base.specs.Places.{is_bank, bank_at}
use Rattle.sim_base.specs.Rules.{bank_of, rank_of}
use Rattle.sim_base.specs.declared.command.IssuedCommand.{IssuedCommand}
use Rattle.sim_base.specs.declared.command.Kind.TheVariants as kind
use Rattle.sim_base.specs.declared.place.BankId.{BankId}
use Rattle.measures.specs.declared.bank_counts.counts.BankCounts.{BankCounts}

-- a command is of this channel
abbrev pub is_of_channel : ℕ → IssuedCommand → Bool
is_of_channel channel issued = issued.channel == channel

-- the commands that are
unfoldable pub of_channel : ℕ → List IssuedCommand → List IssuedCommand
of_channel channel commands = filter (is_of_channel channel) commands

-- the bank that a command names, if it names one, is this bank
abbrev pub is_named : BankId → Option BankId → Bool
is_named bank (Some other) = is_bank bank other
is_named bank None = false

-- a command names this bank, as ACT, RD, WR and PRE do
abbrev pub names_bank : BankId → IssuedCommand → Bool
names_bank bank issued = is_named bank (bank_of issued.command)

-- the commands that do
unfoldable pub of_bank : BankId → List IssuedCommand → List IssuedCommand
of_bank bank commands = filter (names_bank bank) commands

-- a command names this rank, as PREA and REF do, or a bank of it
abbrev pub is_of_rank : ℕ → IssuedCommand → Bool
is_of_rank rank issued = rank_of issued.command == rank

-- the commands that do
unfoldable pub of_rank : ℕ → List IssuedCommand → List IssuedCommand
of_rank rank commands = filter (is_of_rank rank) commands

-- the banks that a channel may have, by rank, group and bank
unfoldable pub every_bank : List BankId
every_bank = map bank_at (below 64)

-- What a bank did, over the commands of its channel: its ACTs, RDs and WRs; how often it was told to close its row, by
-- its PREs and the PREAs of its rank; its conflicts, which are its PREs, each issued for a request that needs another
-- row than the open one; and its row hits, which are its RDs and WRs for whose request it had no ACT.
unfoldable pub counts_in : List IssuedCommand → BankId → BankCounts
counts_in commands bank = record {
  bank = bank;
  acts = issued_of_kind kind.Act (of_bank bank commands);
  reads = issued_of_kind kind.Rd (of_bank bank commands);
  writes = issued_of_kind kind.Wr (of_bank bank commands);
  precharges = issued_of_kind kind.Pre (of_bank bank commands) + issued_of_kind kind.Prea (of_rank bank.rank commands);
  conflicts = issued_of_kind kind.Pre (of_bank bank commands);
  hits = hits (of_bank bank commands);
}

-- a command names this bank
unfoldable pub is_used : List IssuedCommand → BankId → Bool
is_used commands bank = list_any (names_bank bank) commands

-- the banks that a command names
unfoldable pub used_banks : List IssuedCommand → List BankId
used_banks commands = filter (is_used commands) every_bank

-- what each bank of a channel did that a command names, over the commands of the channel
unfoldable pub counts_of : List IssuedCommand → List BankCounts
counts_of commands = map (counts_in commands) (used_banks commands)

-- what each bank of a channel did that a command names, given the commands of all channels
unfoldable pub channel_counts : ℕ → List IssuedCommand → List BankCounts
channel_counts channel commands = counts_of (of_channel channel commands)
