-- What a row stands for that is given by its kind and operands, or kept in few bytes.
--     command_of kind rank group bank row column core entry      the command of a kind, with those operands that it has
--     command_with kind operands      the same with operands that are together
--     row_of parts      the row that a kind and operands stand for
--     row_kept kind cycle entry row_and_channel column_and_bank core      the row that numbers of few bytes stand for
--     operands_in command      the operands of a command, and 0 for those that it does not have
--     IsUsual row      its numbers are those of a usual machine and trace
use Rattle.std.specs.Prelude.{ℕ, ◌^◌, ◌<◌, ◌/◌, ◌%◌}
use Rattle.sim_base.specs.declared.command.Command.{Command}
use Rattle.sim_base.specs.declared.command.Command.TheVariants.{Act as ACT, Rd as RD, Wr as WR, Pre as PRE, Prea as PREA, Ref as REF}
use Rattle.sim_base.specs.declared.command.IssuedCommand.{IssuedCommand}
use Rattle.sim_base.specs.declared.command.Kind.{Kind}
use Rattle.command_table.specs.declared.parts.Operands.{Operands}
use Rattle.command_table.specs.declared.parts.RowParts.{RowParts}
use Rattle.sim_base.specs.declared.command.Kind.TheVariants.{Act, Rd, Wr, Pre, Prea, Ref}

-- the command of a kind, with as many of these operands as it has
abbrev pub command_of : Kind → ℕ → ℕ → ℕ → ℕ → ℕ → ℕ → ℕ → Command
command_of Act rank group bank row column core entry =
    ACT (record { rank = rank; group = group; bank = bank }) row (record { core = core; entry = entry })
command_of Rd rank group bank row column core entry =
    RD (record { rank = rank; group = group; bank = bank }) row column (record { core = core; entry = entry })
command_of Wr rank group bank row column core entry =
    WR (record { rank = rank; group = group; bank = bank }) row column (record { core = core; entry = entry })
command_of Pre rank group bank row column core entry =
    PRE (record { rank = rank; group = group; bank = bank }) (record { core = core; entry = entry })
command_of Prea rank group bank row column core entry = PREA rank
command_of Ref rank group bank row column core entry = REF rank

-- the command of a kind, with as many as it has of these operands, which are given together
abbrev pub command_with : Kind → Operands → Command
command_with kind operands =
    command_of kind operands.bank.rank operands.bank.group operands.bank.bank operands.row operands.column
    operands.source.core operands.source.entry

-- the row that a kind and operands stand for
abbrev pub row_of : RowParts → IssuedCommand
row_of parts =
    record { cycle = parts.cycle; channel = parts.channel; command = command_with parts.kind parts.operands }

-- the row that numbers of few bytes stand for: the channel is the lowest 8 bits below the row, and the rank, the group
-- and the bank are 2 bits each below the column
abbrev pub row_kept : Kind → ℕ → ℕ → ℕ → ℕ → ℕ → IssuedCommand
row_kept kind cycle entry row_and_channel column_and_bank core =
    record {
      cycle = cycle;
      channel = row_and_channel % 256;
      command = command_of kind (column_and_bank / 16 % 4) (column_and_bank / 4 % 4) (column_and_bank % 4)
          (row_and_channel / 256) (column_and_bank / 64) core entry;
    }

-- the operands of a command, and 0 for those that it does not have
abbrev pub operands_in : Command → Operands
operands_in (ACT bank row source) = record { bank = bank; row = row; column = 0; source = source }
operands_in (RD bank row column source) = record { bank = bank; row = row; column = column; source = source }
operands_in (WR bank row column source) = record { bank = bank; row = row; column = column; source = source }
operands_in (PRE bank source) = record { bank = bank; row = 0; column = 0; source = source }
operands_in (PREA rank) =
    record {
      bank = record { rank = rank; group = 0; bank = 0 };
      row = 0;
      column = 0;
      source = record { core = 0; entry = 0 };
    }
operands_in (REF rank) =
    record {
      bank = record { rank = rank; group = 0; bank = 0 };
      row = 0;
      column = 0;
      source = record { core = 0; entry = 0 };
    }

-- the numbers of a row are those of a usual machine and trace
abbrev pub IsUsual : IssuedCommand → Type 0
IsUsual row =
    let operands = operands_in row.command in
    (row.cycle < 2 ^ 32) × (row.channel < 2 ^ 8) × (operands.bank.rank < 4) × (operands.bank.group < 4)
    × (operands.bank.bank < 4)
    × (operands.source.core < 2 ^ 8) × (operands.source.entry < 2 ^ 32) × (operands.row < 2 ^ 24)
    × (operands.column < 2 ^ 10)
