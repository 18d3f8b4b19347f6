-- The text of the table of commands.
--     header ranks      the names of its columns
--     request_operands bank row column source      the fields of a command of a request, after that of the rank
--     operand_fields command      which fields a command fills, by its kind
--     command_fields ranks row      the fields of a row
--     lines_text ranks rows      the rows without the header
--     commands_text ranks rows      the whole table
use Rattle.std.specs.Prelude.{ℕ, nat_lt, List, [], ◌∷◌, ◌++◌, map, codes, decimal, Option, Some, None, if◌then◌else◌}
use Rattle.sim_base.specs.Rules.{kind_of, rank_of}
use Rattle.sim_base.specs.declared.command.Kind.{Kind}
use Rattle.sim_base.specs.declared.command.Kind.TheVariants as kind
use Rattle.sim_base.specs.declared.command.Command.{Command}
use Rattle.sim_base.specs.declared.command.Command.TheVariants.{Act, Rd, Wr, Pre, Prea, Ref}
use Rattle.sim_base.specs.declared.command.IssuedCommand.{IssuedCommand}
use Rattle.sim_base.specs.declared.command.Source.{Source}
use Rattle.sim_base.specs.declared.place.BankId.{BankId}
use Rattle.reports.specs.Rows.{optional, rows_text, table_text}

-- a field of the column of the rank, present only if there are several ranks
abbrev pub rank_field : ℕ → List ℕ → List (List ℕ)
rank_field ranks field = if nat_lt 1 ranks then field ∷ [] else []

-- the names of the columns
abbrev pub header : ℕ → List (List ℕ)
header ranks =
    codes "cycle" ∷ codes "channel" ∷ codes "command" ∷ (rank_field ranks (codes "rank")
    ++ (codes "group" ∷ codes "bank" ∷ codes "row" ∷ codes "column" ∷ codes "core" ∷ codes "entry" ∷ []))

-- the word of a kind of commands
abbrev pub kind_word : Kind → List ℕ
kind_word kind.Act = codes "ACT"
kind_word kind.Rd = codes "RD"
kind_word kind.Wr = codes "WR"
kind_word kind.Pre = codes "PRE"
kind_word kind.Prea = codes "PREA"
kind_word kind.Ref = codes "REF"

-- the fields of a command of a request for group, bank, row, column, core and entry; a row or column that it does not
-- state is empty
abbrev pub request_operands : BankId → Option ℕ → Option ℕ → Source → List (List ℕ)
request_operands bank row column source =
    decimal bank.group ∷ decimal bank.bank ∷ optional row ∷ optional column ∷ decimal source.core ∷ decimal source.entry
    ∷ []

-- these fields of any command; one of a whole rank states none of them
abbrev pub operand_fields : Command → List (List ℕ)
operand_fields (Act bank row source) = request_operands bank (Some row) None source
operand_fields (Rd bank row column source) = request_operands bank (Some row) (Some column) source
operand_fields (Wr bank row column source) = request_operands bank (Some row) (Some column) source
operand_fields (Pre bank source) = request_operands bank None None source
operand_fields (Prea rank) = [] ∷ [] ∷ [] ∷ [] ∷ [] ∷ [] ∷ []
operand_fields (Ref rank) = [] ∷ [] ∷ [] ∷ [] ∷ [] ∷ [] ∷ []

-- the fields of a row
abbrev pub command_fields : ℕ → IssuedCommand → List (List ℕ)
command_fields ranks row =
    decimal row.cycle ∷ decimal row.channel ∷ kind_word (kind_of row.command)
    ∷ (rank_field ranks (decimal (rank_of row.command)) ++ operand_fields row.command)

-- the rows of commands, in this order
abbrev pub lines_text : ℕ → List IssuedCommand → List ℕ
lines_text ranks rows = rows_text (map (command_fields ranks) rows)

-- the table of commands, in this order
unfoldable pub commands_text : ℕ → List IssuedCommand → List ℕ
commands_text ranks rows = table_text (header ranks) (map (command_fields ranks) rows)
