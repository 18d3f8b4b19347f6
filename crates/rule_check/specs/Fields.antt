-- What the records of a table of commands mean. A table has a column for the rank only under a configuration with
-- several.
--     column_count ranks      how many columns a table has
--     is_header ranks fields      a record has the names of the columns
--     limits_of s      the limits of a configuration
--     command_in limits fields      the command that a record writes, if its fields are those of one
--     row_in limits fields      the row that a record writes, if it is well-formed
--     BankFits limits bank, CommandFits limits command, RowFits limits row      their bank and channel are in range
use Rattle.std.specs.Prelude.{ℕ, ◌<◌, IfSome, ◌+◌, ◌==◌, nat_lt, Bool, true, ◌&&◌, List, length, [], codes, Option, Some, None, unwrap_or, if◌then◌else◌}
use Rattle.std.specs.Str.{bytes_eq}
use Rattle.csv.specs.Records.{field_at}
use Rattle.sim_base.specs.declared.config.Config.{Config}
use Rattle.rule_check.specs.declared.limits.Limits.{Limits}
use Rattle.sim_base.specs.declared.place.BankId.{BankId}
use Rattle.sim_base.specs.declared.command.Command.{Command}
use Rattle.sim_base.specs.declared.command.Command.TheVariants.{Act, Rd, Wr, Pre, Prea, Ref}
use Rattle.sim_base.specs.declared.command.IssuedCommand.{IssuedCommand}
use Rattle.sim_base.specs.declared.command.Source.{Source}
use Rattle.rule_check.specs.Numbers.{number_limit, number_below}
use Rattle.sim_base.specs.Rules.{rank_of, bank_of}
use Rattle.sim_base.specs.declared.message.Access.{Access}
use Rattle.sim_base.specs.declared.message.Access.TheVariants as access

-- what the numbers of a table are below, under a configuration
abbrev pub limits_of : Config → Limits
limits_of s = record {
  channels = s.channels;
  ranks = s.ranks;
  groups = s.groups;
  rows = s.rows;
  columns = s.columns;
  cores = s.cores;
  has_rank = s.memory_in_range.ranks_in.0.0;
}

-- a bank below the limits
pub record BankFits (limits : Limits) (bank : BankId) : Type 0 where
  pub rank_in_range : bank.rank < limits.ranks
  pub group_in_range : bank.group < limits.groups
  pub bank_in_range : bank.bank < 4

-- a value that may be missing, and what is made of it
infixl 10 ◌>>=◌
abbrev pub ◌>>=◌ : {A B : Type 0} → Option A → (A → Option B) → Option B
Some x >>= f = f x
None >>= f = None

-- there is a column for the rank
abbrev pub names_ranks : ℕ → Bool
names_ranks ranks = nat_lt 1 ranks

-- how many columns a table has
abbrev pub column_count : ℕ → ℕ
column_count ranks = if names_ranks ranks then 10 else 9

-- the text of a field, counted from 0; the empty text where there is no such field
unfoldable pub text_at : List (List ℕ) → ℕ → List ℕ
text_at fields k = unwrap_or (field_at fields k) []

-- the text of a field after cycle, channel, command and, where there is one, rank, counted from 0
unfoldable pub operand : ℕ → List (List ℕ) → ℕ → List ℕ
operand ranks fields k = text_at fields (if names_ranks ranks then k + 4 else k + 3)

-- the fields that a command may leave empty
abbrev pub group_text : ℕ → List (List ℕ) → List ℕ
group_text ranks fields = operand ranks fields 0

abbrev pub bank_text : ℕ → List (List ℕ) → List ℕ
bank_text ranks fields = operand ranks fields 1

abbrev pub row_text : ℕ → List (List ℕ) → List ℕ
row_text ranks fields = operand ranks fields 2

abbrev pub column_text : ℕ → List (List ℕ) → List ℕ
column_text ranks fields = operand ranks fields 3

abbrev pub core_text : ℕ → List (List ℕ) → List ℕ
core_text ranks fields = operand ranks fields 4

abbrev pub entry_text : ℕ → List (List ℕ) → List ℕ
entry_text ranks fields = operand ranks fields 5

-- the column of the rank, if there is one, has its name
abbrev pub rank_is_named : ℕ → List (List ℕ) → Bool
rank_is_named ranks fields = if names_ranks ranks then bytes_eq (text_at fields 3) (codes "rank") else true

-- the columns after that of the rank have their names
abbrev pub operands_are_named : ℕ → List (List ℕ) → Bool
operands_are_named ranks fields =
    bytes_eq (group_text ranks fields) (codes "group") && bytes_eq (bank_text ranks fields) (codes "bank")
    && bytes_eq (row_text ranks fields) (codes "row") && bytes_eq (column_text ranks fields) (codes "column")
    && bytes_eq (core_text ranks fields) (codes "core") && bytes_eq (entry_text ranks fields) (codes "entry")

-- a record has the names of the columns, and nothing else
unfoldable pub is_header : ℕ → List (List ℕ) → Bool
is_header ranks fields =
    (length fields == column_count ranks) && bytes_eq (text_at fields 0) (codes "cycle")
    && bytes_eq (text_at fields 1) (codes "channel")
    && bytes_eq (text_at fields 2) (codes "command") && rank_is_named ranks fields && operands_are_named ranks fields

-- a field is empty
abbrev pub is_empty : List ℕ → Bool
is_empty text = length text == 0

-- the rank that a record names; the only rank where there is just one
unfoldable pub rank_in : Limits → List (List ℕ) → Option ℕ
rank_in limits fields = if names_ranks limits.ranks then number_below limits.ranks (text_at fields 3) else Some 0

-- the bank that a record names
unfoldable pub bank_in : Limits → List (List ℕ) → Option BankId
bank_in limits fields = do
  rank ← rank_in limits fields
  group ← number_below limits.groups (group_text limits.ranks fields)
  bank ← number_below 4 (bank_text limits.ranks fields)
  Some (record { rank = rank; group = group; bank = bank })

-- the entry in whose name a record's command is issued
unfoldable pub source_in : Limits → List (List ℕ) → Option Source
source_in limits fields = do
  core ← number_below limits.cores (core_text limits.ranks fields)
  entry ← number_below number_limit (entry_text limits.ranks fields)
  Some (record { core = core; entry = entry })

-- an ACT names a bank, a row and an entry, and no column
unfoldable pub act_in : Limits → List (List ℕ) → Option Command
act_in limits fields = do
  bank ← bank_in limits fields
  row ← number_below limits.rows (row_text limits.ranks fields)
  source ← source_in limits fields
  if is_empty (column_text limits.ranks fields) then Some (Act bank row source) else None

-- a RD names a bank, a row, a column and an entry
unfoldable pub rd_in : Limits → List (List ℕ) → Option Command
rd_in limits fields = do
  bank ← bank_in limits fields
  row ← number_below limits.rows (row_text limits.ranks fields)
  column ← number_below limits.columns (column_text limits.ranks fields)
  source ← source_in limits fields
  Some (Rd bank row column source)

-- a WR names a bank, a row, a column and an entry
unfoldable pub wr_in : Limits → List (List ℕ) → Option Command
wr_in limits fields = do
  bank ← bank_in limits fields
  row ← number_below limits.rows (row_text limits.ranks fields)
  column ← number_below limits.columns (column_text limits.ranks fields)
  source ← source_in limits fields
  Some (Wr bank row column source)

-- a WR or a RD
abbrev pub access_in : Limits → List (List ℕ) → Access → Option Command
access_in limits fields access.Read = rd_in limits fields
access_in limits fields access.Write = wr_in limits fields

-- a PRE names a bank and an entry, and neither row nor column
unfoldable pub pre_in : Limits → List (List ℕ) → Option Command
pre_in limits fields = do
  bank ← bank_in limits fields
  source ← source_in limits fields
  if is_empty (row_text limits.ranks fields)
      && is_empty (column_text limits.ranks fields) then Some (Pre bank source) else None

-- the fields of group, bank, row, column, core and entry are empty
unfoldable pub has_no_operands : ℕ → List (List ℕ) → Bool
has_no_operands ranks fields =
    is_empty (group_text ranks fields) && is_empty (bank_text ranks fields) && is_empty (row_text ranks fields)
    && is_empty (column_text ranks fields) && is_empty (core_text ranks fields) && is_empty (entry_text ranks fields)

-- a PREA names a rank alone
unfoldable pub prea_in : Limits → List (List ℕ) → Option Command
prea_in limits fields = do
  rank ← rank_in limits fields
  if has_no_operands limits.ranks fields then Some (Prea rank) else None

-- the fields of a REF, which names a rank and nothing else
unfoldable pub ref_in : Limits → List (List ℕ) → Option Command
ref_in limits fields = do
  rank ← rank_in limits fields
  if has_no_operands limits.ranks fields then Some (Ref rank) else None

-- a REF or a PREA
abbrev pub whole_rank_in : Limits → List (List ℕ) → Bool → Option Command
whole_rank_in limits fields refreshes = if refreshes then ref_in limits fields else prea_in limits fields

-- the command that a record writes, by its word
unfoldable pub command_in : Limits → List (List ℕ) → Option Command
command_in limits fields =
    if bytes_eq (text_at fields 2) (codes "ACT") then act_in limits fields else
    if bytes_eq (text_at fields 2) (codes "RD") then rd_in limits fields else
    if bytes_eq (text_at fields 2) (codes "WR") then wr_in limits fields else
    if bytes_eq (text_at fields 2) (codes "PRE") then pre_in limits fields else
    if bytes_eq (text_at fields 2) (codes "PREA") then prea_in limits fields else
    if bytes_eq (text_at fields 2) (codes "REF") then ref_in limits fields else None

-- the rank and the bank of a command are below the limits
pub record CommandFits (limits : Limits) (command : Command) : Type 0 where
  pub rank_in_range : rank_of command < limits.ranks
  pub bank_in_range : IfSome (bank_of command) (λ bank. (bank.group < limits.groups) × (bank.bank < 4))

-- the row that a record of the right number of fields writes
unfoldable pub row_from : Limits → List (List ℕ) → Option IssuedCommand
row_from limits fields = do
  cycle ← number_below number_limit (text_at fields 0)
  channel ← number_below limits.channels (text_at fields 1)
  command ← command_in limits fields
  Some (record { cycle = cycle; channel = channel; command = command })

-- the row that a record writes, if it is well-formed
unfoldable pub row_in : Limits → List (List ℕ) → Option IssuedCommand
row_in limits fields = if length fields == column_count limits.ranks then row_from limits fields else None

-- the channel, the rank and the bank of a row are below the limits, and its cycle is below the limit of numbers
pub record RowFits (limits : Limits) (row : IssuedCommand) : Type 0 where
  pub cycle_in_range : row.cycle < number_limit
  pub channel_in_range : row.channel < limits.channels
  pub command_in_range : CommandFits limits row.command
