-- What the records of a table of commands mean, under no configuration. A table tells one rank apart, or as many as
-- four where it has a column for the rank.
--     with_rank, without_rank      what the numbers of a table are below, with a column for the rank and without one
--     limits_told header      what the numbers of the table with this header are below
--     HasNoHeader records      the first of some records is missing, or no header
--     IsTooEarly limits cycle records      the first of some records writes a row before this cycle, or none
--     IsCommandTable records rows      the records are the header and these rows, in cycles that do not fall
--     CommandsComeBack ranks rows      the table of these commands is read as it was written
use Rattle.std.specs.Prelude.{◌≡◌, ℕ, ◌<◌, List, [], ◌∷◌, map, IfSome, Option, Some, None, if◌then◌else◌}
use Rattle.std.proofs.Common.{arith}
use Rattle.sim_base.specs.declared.command.IssuedCommand.{IssuedCommand}
use Rattle.command_table.specs.Tables.{IsRising}
use Rattle.reports.specs.Commands.{commands_text}
use Rattle.rule_check.specs.Fields.{is_header, row_in}
use Rattle.rule_check.specs.Verdict.{records_of}
use Rattle.rule_check.specs.declared.limits.Limits.{Limits}

-- the greatest ranges of a configuration's numbers
abbrev pub with_rank : Limits
with_rank =
    record { channels = 16; ranks = 4; groups = 4; rows = 262144; columns = 1024; cores = 256; has_rank = omega arith }

-- the greatest ranges of a configuration with one rank
abbrev pub without_rank : Limits
without_rank =
    record { channels = 16; ranks = 1; groups = 4; rows = 262144; columns = 1024; cores = 256; has_rank = omega arith }

-- what the numbers of the table with this header are below, if it is one
unfoldable pub limits_told : List (List ℕ) → Option Limits
limits_told header =
    if is_header 4 header then Some with_rank else if is_header 1 header then Some without_rank else None

-- what the first of some records tells, if it is a header
abbrev pub first_told : List (List (List ℕ)) → Option Limits
first_told [] = None
first_told (header ∷ others) = limits_told header

-- the row that the first of some records writes
abbrev pub first_read : Limits → List (List (List ℕ)) → Option IssuedCommand
first_read limits [] = None
first_read limits (fields ∷ others) = row_in limits fields

-- the first of some records is missing, or no header
abbrev pub HasNoHeader : List (List (List ℕ)) → Type 0
HasNoHeader records = first_told records ≡ None

-- the first of some records writes no row, or one before this cycle
abbrev pub IsTooEarly : Limits → ℕ → List (List (List ℕ)) → Type 0
IsTooEarly limits earliest records = IfSome (first_read limits records) (λ row. row.cycle < earliest)

-- the records of a table of commands: the header, which tells the columns, and then a record for each row; no row has
-- an earlier cycle than one before it
pub record IsCommandTable (records : List (List (List ℕ))) (rows : List IssuedCommand) : Type 0 where
  pub header : List (List ℕ)
  pub others : List (List (List ℕ))
  pub limits : Limits
  pub parts : records ≡ header ∷ others
  pub columns : limits_told header ≡ Some limits
  pub read : map (row_in limits) others ≡ map Some rows
  pub rising : IsRising rows

-- the records are those of a table of some commands
abbrev pub HoldsCommands : List (List (List ℕ)) → Type 0
HoldsCommands records = (rows : List IssuedCommand) × IsCommandTable records rows

-- the table that is written of these commands, for channels of so many ranks, is read as these commands
abbrev pub CommandsComeBack : ℕ → List IssuedCommand → Type 0
CommandsComeBack ranks rows = IsCommandTable (records_of (commands_text ranks rows)) rows
