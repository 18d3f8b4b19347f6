-- Rows of commands that a table can hold.
--     SourceIsOf s source, BankIsOf s bank, CommandIsOf s command      what a command names is of the configuration
--     RowIsOf s row      a row is one of the configuration's, in a cycle below the limit of numbers
--     AreShort traces      each entry of a trace has a number in that limit
use Rattle.std.specs.Prelude.{◌<◌, ◌≤◌, ◌^◌, List, length, All}
use Rattle.sim_base.specs.declared.config.Config.{Config}
use Rattle.sim_base.specs.declared.place.BankId.{BankId}
use Rattle.sim_base.specs.declared.command.Command.{Command}
use Rattle.sim_base.specs.declared.command.Command.TheVariants.{Act, Rd, Wr, Pre, Prea, Ref}
use Rattle.sim_base.specs.declared.command.IssuedCommand.{IssuedCommand}
use Rattle.sim_base.specs.declared.command.Source.{Source}
use Rattle.sim_base.specs.declared.trace.Entry.{Entry}

-- an entry of a core of the machine, with a number below the limit
pub record SourceIsOf (s : Config) (source : Source) : Type 0 where
  pub core : source.core < s.cores
  pub entry : source.entry < 2 ^ 62

-- a bank that exists in the configuration
pub record BankIsOf (s : Config) (place : BankId) : Type 0 where
  pub rank : place.rank < s.ranks
  pub group : place.group < s.groups
  pub bank : place.bank < 4

-- what a command names is of the configuration
abbrev pub CommandIsOf : Config → Command → Type 0
CommandIsOf s (Act bank row source) = BankIsOf s bank × (row < s.rows) × SourceIsOf s source
CommandIsOf s (Rd bank row column source) =
    BankIsOf s bank × (row < s.rows) × (column < s.columns) × SourceIsOf s source
CommandIsOf s (Wr bank row column source) =
    BankIsOf s bank × (row < s.rows) × (column < s.columns) × SourceIsOf s source
CommandIsOf s (Pre bank source) = BankIsOf s bank × SourceIsOf s source
CommandIsOf s (Prea rank) = rank < s.ranks
CommandIsOf s (Ref rank) = rank < s.ranks

-- a row of a channel of the configuration, in a cycle below the limit of numbers
pub record RowIsOf (s : Config) (row : IssuedCommand) : Type 0 where
  pub cycle : row.cycle < 2 ^ 62
  pub channel : row.channel < s.channels
  pub command : CommandIsOf s row.command

-- no trace has more than 2^62 entries, so that each entry has a number below the limit
abbrev pub AreShort : List (List Entry) → Type 0
AreShort traces = All (λ t. length t ≤ 2 ^ 62) traces
