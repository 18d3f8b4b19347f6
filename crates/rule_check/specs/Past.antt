-- What is kept of the rows of a table.
--     IsPast past s rows      a `Past` keeps just what these rows make of each channel, and the last of them
--     past_breaks s table last channel row number      which rules a row breaks, by what is kept
--     lowest_by s table last channel row      the lowest of them
use Rattle.std.specs.Prelude.{◌≡◌, ℕ, ◌<◌, ◌==◌, Bool, List, find, length, slice_index_or, Option, if◌then◌else◌}
use Rattle.std.specs.List.{range_with_len}
use Rattle.sim_base.specs.declared.config.Config.{Config}
use Rattle.sim_base.specs.declared.rule.Rule.{Rule}
use Rattle.sim_base.specs.declared.command.IssuedCommand.{IssuedCommand}
use Rattle.rule_check.specs.Broken.{last_row, stands_wrongly}
use Rattle.sim_base.specs.History.{commands_on}
use Rattle.rule_check.specs.Kept.{IsKept, kept_breaks}
use Rattle.rule_check.specs.declared.state.Channel.{Channel}
use Rattle.rule_check.specs.declared.state.Past.{Past}

-- a `Past` keeps just what these rows make of each channel, and the last of them
pub record IsPast (past : Past) (s : Config) (rows : List IssuedCommand) : Type 0 where
  pub last : past.last ≡ last_row rows
  pub channel_count : length past.channels.items ≡ s.channels
  pub channels : (k : ℕ) (d : Channel) → k < s.channels
      → IsKept (slice_index_or past.channels.items k d) s (commands_on k rows)

-- which rules a row breaks, by what is kept: the order of rows (1), or a rule of its channel
abbrev pub past_breaks : Config → List Rule → Option IssuedCommand → Channel → IssuedCommand → ℕ → Bool
past_breaks s table last c row number =
    if number == 1 then stands_wrongly last row else kept_breaks s table c row number

-- the lowest of them; rules are numbered from 1 to 21
abbrev pub lowest_by : Config → List Rule → Option IssuedCommand → Channel → IssuedCommand → Option ℕ
lowest_by s table last c row = find (past_breaks s table last c row) (range_with_len 1 21)
