-- What holds of the table of all commands of a run, by cycle and then by channel.
--     IsOrdered table      each row stands before those after it
--     IsLegalTable s table      each row keeps the rules over the rows of its channel before it
--     IsRefreshedTable s table      no row comes while a refresh of its channel is overdue
--     TablesAreOrdered, TablesAreLegal, TablesAreRefreshed      these hold of the table of a run
use Rattle.std.specs.Prelude.{ℕ, ◌+◌, ◌*◌, ◌<◌, ◌≤◌, IsTrue, List, length, take, count_by, slice_index_or}
use Rattle.std.specs.List.{AllPairs}
use Rattle.sim_base.specs.declared.config.Config.{Config}
use Rattle.sim_base.specs.Config.{refresh_slack}
use Rattle.sim_base.specs.History.{commands, commands_on, stands_before}
use Rattle.sim_base.specs.Rules.{is_legal}
use Rattle.sim_base.specs.Scheduling.{refreshes}
use Rattle.sim_base.specs.Machine.{run}
use Rattle.sim_base.specs.declared.command.IssuedCommand.{IssuedCommand}
use Rattle.sim_base.specs.declared.trace.Entry.{Entry}

-- each row stands before those after it
abbrev pub IsOrdered : List IssuedCommand → Type 0
IsOrdered table = AllPairs (λ a b. IsTrue (stands_before a b)) table

-- each row keeps the rules over the rows of its channel before it
abbrev pub IsLegalTable : Config → List IssuedCommand → Type 0
IsLegalTable s table =
    (i : ℕ) (d : IssuedCommand) → i < length table →
    let row = slice_index_or table i d in
    IsTrue (is_legal s (commands_on row.channel (take i table)) row.cycle row.command)

-- where there are refreshes, no row comes while a rank of its channel has missed one
abbrev pub IsRefreshedTable : Config → List IssuedCommand → Type 0
IsRefreshedTable s table =
    (i : ℕ) (d : IssuedCommand) (rank : ℕ) → i < length table → rank < s.ranks → 0 < s.timing.n_refi →
    let row = slice_index_or table i d in
    row.cycle
    ≤ (count_by (λ r. refreshes rank r.command) (commands_on row.channel (take i table)) + 1) * s.timing.n_refi
    + refresh_slack s

-- the table of a run is ordered
abbrev pub TablesAreOrdered : Config → List (List Entry) → ℕ → Type 0
TablesAreOrdered s traces n = IsOrdered (commands (run s traces n))

-- the table of a run is legal
abbrev pub TablesAreLegal : Config → List (List Entry) → ℕ → Type 0
TablesAreLegal s traces n = IsLegalTable s (commands (run s traces n))

-- no refresh is overdue in the table of a run
abbrev pub TablesAreRefreshed : Config → List (List Entry) → ℕ → Type 0
TablesAreRefreshed s traces n = IsRefreshedTable s (commands (run s traces n))
