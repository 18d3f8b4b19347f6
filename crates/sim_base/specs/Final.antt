-- The state that is left after the steps of a whole run of n cycles. Each is stated for one unit, by its own steps and
-- its inbox. What arrives in cycle n is still in flight: no credit of it is held, and no request of it is queued.
--     credits_left s core trace steps inbox access channel      the credits that a core holds for a channel
--     due_left s channel steps      the refreshes that are due, rank by rank
--     banks s      the banks of a channel, by rank, group and number
--     queue_left channel steps inbox      the requests that are not served, by age
use Rattle.std.specs.Prelude.{ℕ, List, length, map, flat_map, Option}
use Rattle.sim_base.specs.declared.config.Config.{Config}
use Rattle.sim_base.specs.History.{below, issued_commands, core_messages}
use Rattle.sim_base.specs.Scheduling.{queued_requests, due}
use Rattle.sim_base.specs.Windows.{held}
use Rattle.sim_base.specs.declared.command.Command.{Command}
use Rattle.sim_base.specs.declared.history.CoreStep.{CoreStep}
use Rattle.sim_base.specs.declared.message.Access.{Access}
use Rattle.sim_base.specs.declared.message.Message.{Message}
use Rattle.sim_base.specs.declared.message.Request.{Request}
use Rattle.sim_base.specs.declared.place.BankId.{BankId}
use Rattle.sim_base.specs.declared.trace.Entry.{Entry}

-- the credits that a core holds for a channel: for reads, or for writes
unfoldable pub credits_left : Config → ℕ → List Entry → List CoreStep → List Message → Access → ℕ → ℕ
credits_left s core trace steps inbox access channel =
    held s core inbox (core_messages s core trace steps) channel access (length steps)

-- the refreshes that are due, rank by rank
unfoldable pub due_left : Config → ℕ → List (Option Command) → List ℕ
due_left s channel steps = map (λ rank. due s rank (issued_commands channel steps) (length steps)) (below s.ranks)

-- the banks of a group
abbrev pub banks_of_group : ℕ → ℕ → List BankId
banks_of_group rank group = map (λ bank. record { rank = rank; group = group; bank = bank }) (below 4)

-- the banks of a rank, by group and number
abbrev pub banks_of_rank : Config → ℕ → List BankId
banks_of_rank s rank = flat_map (banks_of_group rank) (below s.groups)

-- the banks of a channel, by rank, group and number
unfoldable pub banks : Config → List BankId
banks s = flat_map (banks_of_rank s) (below s.ranks)

-- the requests that arrived in the run and are not served, by age
unfoldable pub queue_left : ℕ → List (Option Command) → List Message → List Request
queue_left channel steps inbox = queued_requests (issued_commands channel steps) inbox (length steps)
