-- What the channels of a machine keep for the tables of its run.
--     AreHeld lists rows      these lists hold these rows, if they are kept
--     served_by_channel machine now channel      the requests that a channel served in the first cycles of a run
--     command_lists, served_lists machine now      the commands and the requests of each channel, by number
--     command_table_if, request_table_if asked machine now      the tables of all channels, where they are asked for
use Rattle.std.specs.Prelude.{◌≡◌, ℕ, Bool, List, Option, Vec, IfSome, map}
use Rattle.std.specs.declared.alloc.Global.{Global}
use Rattle.sim_base.specs.History.{below, commands}
use Rattle.sim_base.specs.declared.command.IssuedCommand.{IssuedCommand}
use Rattle.request_table.specs.Requests.{arrival_of, requests_of}
use Rattle.request_table.specs.declared.times.RequestTimes.{RequestTimes}
use Rattle.statistics.specs.Outcomes.{if_asked}
use Rattle.request_table.specs.Served.{served_requests}
use Rattle.request_table.specs.declared.served_requests.ServedRequest.{ServedRequest}
use Rattle.units.specs.Runs.{run_of, commands_at}
use Rattle.units.specs.declared.machine.Machine.{Machine}

-- these lists hold these rows, if they are kept
abbrev pub AreHeld : {A : Type 0} → Option (Vec A Global) → List A → Type 0
AreHeld lists rows = IfSome lists (λ kept. kept.items ≡ rows)

-- the requests that a channel served in the first cycles of a run, in the order of their commands
abbrev pub served_by_channel : Machine → ℕ → ℕ → List ServedRequest
served_by_channel machine now channel =
    served_requests (arrival_of machine.config (run_of machine now) channel) (commands_at machine now channel)

-- the commands of each channel, by number
abbrev pub command_lists : Machine → ℕ → List (List IssuedCommand)
command_lists machine now = map (commands_at machine now) (below machine.config.channels)

-- the requests that each channel served, by number
abbrev pub served_lists : Machine → ℕ → List (List ServedRequest)
served_lists machine now = map (served_by_channel machine now) (below machine.config.channels)

-- the table of all commands, where it is asked for
abbrev pub command_table_if : Bool → Machine → ℕ → Option (List IssuedCommand)
command_table_if asked machine now = if_asked asked (commands (run_of machine now))

-- the table of all requests, where it is asked for
abbrev pub request_table_if : Bool → Machine → ℕ → Option (List RequestTimes)
request_table_if asked machine now = if_asked asked (requests_of machine.config (run_of machine now))
