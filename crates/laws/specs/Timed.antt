-- The requests of a run, as the channels that served them keep them.
--     served_in_run s history i      the request that a command of a history serves, as its channel keeps it
--     AreTimed s history      the requests of a history are those, each with its times
use Rattle.std.specs.Prelude.{◌≡◌, List, length, map, filter_map, Option}
use Rattle.sim_base.specs.declared.config.Config.{Config}
use Rattle.sim_base.specs.MachineStep.{MachineStep}
use Rattle.sim_base.specs.History.{steps_of_channel, issued_commands, commands}
use Rattle.sim_base.specs.declared.command.IssuedCommand.{IssuedCommand}
use Rattle.request_table.specs.Served.{served_in}
use Rattle.request_table.specs.declared.served_requests.ServedRequest.{ServedRequest}
use Rattle.request_table.specs.Requests.{arrival_of, requests_of}
use Rattle.request_table.specs.Tables.{times_of}

-- the request that a command of a history serves, as its channel keeps it
abbrev pub served_in_run : Config → List MachineStep → IssuedCommand → Option ServedRequest
served_in_run s history i =
    served_in (arrival_of s history i.channel) (issued_commands i.channel (steps_of_channel i.channel history)) i

-- the requests of a history are those that its channels keep, each with its times
abbrev pub AreTimed : Config → List MachineStep → Type 0
AreTimed s history =
    requests_of s history ≡ map (times_of s (length history)) (filter_map (served_in_run s history) (commands history))
