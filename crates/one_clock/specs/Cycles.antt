-- What the definition's run did before a cycle, what it does in the cycle, and what there is after it.
--     steps_before, steps_after      the steps of the run
--     core_before, core_after, cores_before, cores_after      what is kept of a core's past, and of each core's
--     channel_before, channel_after, channels_before, channels_after      the same of channels
--     core_stats_before, all_core_stats_before, ..      the statistics of a core, of each core, and so on
--     core_step_in, core_stop_in, core_stops_in      what a core does in the cycle; the same with why it stops
--     channel_step_in, channel_steps_in      what a channel does in the cycle
--     sent_by, sent_by_cores, sent_by_channels, sent_in      what is sent in the cycle
--     flight_before, flight_after, commands_before, commands_after      the messages in flight; the commands issued
--     core_left_before, cores_left_before, ..      the state in which the run leaves them, if it ends before the cycle
--     arrival_in, is_hit_in      when a request reached its channel; whether a command is a row hit
--     request_for, request_of_row, requests_of_rows      the requests that commands serve
--     requests_before      the requests that were served before the cycle
use Rattle.std.specs.Prelude.{ℕ, ◌+◌, Bool, List, map, flat_map, filter_map, Option}
use Rattle.sim_base.specs.Counts.{in_flight, is_hit}
use Rattle.sim_base.specs.History.{below, commands, steps_of_channel, issued_commands}
use Rattle.sim_base.specs.Machine.{next_core_step, next_step, run}
use Rattle.sim_base.specs.MachineStep.{MachineStep}
use Rattle.sim_base.specs.Sends.{core_sends, channel_sends, sends}
use Rattle.sim_base.specs.declared.command.IssuedCommand.{IssuedCommand}
use Rattle.sim_base.specs.declared.command.Source.{Source}
use Rattle.sim_base.specs.declared.history.CoreStep.{CoreStep}
use Rattle.sim_base.specs.declared.message.Access.{Access}
use Rattle.sim_base.specs.declared.message.Message.{Message}
use Rattle.sim_base.specs.declared.trace.Stop.{Stop}
use Rattle.statistics.specs.Runs.{stats_of_core, stats_of_channel, final_of_core, final_of_channel}
use Rattle.statistics.specs.Values.{FinalCore, FinalChannel}
use Rattle.statistics.specs.declared.channels.ChannelStats.{ChannelStats}
use Rattle.statistics.specs.declared.cores.CoreStats.{CoreStats}
use Rattle.plain_steps.specs.Plain.{CoreView, core_view, ChannelView, channel_view, channel_step_of}
use Rattle.plain_steps.specs.declared.scheduling.ChannelStep.{ChannelStep}
use Rattle.laws.specs.Timed.{served_in_run}
use Rattle.request_table.specs.Requests.{arrival_of, requests_of}
use Rattle.request_table.specs.declared.times.RequestTimes.{RequestTimes}
use Rattle.request_table.specs.Served.{served_of}
use Rattle.request_table.specs.declared.served_requests.ServedRequest.{ServedRequest}
use Rattle.one_clock.specs.Steps.{core_step_of}
use Rattle.one_clock.specs.declared.run_cycle.RunCycle.{RunCycle}

-- the steps of the run before a cycle
abbrev pub steps_before : RunCycle → List MachineStep
steps_before c = run c.config.now c.traces.now c.number

-- the steps of the run, those of the cycle included
abbrev pub steps_after : RunCycle → List MachineStep
steps_after c = run c.config.now c.traces.now (c.number + 1)

-- what all units do in the cycle
abbrev pub step_in : RunCycle → MachineStep
step_in c = next_step c.config.now c.traces.now (steps_before c)

-- one for each core, and one for each channel, by number
abbrev pub each_core : {X : Type 0} → RunCycle → (ℕ → X) → List X
each_core c f = map f (below c.config.now.cores)

abbrev pub each_channel : {X : Type 0} → RunCycle → (ℕ → X) → List X
each_channel c f = map f (below c.config.now.channels)

-- the past of a core before the cycle, and with it
abbrev pub core_before : RunCycle → ℕ → CoreView
core_before c = core_view c.config.now c.traces.now (steps_before c)

abbrev pub core_after : RunCycle → ℕ → CoreView
core_after c = core_view c.config.now c.traces.now (steps_after c)

abbrev pub cores_before : RunCycle → List CoreView
cores_before c = each_core c (core_before c)

abbrev pub cores_after : RunCycle → List CoreView
cores_after c = each_core c (core_after c)

-- the past of a channel before the cycle, and with it
abbrev pub channel_before : RunCycle → ℕ → ChannelView
channel_before c = channel_view c.config.now c.traces.now (steps_before c)

abbrev pub channel_after : RunCycle → ℕ → ChannelView
channel_after c = channel_view c.config.now c.traces.now (steps_after c)

abbrev pub channels_before : RunCycle → List ChannelView
channels_before c = each_channel c (channel_before c)

abbrev pub channels_after : RunCycle → List ChannelView
channels_after c = each_channel c (channel_after c)

-- the statistics of a core before the cycle, and with it
abbrev pub core_stats_before : RunCycle → ℕ → CoreStats
core_stats_before c = stats_of_core c.config.now c.traces.now (steps_before c)

abbrev pub core_stats_after : RunCycle → ℕ → CoreStats
core_stats_after c = stats_of_core c.config.now c.traces.now (steps_after c)

abbrev pub all_core_stats_before : RunCycle → List CoreStats
all_core_stats_before c = each_core c (core_stats_before c)

abbrev pub all_core_stats_after : RunCycle → List CoreStats
all_core_stats_after c = each_core c (core_stats_after c)

-- the statistics of a channel before the cycle, and with it
abbrev pub channel_stats_before : RunCycle → ℕ → ChannelStats
channel_stats_before c = stats_of_channel c.config.now c.traces.now (steps_before c)

abbrev pub channel_stats_after : RunCycle → ℕ → ChannelStats
channel_stats_after c = stats_of_channel c.config.now c.traces.now (steps_after c)

abbrev pub all_channel_stats_before : RunCycle → List ChannelStats
all_channel_stats_before c = each_channel c (channel_stats_before c)

abbrev pub all_channel_stats_after : RunCycle → List ChannelStats
all_channel_stats_after c = each_channel c (channel_stats_after c)

-- what a core does in the cycle
abbrev pub core_step_in : RunCycle → ℕ → CoreStep
core_step_in c = next_core_step c.config.now c.traces.now (steps_before c)

-- what a core does in the cycle, and why it stops issuing
abbrev pub core_stop_in : RunCycle → ℕ → CoreStep × Stop
core_stop_in c = core_step_of c.config.now c.traces.now (steps_before c)

abbrev pub core_stops_in : RunCycle → List (CoreStep × Stop)
core_stops_in c = each_core c (core_stop_in c)

-- what a channel does in the cycle
abbrev pub channel_step_in : RunCycle → ℕ → ChannelStep
channel_step_in c = channel_step_of c.config.now c.traces.now (steps_before c)

abbrev pub channel_steps_in : RunCycle → List ChannelStep
channel_steps_in c = each_channel c (channel_step_in c)

-- what a core sends in the cycle
abbrev pub sent_by : RunCycle → ℕ → List Message
sent_by c = core_sends c.config.now c.traces.now (steps_before c) (step_in c)

-- what the cores send in the cycle, one after the other, and what the channels do
abbrev pub sent_by_cores : RunCycle → List Message
sent_by_cores c = flat_map (sent_by c) (below c.config.now.cores)

abbrev pub sent_by_channels : RunCycle → List Message
sent_by_channels c = flat_map (channel_sends c.config.now (steps_before c) (step_in c)) (below c.config.now.channels)

-- all that is sent in the cycle
abbrev pub sent_in : RunCycle → List Message
sent_in c = sends c.config.now c.traces.now (steps_before c) (step_in c)

-- the messages in flight before the cycle, and after it
abbrev pub flight_before : RunCycle → List Message
flight_before c = in_flight c.config.now c.traces.now (steps_before c)

abbrev pub flight_after : RunCycle → List Message
flight_after c = in_flight c.config.now c.traces.now (steps_after c)

-- the commands of the run before the cycle, and those of the cycle included
abbrev pub commands_before : RunCycle → List IssuedCommand
commands_before c = commands (steps_before c)

abbrev pub commands_after : RunCycle → List IssuedCommand
commands_after c = commands (steps_after c)

-- the state in which a core is left, if the run ends before the cycle
abbrev pub core_left_before : RunCycle → ℕ → FinalCore
core_left_before c = final_of_core c.config.now c.traces.now (steps_before c)

abbrev pub cores_left_before : RunCycle → List FinalCore
cores_left_before c = each_core c (core_left_before c)

-- the state in which a channel is left, if the run ends before the cycle
abbrev pub channel_left_before : RunCycle → ℕ → FinalChannel
channel_left_before c = final_of_channel c.config.now c.traces.now (steps_before c)

abbrev pub channels_left_before : RunCycle → List FinalChannel
channels_left_before c = each_channel c (channel_left_before c)

-- the cycle in which the request of an entry reaches a channel, by the steps before the cycle
abbrev pub arrival_in : RunCycle → ℕ → Source → ℕ
arrival_in c channel = arrival_of c.config.now (steps_before c) channel

-- whether a command moves data for a request of its channel that no ACT was issued for before the cycle
abbrev pub is_hit_in : RunCycle → IssuedCommand → Bool
is_hit_in c row = is_hit (issued_commands row.channel (steps_of_channel row.channel (steps_before c))) row.command

-- the request of an entry, read or written, that a command serves
abbrev pub request_for : RunCycle → IssuedCommand → Access → Source → ServedRequest
request_for c row access source =
    served_of (arrival_in c row.channel) (is_hit_in c row) row.channel row.cycle access source

-- the request that a command serves, if it serves one
abbrev pub request_of_row : RunCycle → IssuedCommand → Option ServedRequest
request_of_row c = served_in_run c.config.now (steps_before c)

-- the requests that these commands serve, in their order
abbrev pub requests_of_rows : RunCycle → List IssuedCommand → List ServedRequest
requests_of_rows c rows = filter_map (request_of_row c) rows

-- the requests that were served before the cycle, each with its times
abbrev pub requests_before : RunCycle → List RequestTimes
requests_before c = requests_of c.config.now (steps_before c)
