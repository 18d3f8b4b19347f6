-- What is sent in one cycle, and by whom.
--     sender s link      the unit that sends on a link
--     core_sends s traces history step core      a core's requests in the cycle after a history, in which this is done
--     channel_sends s history step channel      the replies and credits of a channel in that cycle
--     sends s traces history step      both, of all units
use Rattle.std.specs.Prelude.{ℕ, ◌+◌, ◌/◌, ◌%◌, ◌==◌, List, ◌++◌, length, flat_map, if◌then◌else◌}
use Rattle.sim_base.specs.declared.config.Config.{Config}
use Rattle.sim_base.specs.History.{below, trace_of, steps_of_core, issued_before, requests_between, messages_at}
use Rattle.sim_base.specs.MachineStep.{MachineStep, step_of_core, step_of_channel}
use Rattle.sim_base.specs.declared.message.Message.{Message}
use Rattle.sim_base.specs.declared.message.Unit.{Unit as MachineUnit}
use Rattle.sim_base.specs.declared.message.Unit.TheVariants.{Core, Channel}
use Rattle.sim_base.specs.declared.trace.Entry.{Entry}

-- the unit that sends on a link
unfoldable pub sender : Config → ℕ → MachineUnit
sender s link = if link % 3 == 0 then Core (link / 3 / s.channels) else Channel (link / 3 % s.channels)

-- the requests of a core in the cycle after a history, in which this is done
unfoldable pub core_sends : Config → List (List Entry) → List MachineStep → MachineStep → ℕ → List Message
core_sends s traces history step core =
    let first = issued_before (steps_of_core core history) in
    requests_between s core (trace_of traces core) (length history) first (first + (step_of_core core step).issued)

-- the replies and credits of a channel in that cycle
unfoldable pub channel_sends : Config → List MachineStep → MachineStep → ℕ → List Message
channel_sends s history step channel = messages_at s channel (length history) (step_of_channel channel step)

-- what is sent in that cycle
unfoldable pub sends : Config → List (List Entry) → List MachineStep → MachineStep → List Message
sends s traces history step =
    flat_map (core_sends s traces history step) (below s.cores)
    ++ flat_map (channel_sends s history step) (below s.channels)
