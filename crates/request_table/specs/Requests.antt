-- The requests that a run served, and when each was where.
--     arrival_of s history channel source      the cycle in which the request of an entry reaches a channel
--     cycles_from first cycle      the cycles between two, of which there may not be the second one
--     reply_latency row      how long a request waited for its reply
--     if_within cycles cycle      a cycle, if it is one of the first so many
--     reply_cycle s core channel served      the cycle in which the data of a read comes to its core
--     replied_in s cycles access core channel served      the same, if the request has a reply and it comes in the run
--     request_for s history access i source      the request of an entry that a command serves
--     request_by s history i command      the same for the command of any kind, where it serves one
--     requests_of s history      the requests that the commands of a history serve, in their order
use Rattle.std.specs.Prelude.{ℕ, ◌+◌, ◌-◌, nat_lt, List, length, filter_map, Option, Some, None, if◌then◌else◌}
use Rattle.sim_base.specs.declared.config.Config.{Config}
use Rattle.sim_base.specs.Config.{request_link, reply_link, latency}
use Rattle.sim_base.specs.Counts.{issue_cycle, is_hit}
use Rattle.sim_base.specs.MachineStep.{MachineStep}
use Rattle.sim_base.specs.History.{steps_of_core, steps_of_channel, issued_commands, commands}
use Rattle.sim_base.specs.declared.command.Command.{Command}
use Rattle.sim_base.specs.declared.command.Command.TheVariants.{Act, Rd, Wr, Pre, Prea, Ref}
use Rattle.sim_base.specs.declared.command.IssuedCommand.{IssuedCommand}
use Rattle.sim_base.specs.declared.command.Source.{Source}
use Rattle.sim_base.specs.declared.message.Access.{Access}
use Rattle.sim_base.specs.declared.message.Access.TheVariants.{Read, Write}
use Rattle.request_table.specs.declared.times.RequestTimes.{RequestTimes}

-- the cycle in which the request of an entry reaches a channel: its core issues the entry, and the request travels the
-- link of the two
abbrev pub arrival_of : Config → List MachineStep → ℕ → Source → ℕ
arrival_of s history channel source =
    issue_cycle (steps_of_core source.core history) source.entry + latency s (request_link s source.core channel)

-- the cycles from one on until another, if there is that one; 0 otherwise
abbrev pub cycles_from : ℕ → Option ℕ → ℕ
cycles_from first (Some cycle) = cycle - first
cycles_from first None = 0

-- how long a request waited for its reply; 0 where it had none
abbrev pub reply_latency : RequestTimes → ℕ
reply_latency row = cycles_from row.issued row.replied

-- a cycle, if it is one of the first so many
abbrev pub if_within : ℕ → ℕ → Option ℕ
if_within cycles cycle = if nat_lt cycle cycles then Some cycle else None

-- the cycle in which the data of a read comes to its core: nCL cycles after its RD the burst of 4 begins, and it leaves
-- when it is over
abbrev pub reply_cycle : Config → ℕ → ℕ → ℕ → ℕ
reply_cycle s core channel served = served + s.timing.n_cl + 4 + latency s (reply_link s core channel)

-- the cycle in which the data of a read comes to its core, if it is a cycle of a run of so many; a write has no reply
abbrev pub replied_in : Config → ℕ → Access → ℕ → ℕ → ℕ → Option ℕ
replied_in s cycles Read core channel served = if_within cycles (reply_cycle s core channel served)
replied_in s cycles Write core channel served = None

-- the request of an entry that a command serves
abbrev pub request_for : Config → List MachineStep → Access → IssuedCommand → Source → RequestTimes
request_for s history access i source =
    record {
      core = source.core;
      entry = source.entry;
      access = access;
      channel = i.channel;
      issued = issue_cycle (steps_of_core source.core history) source.entry;
      arrived = arrival_of s history i.channel source;
      served = i.cycle;
      replied = replied_in s (length history) access source.core i.channel i.cycle;
      hit = is_hit (issued_commands i.channel (steps_of_channel i.channel history)) i.command;
    }

-- the request that an issued command serves, by what it is; only a RD and a WR serve one
abbrev pub request_by : Config → List MachineStep → IssuedCommand → Command → Option RequestTimes
request_by s history i (Rd bank row column source) = Some (request_for s history Read i source)
request_by s history i (Wr bank row column source) = Some (request_for s history Write i source)
request_by s history i (Act bank row source) = None
request_by s history i (Pre bank source) = None
request_by s history i (Prea rank) = None
request_by s history i (Ref rank) = None

-- the requests that the commands of a history serve, in the order of the table of commands
unfoldable pub requests_of : Config → List MachineStep → List RequestTimes
requests_of s history = filter_map (λ i. request_by s history i i.command) (commands history)
