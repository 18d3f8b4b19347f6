-- The requests that a channel served, one for each RD and WR of its commands.
--     served_by arrivals hit channel cycle command      the request that a command serves, if it is a column command
--     served_in arrivals history i      the same for one of the commands of a history, with its channel and cycle
--     served_requests arrivals history      those of all of them, in their order
use Rattle.std.specs.Prelude.{ℕ, Bool, List, filter_map, Option, Some, None}
use Rattle.sim_base.specs.Counts.{is_hit}
use Rattle.sim_base.specs.declared.command.Command.{Command}
use Rattle.sim_base.specs.declared.command.Command.TheVariants.{Act, Rd, Wr, Pre, Prea, Ref}
use Rattle.sim_base.specs.declared.command.IssuedCommand.{IssuedCommand}
use Rattle.sim_base.specs.declared.command.Source.{Source}
use Rattle.sim_base.specs.declared.message.Access.{Access}
use Rattle.sim_base.specs.declared.message.Access.TheVariants.{Read, Write}
use Rattle.request_table.specs.declared.served_requests.ServedRequest.{ServedRequest}

-- the request of an entry that is served in a cycle; `arrivals` tells when the request of an entry came to its channel
abbrev pub served_of : (Source → ℕ) → Bool → ℕ → ℕ → Access → Source → ServedRequest
served_of arrivals hit channel cycle access source =
    record {
      entry = source.entry;
      arrived = arrivals source;
      served = cycle;
      channel = channel;
      core = source.core;
      access = access;
      hit = hit;
    }

-- the request that a command serves, if it is a column command
abbrev pub served_by : (Source → ℕ) → Bool → ℕ → ℕ → Command → Option ServedRequest
served_by arrivals hit channel cycle (Rd bank row column source) =
    Some (served_of arrivals hit channel cycle Read source)
served_by arrivals hit channel cycle (Wr bank row column source) =
    Some (served_of arrivals hit channel cycle Write source)
served_by arrivals hit channel cycle (Act bank row source) = None
served_by arrivals hit channel cycle (Pre bank source) = None
served_by arrivals hit channel cycle (Prea rank) = None
served_by arrivals hit channel cycle (Ref rank) = None

-- the request that one of these commands serves, if it is a column command: it is a hit where none of them is an ACT
-- in its name
abbrev pub served_in : (Source → ℕ) → List IssuedCommand → IssuedCommand → Option ServedRequest
served_in arrivals history i = served_by arrivals (is_hit history i.command) i.channel i.cycle i.command

-- the requests that these commands serve, in their order
unfoldable pub served_requests : (Source → ℕ) → List IssuedCommand → List ServedRequest
served_requests arrivals history = filter_map (served_in arrivals history) history
