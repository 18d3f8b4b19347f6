-- What was done, cycle by cycle, and the messages that it makes. Step t of a history is what was done in cycle t.
--     steps_of_core c history, steps_of_channel k history      what one unit did
--     retired_before steps, issued_before steps      how many entries a core retired and issued
--     issued_commands channel steps      the commands of a channel, each with its cycle
--     commands_on channel table      those of some commands that are of a channel
--     stands_before a b      the order of a table of commands: by cycle and then by channel
--     commands history      the commands of all channels, by cycle and then by channel
--     request, reply, credit      a message of each kind
--     core_messages, channel_messages, messages      the messages that steps make, wherever they are by now
--     receiver_of channels link, receiver s link      the unit that a link leads to
--     by_age ms      messages in order of arrival, and then of link
--     inbox s traces history unit      what was sent to a unit, by age
use Rattle.std.specs.Prelude.{ℕ, not, insert, take_while, fold, ◌+◌, ◌-◌, length, sum_by, ◌/◌, ◌%◌, ◌==◌, nat_lt, Bool, false, ◌&&◌, ◌||◌, List, [], ◌∷◌, ◌++◌, map, filter, filter_map, flat_map, take, drop, slice_index_or, Option, Some, None, if◌then◌else◌}
use Rattle.std.specs.List.{cons_option, enumerate_from, range_with_len}
use Rattle.sim_base.specs.declared.config.Config.{Config}
use Rattle.sim_base.specs.Config.{request_link, reply_link, credit_link, latency}
use Rattle.sim_base.specs.MachineStep.{MachineStep, step_of_core, step_of_channel}
use Rattle.sim_base.specs.Places.{place_of}
use Rattle.sim_base.specs.declared.command.Command.{Command}
use Rattle.sim_base.specs.declared.command.Command.TheVariants.{Act, Rd, Wr, Pre, Prea, Ref}
use Rattle.sim_base.specs.declared.command.IssuedCommand.{IssuedCommand}
use Rattle.sim_base.specs.declared.command.Source.{Source}
use Rattle.sim_base.specs.declared.history.CoreStep.{CoreStep}
use Rattle.sim_base.specs.declared.message.Access.{Access}
use Rattle.sim_base.specs.declared.message.Access.TheVariants as access
use Rattle.sim_base.specs.declared.message.Payload.TheVariants as payload
use Rattle.sim_base.specs.declared.message.Message.{Message}
use Rattle.sim_base.specs.declared.message.Unit.{Unit as MachineUnit}
use Rattle.sim_base.specs.declared.message.Unit.TheVariants.{Core, Channel}
use Rattle.sim_base.specs.declared.trace.Entry.{Entry}
use Rattle.sim_base.specs.declared.trace.Entry.TheVariants.{Plain, Read, Write}

-- what one core did, one step per cycle
unfoldable pub steps_of_core : ℕ → List MachineStep → List CoreStep
steps_of_core core history = map (step_of_core core) history

-- what one channel did, one command or none per cycle
unfoldable pub steps_of_channel : ℕ → List MachineStep → List (Option Command)
steps_of_channel channel history = map (step_of_channel channel) history

-- the numbers below n
abbrev pub below : ℕ → List ℕ
below n = range_with_len 0 n

-- what a channel did in a cycle, as a command with its cycle
abbrev pub issued_at : ℕ → ℕ → Option Command → Option IssuedCommand
issued_at channel cycle None = None
issued_at channel cycle (Some command) = Some (record { cycle = cycle; channel = channel; command = command })

-- what a channel did in a cycle, as a list of one command with its cycle, or of none
abbrev pub issued_now : ℕ → ℕ → Option Command → List IssuedCommand
issued_now channel cycle o = cons_option (issued_at channel cycle o) []

-- the commands of a channel, each with its cycle
unfoldable pub issued_commands : ℕ → List (Option Command) → List IssuedCommand
issued_commands channel steps = filter_map (λ e. issued_at channel e.0 e.1) (enumerate_from 0 steps)

-- the commands of a channel, of a table of commands
abbrev pub commands_on : ℕ → List IssuedCommand → List IssuedCommand
commands_on channel table = filter (λ row. row.channel == channel) table

-- a command is of an earlier cycle than another, or of the same and of a lower channel
abbrev pub stands_before : IssuedCommand → IssuedCommand → Bool
stands_before a b = nat_lt a.cycle b.cycle || ((a.cycle == b.cycle) && nat_lt a.channel b.channel)

-- the commands of all channels in a cycle, by channel
abbrev pub commands_in : ℕ → MachineStep → List IssuedCommand
commands_in cycle step = filter_map (λ e. issued_at e.0 cycle e.1) (enumerate_from 0 step.commands)

-- the commands of all channels, by cycle and then by channel
unfoldable pub commands : List MachineStep → List IssuedCommand
commands history = flat_map (λ e. commands_in e.0 e.1) (enumerate_from 0 history)

-- a request that leaves in a cycle
unfoldable pub request : Config → ℕ → ℕ → ℕ → Access → ℕ → Message
request s core cycle entry access address =
    let place = place_of s address in
    let link = request_link s core place.channel in
    let arrival = cycle + latency s link in
    record {
      link = link;
      arrival = arrival;
      payload = payload.Request (record {
        core = core;
        entry = entry;
        access = access;
        address = address;
        place = place;
        arrival = arrival;
        link = link;
      });
    }

-- the request of an entry that issues in a cycle, if it has one
abbrev pub request_of : Config → ℕ → ℕ → ℕ → Entry → Option Message
request_of s core cycle entry Plain = None
request_of s core cycle entry (Read address) = Some (request s core cycle entry access.Read address)
request_of s core cycle entry (Write address) = Some (request s core cycle entry access.Write address)

-- how many entries were retired
unfoldable pub retired_before : List CoreStep → ℕ
retired_before steps = sum_by (λ core_step. core_step.retired) steps

-- how many entries were issued
unfoldable pub issued_before : List CoreStep → ℕ
issued_before steps = sum_by (λ core_step. core_step.issued) steps

-- the requests among the entries numbered from first on and below end
unfoldable pub requests_between : Config → ℕ → List Entry → ℕ → ℕ → ℕ → List Message
requests_between s core trace cycle first end =
    filter_map (λ e. request_of s core cycle e.0 e.1) (take (end - first) (drop first (enumerate_from 0 trace)))

-- the requests of a core in a cycle: those among the entries that it issued by the end of the cycle, and not before
unfoldable pub requests_in : Config → ℕ → List Entry → List CoreStep → ℕ → List Message
requests_in s core trace steps cycle =
    requests_between s core trace cycle (issued_before (take cycle steps)) (issued_before (take (cycle + 1) steps))

-- the requests that a core sent
unfoldable pub core_messages : Config → ℕ → List Entry → List CoreStep → List Message
core_messages s core trace steps = flat_map (requests_in s core trace steps) (below (length steps))

-- the data of a read that is issued in a cycle: it leaves as soon as its burst is over
unfoldable pub reply : Config → ℕ → ℕ → Source → Message
reply s channel cycle source =
    let link = reply_link s source.core channel in
    record { link = link; arrival = cycle + s.timing.n_cl + 4 + latency s link; payload = payload.Reply source.entry }

-- the credit for a request that is served in a cycle
unfoldable pub credit : Config → ℕ → ℕ → Access → Source → Message
credit s channel cycle access source =
    let link = credit_link s source.core channel in
    record { link = link; arrival = cycle + latency s link; payload = payload.Credit access source.entry }

-- what a channel sends for a command that it issues in a cycle
unfoldable pub messages_of : Config → ℕ → ℕ → Command → List Message
messages_of s channel cycle (Rd bank row column source) =
    reply s channel cycle source ∷ credit s channel cycle access.Read source ∷ []
messages_of s channel cycle (Wr bank row column source) = credit s channel cycle access.Write source ∷ []
messages_of s channel cycle (Act bank row source) = []
messages_of s channel cycle (Pre bank source) = []
messages_of s channel cycle (Prea rank) = []
messages_of s channel cycle (Ref rank) = []

-- what a channel sends in a cycle, for the command that it issues in it, if it issues one
abbrev pub messages_at : Config → ℕ → ℕ → Option Command → List Message
messages_at s channel cycle None = []
messages_at s channel cycle (Some command) = messages_of s channel cycle command

-- what a channel sends in a cycle
unfoldable pub messages_in : Config → ℕ → List (Option Command) → ℕ → List Message
messages_in s channel steps cycle = messages_at s channel cycle (slice_index_or steps cycle None)

-- the replies and the credits that a channel sent
unfoldable pub channel_messages : Config → ℕ → List (Option Command) → List Message
channel_messages s channel steps = flat_map (messages_in s channel steps) (below (length steps))

-- the trace of a core; a core with none has an empty one
abbrev pub trace_of : List (List Entry) → ℕ → List Entry
trace_of traces core = slice_index_or traces core []

-- what a core of the machine sent
unfoldable pub messages_of_core : Config → List (List Entry) → List MachineStep → ℕ → List Message
messages_of_core s traces history core = core_messages s core (trace_of traces core) (steps_of_core core history)

-- what a channel of the machine sent
unfoldable pub messages_of_channel : Config → List MachineStep → ℕ → List Message
messages_of_channel s history channel = channel_messages s channel (steps_of_channel channel history)

-- each message that was sent, wherever it is by now
unfoldable pub messages : Config → List (List Entry) → List MachineStep → List Message
messages s traces history =
    flat_map (messages_of_core s traces history) (below s.cores)
    ++ flat_map (messages_of_channel s history) (below s.channels)

-- the unit that a link leads to, in a machine with this many channels
abbrev pub receiver_of : ℕ → ℕ → MachineUnit
receiver_of channels link = if link % 3 == 0 then Channel (link / 3 % channels) else Core (link / 3 / channels)

-- the unit that a link leads to
abbrev pub receiver : Config → ℕ → MachineUnit
receiver s link = receiver_of s.channels link

-- whether two units are equal
abbrev pub is_unit : MachineUnit → MachineUnit → Bool
is_unit (Core a) (Core b) = a == b
is_unit (Channel a) (Channel b) = a == b
is_unit (Core a) (Channel b) = false
is_unit (Channel a) (Core b) = false

-- a message that is sent to this unit
abbrev pub is_to : Config → MachineUnit → Message → Bool
is_to s unit m = is_unit (receiver s m.link) unit

-- a message arrives before another, or with it on a lower link
abbrev pub is_before : Message → Message → Bool
is_before a b = nat_lt a.arrival b.arrival || (a.arrival == b.arrival && nat_lt a.link b.link)

-- the place of a message in a list by age: after those that it is not before
unfoldable pub place_by_age : Message → List Message → ℕ
place_by_age m ns = length (take_while (λ n. not (is_before m n)) ns)

-- a list by age with one more message
abbrev pub insert_by_age : List Message → Message → List Message
insert_by_age ns m = insert ns (place_by_age m ns) m

-- messages in order of arrival, and then of link
unfoldable pub by_age : List Message → List Message
by_age ms = fold insert_by_age [] ms

-- what was sent to a unit, by age
unfoldable pub inbox : Config → List (List Entry) → List MachineStep → MachineUnit → List Message
inbox s traces history unit = by_age (filter (is_to s unit) (messages s traces history))
