-- What the plain machine keeps of the past of each core and of each channel, and what a channel does next.
--     CoreView, core_view s traces history core      what a core did, sent and was sent
--     ChannelView, channel_view s traces history channel      what a channel did, and the requests that are not served
--     channel_step_of s traces history channel      what a channel does in the cycle after a history
--     queue_of pending until      the requests among these that arrived before a cycle
--     is_late now m      a message that is still to arrive at a cycle
--     counts_in_window t rank now i      an ACT that counts in the four-activate window of its rank
use Rattle.std.specs.Prelude.{ℕ, ◌+◌, ◌==◌, ◌&&◌, nat_lt, Bool, true, not, List, length, filter, filter_map, Option, Some, None}
use Rattle.sim_base.specs.declared.config.Config.{Config}
use Rattle.sim_base.specs.MachineStep.{MachineStep}
use Rattle.sim_base.specs.History.{steps_of_core, steps_of_channel, issued_commands, messages_of_core, inbox}
use Rattle.sim_base.specs.Machine.{next_command}
use Rattle.sim_base.specs.Rules.{is_kind, kind_of, rank_of}
use Rattle.sim_base.specs.Scheduling.{request_in, serves, is_served, drains, drains_before}
use Rattle.sim_base.specs.declared.command.Command.{Command}
use Rattle.sim_base.specs.declared.command.IssuedCommand.{IssuedCommand}
use Rattle.sim_base.specs.declared.command.Kind.TheVariants as kind
use Rattle.sim_base.specs.declared.timing.Timing.{Timing}
use Rattle.sim_base.specs.declared.history.CoreStep.{CoreStep}
use Rattle.sim_base.specs.declared.message.Message.{Message}
use Rattle.sim_base.specs.declared.message.Request.{Request}
use Rattle.sim_base.specs.declared.message.Unit.TheVariants.{Core, Channel}
use Rattle.sim_base.specs.declared.trace.Entry.{Entry}
use Rattle.plain_steps.specs.declared.scheduling.ChannelStep.{ChannelStep}

-- what a core did, step by step, what it sent, and what was sent to it, by age
pub record CoreView : Type 0 where
  pub past_steps : List CoreStep
  pub sent : List Message
  pub inbox : List Message

-- a core of the machine after a history
abbrev pub core_view : Config → List (List Entry) → List MachineStep → ℕ → CoreView
core_view s traces history core =
    record {
      past_steps = steps_of_core core history;
      sent = messages_of_core s traces history core;
      inbox = inbox s traces history (Core core);
    }

-- the commands that a channel issued, the requests sent to it that are not served, by age, and whether it drained its
-- writes in the last cycle
pub record ChannelView : Type 0 where
  pub commands : List IssuedCommand
  pub pending : List Message
  pub draining : Bool

-- a request that is not served yet
abbrev pub is_request_left : List IssuedCommand → Option Request → Bool
is_request_left history (Some r) = not (is_served history r)
is_request_left history None = true

-- a message whose request is not served yet
abbrev pub is_left : List IssuedCommand → Message → Bool
is_left history m = is_request_left history (request_in m.payload)

-- a message whose request this command does not serve
abbrev pub is_passed_over : Option Command → Option Request → Bool
is_passed_over (Some command) (Some r) = not (serves r command)
is_passed_over (Some command) None = true
is_passed_over None request = true

-- a message that is still to be served after this command
abbrev pub is_left_by : Option Command → Message → Bool
is_left_by command m = is_passed_over command (request_in m.payload)

-- what a channel of the machine does in the cycle after a history
abbrev pub channel_step_of : Config → List (List Entry) → List MachineStep → ℕ → ChannelStep
channel_step_of s traces history channel =
    record {
      command = next_command s traces history channel;
      draining = drains s channel (steps_of_channel channel history) (inbox s traces history (Channel channel))
          (length history);
    }

-- a channel of the machine after a history
abbrev pub channel_view : Config → List (List Entry) → List MachineStep → ℕ → ChannelView
channel_view s traces history channel =
    let past_steps = steps_of_channel channel history in
    let mail = inbox s traces history (Channel channel) in
    record {
      commands = issued_commands channel past_steps;
      pending = filter (is_left (issued_commands channel past_steps)) mail;
      draining = drains_before s channel past_steps mail (length history);
    }

-- the requests among these messages that arrived before a cycle
unfoldable pub queue_of : List Message → ℕ → List Request
queue_of pending until = filter (λ r. nat_lt r.arrival until) (filter_map (λ m. request_in m.payload) pending)

-- a message that is still to arrive at a cycle
abbrev pub is_late : ℕ → Message → Bool
is_late now m = not (nat_lt m.arrival now)

-- an ACT to a rank, less than tFAW cycles before this one: it counts in the four-activate window (JESD79-4, tFAW)
abbrev pub counts_in_window : Timing → ℕ → ℕ → IssuedCommand → Bool
counts_in_window t of_rank now i =
    is_kind (kind_of i.command) kind.Act && (rank_of i.command == of_rank) && nat_lt now (i.cycle + t.n_faw)
