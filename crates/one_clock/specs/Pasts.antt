-- What is kept of the past of a core and of a channel, one cycle more.
--     core_past steps sent inbox, channel_past commands pending draining      a past by its parts
--     no_core_past, no_channel_past      the past of no cycle
--     core_past_after past step requests arrivals      a core's past with one cycle more
--     channel_past_after past channel now step arrivals      a channel's past with one cycle more
--     pending_after command pending commands arrivals      the requests that a channel is then still to serve
use Rattle.std.specs.Prelude.{ℕ, Bool, false, List, [], ◌∷◌, ◌++◌, filter, fold, Option}
use Rattle.std.specs.Option.{option_to_list}
use Rattle.sim_base.specs.History.{insert_by_age, issued_at}
use Rattle.sim_base.specs.declared.command.Command.{Command}
use Rattle.sim_base.specs.declared.command.IssuedCommand.{IssuedCommand}
use Rattle.sim_base.specs.declared.history.CoreStep.{CoreStep}
use Rattle.sim_base.specs.declared.message.Message.{Message}
use Rattle.plain_steps.specs.Plain.{CoreView, ChannelView, is_left, is_left_by}
use Rattle.plain_steps.specs.declared.scheduling.ChannelStep.{ChannelStep}

-- the past of a core, by what it did, what it sent, and what was sent to it
abbrev pub core_past : List CoreStep → List Message → List Message → CoreView
core_past steps sent inbox = record { past_steps = steps; sent = sent; inbox = inbox }

-- the past of a channel, by its commands, the requests that it is still to serve, and whether it drained its writes
abbrev pub channel_past : List IssuedCommand → List Message → Bool → ChannelView
channel_past commands pending draining = record { commands = commands; pending = pending; draining = draining }

-- a core that did nothing yet, and to which nothing was sent
abbrev pub no_core_past : CoreView
no_core_past = core_past [] [] []

-- a channel that did nothing yet, and to which nothing was sent
abbrev pub no_channel_past : ChannelView
no_channel_past = channel_past [] [] false

-- a core's past with one cycle more, in which it did this and sent these requests, and these messages were sent to it
abbrev pub core_past_after : CoreView → CoreStep → List Message → List Message → CoreView
core_past_after past step requests arrivals =
    record {
      past_steps = past.past_steps ++ step ∷ [];
      sent = past.sent ++ requests;
      inbox = fold insert_by_age past.inbox arrivals;
    }

-- The messages whose requests are still to be served, by age, after a cycle with this command, if there is one: those
-- that were pending, but for what it serves, and those of the arrivals that none of the commands so far serves.
abbrev pub pending_after : Option Command → List Message → List IssuedCommand → List Message → List Message
pending_after command pending commands arrivals =
    fold insert_by_age (filter (is_left_by command) pending) (filter (is_left commands) arrivals)

-- a channel's past with one cycle more, in which it did this, and these messages were sent to it
abbrev pub channel_past_after : ChannelView → ℕ → ℕ → ChannelStep → List Message → ChannelView
channel_past_after past channel now step arrivals =
    let issued = past.commands ++ option_to_list (issued_at channel now step.command) in
    record {
      commands = issued;
      pending = pending_after step.command past.pending issued arrivals;
      draining = step.draining;
    }
