-- What a channel chooses in a cycle.
--     is_legal_in c command      whether a command may be issued in the cycle
--     ready_hit_in c r, ready_row_in c requests r      whether a request's RD or WR, or its ACT or PRE, may be issued
--     first_ready_in c requests      the command of the first request that is ready, row hits first
--     if_legal_in c command      a command, if it may be issued
--     choice_in c requests due      the command, for a rank whose refresh is due or for one of these requests
--     drains_in c drained pending      whether the channel drains its writes
--     command_in c draining pending      the command that it issues
use Rattle.std.specs.Prelude.{ℕ, ◌+◌, Bool, List, count_by, Option}
use Rattle.sim_base.specs.Access.{is_access}
use Rattle.sim_base.specs.Rules.{is_legal}
use Rattle.sim_base.specs.Scheduling.{drains_with, candidates, ready_hit, ready_row, first_ready, if_legal, lowest_due, choice_between}
use Rattle.sim_base.specs.declared.command.Command.{Command}
use Rattle.sim_base.specs.declared.message.Access.TheVariants as access
use Rattle.sim_base.specs.declared.message.Message.{Message}
use Rattle.sim_base.specs.declared.message.Request.{Request}
use Rattle.plain_steps.specs.Plain.{queue_of}
use Rattle.plain_steps.specs.declared.channel_cycle.ChannelCycle.{ChannelCycle}

-- whether a command may be issued in the cycle
abbrev pub is_legal_in : ChannelCycle → Command → Bool
is_legal_in c = is_legal c.config.now c.history.now c.number

-- whether a request is a row hit whose RD or WR may be issued in the cycle
abbrev pub ready_hit_in : ChannelCycle → Request → Bool
ready_hit_in c = ready_hit c.config.now c.history.now c.number

-- whether an ACT or a PRE may be issued for a request in the cycle, where no row hit among the requests keeps its
-- bank open
abbrev pub ready_row_in : ChannelCycle → List Request → Request → Bool
ready_row_in c = ready_row c.config.now c.history.now c.number

-- the command of the first request that is ready, row hits first
abbrev pub first_ready_in : ChannelCycle → List Request → Option Command
first_ready_in c = first_ready c.config.now c.history.now c.number

-- a command, if it may be issued in the cycle
abbrev pub if_legal_in : ChannelCycle → Command → Option Command
if_legal_in c = if_legal c.config.now c.history.now c.number

-- the command that is issued, for a rank whose refresh is due, or otherwise for one of these requests
abbrev pub choice_in : ChannelCycle → List Request → Option ℕ → Option Command
choice_in c = choice_between c.config.now c.history.now c.number

-- whether the channel drains its writes in the cycle, by whether it did in the one before and by the writes that are
-- queued
abbrev pub drains_in : ChannelCycle → Bool → List Message → Bool
drains_in c drained pending =
    drains_with c.config.now drained (count_by (λ r. is_access access.Write r.access) (queue_of pending (c.number + 1)))

-- the command that the channel issues in the cycle, where it drains its writes or not, and these messages are pending
abbrev pub command_in : ChannelCycle → Bool → List Message → Option Command
command_in c draining pending =
    choice_in c (candidates c.config.now draining (queue_of pending (c.number + 1)))
    (lowest_due c.config.now c.history.now c.number)
