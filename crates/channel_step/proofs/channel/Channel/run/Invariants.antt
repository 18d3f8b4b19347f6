use Rattle.std.proofs.Common.{◌≡◌, ℕ, ◌-◌, ◌≤◌, length, List, Option}
use Rattle.sim_base.specs.declared.config.Config.{Config}
use Rattle.sim_base.specs.declared.command.Command.{Command}
use Rattle.sim_base.specs.declared.message.Message.{Message}
use Rattle.channel_step.specs.Past.{past_of}
use Rattle.channel_step.specs.Fit.{IsFit}
use Rattle.channel_step.specs.Channels.{StandsFor}
use Rattle.channel_step.specs.Runs.{HasAdvanced}
use Rattle.channel_step.proofs.channel.Channel.run.Given as goal

abbrev pub invariant-loop-now : goal.invariant-loop-now
invariant-loop-now l =
    (l.arrived ≤ length l.inbox) × (l.fn.cycles.start ≤ l.now) × (l.now ≤ l.fn.cycles.end)
    × ((s : Config) (channel : ℕ) (steps : List (Option Command)) (mail : List Message)
    → StandsFor l.fn.self s channel steps mail → length steps ≡ l.fn.cycles.start → IsFit s channel steps mail l.inbox l.fn.cycles.start l.fn.cycles.end
    → HasAdvanced l.self (past_of s channel steps mail) l.inbox l.fn.cycles.start l.now l.fn.cycles.end l.arrived l.fn.commands l.commands l.fn.messages.items l.messages.items)

abbrev pub decreases-loop-now : goal.decreases-loop-now
decreases-loop-now l = l.fn.cycles.end - l.now
