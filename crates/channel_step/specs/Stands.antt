-- What a channel that stands between two cycles keeps of its past, and what it keeps of it within a cycle.
--     activated_of history requests      which of these requests an ACT was issued for
--     Recalls queue drained activated stats p      what a channel keeps of its past between two cycles
--     HasArrivals queue drained activated stats p      what it keeps in a cycle, when what arrives in it has joined
use Rattle.std.specs.Prelude.{◌≡◌, ◌+◌, ◌<◌, Bool, List, length, map}
use Rattle.std.specs.List.{AllByRecursion as Each}
use Rattle.sim_base.specs.Scheduling.{queued_requests, drains_before, drains}
use Rattle.sim_base.specs.declared.command.IssuedCommand.{IssuedCommand}
use Rattle.sim_base.specs.declared.message.Message.{Message}
use Rattle.sim_base.specs.declared.message.Request.{Request}
use Rattle.statistics.specs.declared.channels.ChannelStats.{ChannelStats}
use Rattle.channel_step.specs.Past.{Past, commands_after, waiting_after, stats_after, carried_requests, CarriesRequest, Differ, has_act, IsPast}

-- for each of these requests, whether an ACT was issued for it
abbrev pub activated_of : List IssuedCommand → List Request → List Bool
activated_of history requests = map (has_act history) requests

-- The requests that wait, whether the channel drained its writes in the last cycle, for which of the requests an ACT
-- was issued, and the statistics, are those of a past.
pub record Recalls (queue : List Request) (drained : Bool) (activated : List Bool) (stats : ChannelStats) (p : Past)
    : Type 0 where
  pub past : IsPast p
  pub queue_is : queue ≡ waiting_after p
  pub drained_is : drained ≡ drains_before p.config p.channel p.steps p.mail (length p.steps)
  pub activated_are : activated ≡ activated_of (commands_after p) queue
  pub stats_are : stats ≡ stats_after p

-- The requests that wait in the cycle after a past, with what arrives in it, whether the channel drains its writes in
-- it, for which of the requests an ACT was issued, and the statistics, are those of that past.
pub record HasArrivals (queue : List Request) (drained : Bool) (activated : List Bool) (stats : ChannelStats) (p : Past)
    : Type 0 where
  pub requests : Each (CarriesRequest p.config p.channel) p.mail
  pub arrived : Each (λ (m : Message). m.arrival < length p.steps + 1) p.mail
  pub differ : Differ (carried_requests p.mail)
  pub queue_is : queue ≡ queued_requests (commands_after p) p.mail (length p.steps + 1)
  pub drained_is : drained ≡ drains p.config p.channel p.steps p.mail (length p.steps)
  pub activated_are : activated ≡ activated_of (commands_after p) queue
  pub stats_are : stats ≡ stats_after p
