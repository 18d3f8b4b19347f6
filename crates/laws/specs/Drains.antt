-- The drains of a channel, told by the writes in its queue.
--     IsInDrain s channel steps inbox cycle      the queue had write_high writes, and more than write_low since
--     DrainsFollowWrites s      a channel drains in just these cycles
use Rattle.std.specs.Prelude.{ℕ, ◌<◌, ◌≤◌, ◌↔◌, IsTrue, List, Option}
use Rattle.sim_base.specs.declared.command.Command.{Command}
use Rattle.sim_base.specs.declared.config.Config.{Config}
use Rattle.sim_base.specs.declared.message.Message.{Message}
use Rattle.sim_base.specs.Scheduling.{writes_in, drains}

-- A cycle is that `first` or a later one: in `first` the queue had write_high writes or more, and in each cycle from
-- then up to this one it has more than write_low. Where write_high is 0 there are no drains.
pub record IsInDrain (s : Config) (channel : ℕ) (steps : List (Option Command)) (inbox : List Message) (cycle : ℕ)
    : Type 0 where
  pub first : ℕ
  pub begun : first ≤ cycle
  pub allowed : 0 < s.write_high
  pub high : s.write_high ≤ writes_in channel steps inbox first
  pub above : (now : ℕ) → first ≤ now → now ≤ cycle → s.write_low < writes_in channel steps inbox now

-- a channel drains its writes in a cycle exactly if a drain has begun by then, and its writes have not fallen to
-- write_low since
abbrev pub DrainsFollowWrites : Config → Type 0
DrainsFollowWrites s =
    (channel : ℕ) (steps : List (Option Command)) (inbox : List Message) (cycle : ℕ) →
    IsTrue (drains s channel steps inbox cycle) ↔ IsInDrain s channel steps inbox cycle
