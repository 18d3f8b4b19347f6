-- What a user may rely on in the outcome of a run.
--     OwnsDataBus s traces n      in no cycle do two commands of a channel have data on its bus
--     refreshes_until rank cycle table      how many REFs of a rank stand in a cycle or before it
--     IsRefreshed s traces n      a rank's REF for each interval of nREFI cycles comes in time, with its slack
--     HasBoundedQueues s outcome      no channel ever had more requests in its queue than `queue_room`
--     HoldsFewCredits s outcome      no core is left with more credits than it began with
--     KeepsCredits s traces cycle      by then no core has overspent its credits, and no more came back than it spent
--     KeepsCreditsUntil s traces cycles      that holds before each of these cycles, and after them
use Rattle.std.specs.Prelude.{ℕ, ◌+◌, ◌*◌, ◌<◌, ◌≤◌, nat_le, ◌&&◌, List, length, All, count_by}
use Rattle.sim_base.specs.declared.config.Config.{Config}
use Rattle.sim_base.specs.declared.command.IssuedCommand.{IssuedCommand}
use Rattle.sim_base.specs.declared.trace.Entry.{Entry}
use Rattle.sim_base.specs.Config.{refresh_slack}
use Rattle.sim_base.specs.Scheduling.{refreshes, queue_room}
use Rattle.sim_base.specs.History.{commands, commands_on}
use Rattle.sim_base.specs.Machine.{run}
use Rattle.statistics.specs.Values.{RunOutcome}
use Rattle.laws.specs.Credits.{CreditsAreNeverOverspent, CreditsComeBackOnce}
use Rattle.laws.specs.DataBus.{has_data_in}

-- in no cycle do two commands of a channel have data on its bus, in the run of n cycles
abbrev pub OwnsDataBus : Config → List (List Entry) → ℕ → Type 0
OwnsDataBus s traces n =
    (channel cycle : ℕ) → channel < s.channels
    → count_by (has_data_in s.timing cycle) (commands_on channel (commands (run s traces n))) ≤ 1

-- how many REFs of a rank stand in a cycle or before it
abbrev pub refreshes_until : ℕ → ℕ → List IssuedCommand → ℕ
refreshes_until rank cycle table = count_by (λ row. refreshes rank row.command && nat_le row.cycle cycle) table

-- Where there are refreshes, at least m REFs of each rank stand at m * nREFI + refresh_slack or before it, if that
-- cycle is one of the run.
abbrev pub IsRefreshed : Config → List (List Entry) → ℕ → Type 0
IsRefreshed s traces n =
    (channel rank m : ℕ) → channel < s.channels → rank < s.ranks → 0 < s.timing.n_refi →
    m * s.timing.n_refi + refresh_slack s < n →
    m ≤ refreshes_until rank (m * s.timing.n_refi + refresh_slack s) (commands_on channel (commands (run s traces n)))

-- No channel ever had more requests in its queue than `queue_room`: neither in a cycle of the run, by its statistics,
-- nor at its end.
pub record HasBoundedQueues (s : Config) (outcome : RunOutcome) : Type 0 where
  pub longest : All (λ c. c.queued_max ≤ queue_room s) outcome.stats.channels
  pub left : All (λ c. length c.queue ≤ queue_room s) outcome.last.channels

-- no core is left with more credits of a kind than it began with
abbrev pub HoldsFewCredits : Config → RunOutcome → Type 0
HoldsFewCredits s outcome =
    All (λ c. All (λ held. held.read ≤ s.read_credits × held.write ≤ s.write_credits) c.credits) outcome.last.cores

-- By the beginning of a cycle, each core has sent each channel no more requests of a kind than the credits that it
-- began with and those that came back, and no more came back than it sent.
pub record KeepsCredits (s : Config) (traces : List (List Entry)) (cycle : ℕ) : Type 0 where
  pub spent : CreditsAreNeverOverspent s traces cycle
  pub back : CreditsComeBackOnce s traces cycle

-- that holds at the beginning of each of these cycles, and at their end
abbrev pub KeepsCreditsUntil : Config → List (List Entry) → ℕ → Type 0
KeepsCreditsUntil s traces cycles = (cycle : ℕ) → cycle ≤ cycles → KeepsCredits s traces cycle
