-- The refreshes of a run.
--     refreshes_by s traces n channel rank cycle      the REFs of a rank by the end of a cycle
--     RefreshesAreInTime s traces n      a rank's REF for each nREFI interval comes at most the slack after its end
--     RefreshesAreNotEarly s traces n      and not before its end
--     RefreshesAreWanted s traces n      there are none where the configuration has none
use Rattle.std.specs.Prelude.{◌≡◌, ℕ, ◌+◌, ◌*◌, ◌<◌, ◌≤◌, List, take, count_by}
use Rattle.sim_base.specs.declared.config.Config.{Config}
use Rattle.sim_base.specs.Config.{refresh_slack}
use Rattle.sim_base.specs.History.{issued_commands}
use Rattle.sim_base.specs.Scheduling.{refreshes}
use Rattle.sim_base.specs.declared.trace.Entry.{Entry}
use Rattle.laws.specs.Commands.{channel_steps_of}

-- how many REFs of a rank a channel issues by the end of a cycle
abbrev pub refreshes_by : Config → List (List Entry) → ℕ → ℕ → ℕ → ℕ → ℕ
refreshes_by s traces n channel rank cycle =
    count_by (λ i. refreshes rank i.command)
    (issued_commands channel (take (cycle + 1) (channel_steps_of s traces n channel)))

-- Where there are refreshes, the m-th REF of each rank stands at m * nREFI + refresh_slack or earlier, if that cycle is
-- one of the run.
abbrev pub RefreshesAreInTime : Config → List (List Entry) → ℕ → Type 0
RefreshesAreInTime s traces n =
    (channel rank m : ℕ) → channel < s.channels → rank < s.ranks → 0 < s.timing.n_refi →
    m * s.timing.n_refi + refresh_slack s < n →
    m ≤ refreshes_by s traces n channel rank (m * s.timing.n_refi + refresh_slack s)

-- the m-th REF of a rank does not stand before cycle m * nREFI
abbrev pub RefreshesAreNotEarly : Config → List (List Entry) → ℕ → Type 0
RefreshesAreNotEarly s traces n =
    (channel rank cycle : ℕ) → channel < s.channels → cycle < n →
    refreshes_by s traces n channel rank cycle * s.timing.n_refi ≤ cycle

-- and there is none where nREFI is 0
abbrev pub RefreshesAreWanted : Config → List (List Entry) → ℕ → Type 0
RefreshesAreWanted s traces n =
    (channel rank cycle : ℕ) → channel < s.channels → cycle < n → s.timing.n_refi ≡ 0 →
    refreshes_by s traces n channel rank cycle ≡ 0
