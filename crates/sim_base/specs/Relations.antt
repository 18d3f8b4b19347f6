-- What must hold between the numbers of a configuration. This project numbers these relations from 1 to 12, and a
-- configuration is refused by the number of the first that does not hold.
--     refresh_slack_of t ranks      how late a rank's refresh may be
--     DistancesFit t      relations 1 to 5: the distances between commands agree with one another
--     RefreshFits t ranks      relation 6: a refresh is over before the next one is due
--     CreditsFit cores read_credits write_credits      relation 7: a channel has at most 8192 queue places
--     LinksExist cores channels overrides      relation 8: each override is for a link of the machine
--     LinksDiffer overrides      relation 9: no two overrides are for the same link
--     RanksHaveField ranks fields      relation 10: where there are several ranks, an address has a field for the rank
--     DrainFits cores write_credits write_high write_low      relations 11 and 12: a drain can begin, and ends lower
use Rattle.std.specs.Prelude.{◌≡◌, ℕ, ◌+◌, ◌*◌, ◌-◌, ◌<◌, ◌≤◌, ◌==◌, max, map, count_by, List, All}
use Rattle.std.specs.List.{IsDistinct}
use Rattle.sim_base.specs.Fields.{is_field}
use Rattle.sim_base.specs.declared.overrides.Override.{Override}
use Rattle.sim_base.specs.declared.place.Field.{Field}
use Rattle.sim_base.specs.declared.place.Field.TheVariants.{Rank}
use Rattle.sim_base.specs.declared.timing.Timing.{Timing}

-- The cycles from the end of an interval in which a rank's refresh may still come: its banks are closed, and the ranks
-- before it are refreshed first.
abbrev pub refresh_slack_of : Timing → ℕ → ℕ
refresh_slack_of t ranks = max t.n_ras (max t.n_rtp (t.n_cwl + 4 + t.n_wr)) + t.n_rp + (ranks - 1) * (t.n_rp + 1)

-- A burst takes 4 cycles of the data bus, so a WR after a RD, and two commands of a kind, leave room for it; and a
-- distance within a group is no less than that across groups.
pub record DistancesFit (t : Timing) : Type 0 where
  pub write_after_read : t.n_cl + 4 ≤ t.n_rtw + t.n_cwl
  pub bursts : 4 ≤ t.n_ccd_s
  pub columns_in_group : t.n_ccd_s ≤ t.n_ccd_l
  pub rows_in_group : t.n_rrd_s ≤ t.n_rrd_l
  pub turnaround_in_group : t.n_wtr_s ≤ t.n_wtr_l

-- where there are refreshes, one is over before the next one is due
abbrev pub RefreshFits : Timing → ℕ → Type 0
RefreshFits t ranks = 0 < t.n_refi → refresh_slack_of t ranks + t.n_rfc + 1 ≤ t.n_refi

-- a channel has at most 8192 queue places, one for each credit of each core
abbrev pub CreditsFit : ℕ → ℕ → ℕ → Type 0
CreditsFit cores read_credits write_credits = cores * (read_credits + write_credits) ≤ 8192

-- each override is for a link of the machine: a core and a channel have three links
abbrev pub LinksExist : ℕ → ℕ → List Override → Type 0
LinksExist cores channels overrides = All (λ o. o.link < 3 * cores * channels) overrides

-- no two overrides are for the same link
abbrev pub LinksDiffer : List Override → Type 0
LinksDiffer overrides = IsDistinct (λ a b. a == b) (map (λ o. o.link) overrides)

-- with only one rank, no field of an address need name it
abbrev pub RanksHaveField : ℕ → List Field → Type 0
RanksHaveField ranks fields = 1 < ranks → count_by (is_field Rank) fields ≡ 1

-- unless write_high and write_low are 0, a drain begins at more writes than it ends at; and the cores' write credits
-- allow as many writes as it begins at
pub record DrainFits (cores write_credits write_high write_low : ℕ) : Type 0 where
  pub ends_below : 0 < write_high + write_low → write_low < write_high
  pub reachable : write_high ≤ cores * write_credits
