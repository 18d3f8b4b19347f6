-- The refreshes that are due for the ranks of a channel.
--     RefreshCounts      how often a rank is to be refreshed, and how often each was
--     never_refreshed interval ranks      the counts before the first refresh
--     refreshed counts rank      the counts after one more
--     owed counts rank now      refreshes of a rank that are due
--     lowest_owed counts now      the lowest rank with a refresh that is due
--     IsFirstDue lowest now time      the first cycle from now on with a refresh that is due
--     IsDueFrom count now due      from which cycle on something is due, as seen from now
--     IsFewest counts fewest      the refreshes of the rank that had the fewest
--     NoneIsDueTo counts none_due_to      the last cycle in which none is due
--     StandsFor counts s history      the refreshes of a list of commands were counted, and no others
use Rattle.std.specs.Prelude.{◌≡◌, ℕ, ◌+◌, ◌-◌, ◌*◌, ◌^◌, ◌/◌, ◌<◌, ◌≤◌, ◌==◌, nat_lt, nat_le, Bool, List, slice_index, find, count_by, false, Option, replicate, slice_set, IsSome, IfSome, Some, None, if◌then◌else◌}
use Rattle.sim_base.specs.declared.config.Config.{Config}
use Rattle.sim_base.specs.declared.command.Command.{Command}
use Rattle.sim_base.specs.declared.command.IssuedCommand.{IssuedCommand}
use Rattle.sim_base.specs.History.{below}
use Rattle.sim_base.specs.Scheduling.{refreshes}

-- the cycles from one refresh of a rank to the next, 0 where there are none; the ranks; and how often each rank was
-- refreshed
pub record RefreshCounts : Type 0 where
  pub interval : ℕ
  pub ranks : ℕ
  pub issued : List ℕ

-- the counts of ranks of which none has been refreshed
abbrev pub never_refreshed : ℕ → ℕ → RefreshCounts
never_refreshed interval ranks = record { interval = interval; ranks = ranks; issued = replicate 4 0 }

-- the counts with one more refresh of a rank
abbrev pub refreshed : RefreshCounts → ℕ → RefreshCounts
refreshed counts rank = record counts { issued = slice_set counts.issued rank (slice_index counts.issued rank + 1) }

-- how many refreshes of a rank are due: one more after each interval, and one less after each refresh
abbrev pub owed : RefreshCounts → ℕ → ℕ → ℕ
owed counts rank now = if counts.interval == 0 then 0 else now / counts.interval - slice_index counts.issued rank

-- the lowest rank with a refresh that is due
abbrev pub lowest_owed : RefreshCounts → ℕ → Option ℕ
lowest_owed counts now = find (λ rank. nat_lt 0 (owed counts rank now)) (below counts.ranks)

-- the first cycle from now on in which a refresh is due for some rank, given the lowest such rank in each cycle
pub record IsFirstDue (lowest : ℕ → Option ℕ) (now time : ℕ) : Type 0 where
  pub from_now : now ≤ time
  pub due : IsSome (lowest time)
  pub none_before : (cycle : ℕ) → now ≤ cycle → cycle < time → lowest cycle ≡ None

-- whether a cycle is at the one from which on something is due, or after it
abbrev pub is_due_at : Option ℕ → ℕ → Bool
is_due_at None cycle = false
is_due_at (Some first) cycle = nat_le first cycle

-- Of the cycles from now on, something is due in just those from that one on, given how much is due in each cycle.
pub record IsDueFrom (count : ℕ → ℕ) (now : ℕ) (due : Option ℕ) : Type 0 where
  pub from_now : IfSome due (λ first. now ≤ first)
  pub due_at : (cycle : ℕ) → now ≤ cycle → nat_lt 0 (count cycle) ≡ is_due_at due cycle

-- the least number of refreshes that a rank has had
pub record IsFewest (counts : RefreshCounts) (fewest : ℕ) : Type 0 where
  pub at_most : (rank : ℕ) → rank < counts.ranks → fewest ≤ slice_index counts.issued rank
  pub reached : (rank : ℕ) × (rank < counts.ranks) × (slice_index counts.issued rank ≡ fewest)

-- The refreshes that a list of commands has for each rank of a configuration were counted, and no others.
pub record StandsFor (counts : RefreshCounts) (s : Config) (history : List IssuedCommand) : Type 0 where
  pub interval_is : counts.interval ≡ s.timing.n_refi
  pub ranks_are : counts.ranks ≡ s.ranks
  pub issued_are : (rank : ℕ) → rank < s.ranks
      → slice_index counts.issued rank ≡ count_by (λ i. refreshes rank i.command) history

-- a command that refreshes no rank of a configuration
abbrev pub IsNoRefresh : Config → Command → Type 0
IsNoRefresh s command = (rank : ℕ) → rank < s.ranks → refreshes rank command ≡ false

-- the numbers are in their ranges, and the last refresh of each rank that was counted fell due in a cycle below 2^62
pub record IsCountable (counts : RefreshCounts) : Type 0 where
  pub interval_in : counts.interval ≤ 100000
  pub ranks_some : 1 ≤ counts.ranks
  pub ranks_in : counts.ranks ≤ 4
  pub issued_in : (rank : ℕ) → slice_index counts.issued rank * counts.interval < 2 ^ 62

-- the last cycle in which no rank has a refresh that is due, as long as none is issued: the last of the interval that
-- follows those which the rank with the fewest refreshes had, or the last cycle that there is, where there are no
-- refreshes
pub record NoneIsDueTo (counts : RefreshCounts) (none_due_to : ℕ) : Type 0 where
  pub never : counts.interval ≡ 0 → none_due_to ≡ 18446744073709551615
  pub ends : 0 < counts.interval
      → (fewest : ℕ) × IsFewest counts fewest × (none_due_to + 1 ≡ (fewest + 1) * counts.interval)

-- the numbers are in their ranges, and a cycle is the last in which nothing is due
pub record IsCounted (counts : RefreshCounts) (none_due_to : ℕ) : Type 0 where
  pub countable : IsCountable counts
  pub none_is_due_to : NoneIsDueTo counts none_due_to
