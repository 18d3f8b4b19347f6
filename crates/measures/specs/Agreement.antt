-- Requests and statistics that agree.
--     IsOfRun stats request      the run has the core, the channel and the cycles of a request
--     IsOfRunAt stats requests place      the same of the request at this place, if there is one
--     IsTold tally stats requests      a count is that of the statistics
--     AreOfRun stats requests      all are, and each request is of the run
--     IsFirstStranger stats requests place      the first request that is not of the run
--     IsNextOfRun stats requests tally      each request is of the run, and the counts that are tested before are told
--     IsOtherCount is_so stats requests mismatch      a count of which this is true is not that of the statistics
--     IsMismatch stats requests mismatch      why requests are not those of the run
--     row_of mismatch requests      the row at fault
use Rattle.std.specs.Prelude.{◌≡◌, ◌⊎◌, ℕ, ◌+◌, ◌<◌, ◌≤◌, ⊤, List, length, take, slice_get, Option, Some, None, IfSome, IsSomeAnd}
use Rattle.request_table.specs.declared.times.RequestTimes.{RequestTimes}
use Rattle.statistics.specs.Values.{RunStats}
use Rattle.measures.specs.Tally.{amount, told}
use Rattle.measures.specs.declared.request_check.tally.Tally.{Tally}
use Rattle.measures.specs.declared.request_check.tally.Tally.TheVariants.{Replies, ReadLatency, Reads, Writes, Hits}
use Rattle.measures.specs.declared.request_check.agreement.Mismatch.{Mismatch}
use Rattle.measures.specs.declared.request_check.agreement.Mismatch.TheVariants.{Stranger, Excess, Lack}

-- a reply came in a cycle of the run, if it came
abbrev pub IsReplyOfRun : ℕ → Option ℕ → Type 0
IsReplyOfRun cycles (Some cycle) = cycle < cycles
IsReplyOfRun cycles None = ⊤

-- the run has the core, the channel and the cycles of a request
abbrev pub IsOfRun : RunStats → RequestTimes → Type 0
IsOfRun stats request =
    (request.core < length stats.cores) × (request.channel < length stats.channels) × (request.served < stats.cycles)
    × IsReplyOfRun stats.cycles request.replied

-- the request at this place, if there is one, is of the run
abbrev pub IsOfRunAt : RunStats → List RequestTimes → ℕ → Type 0
IsOfRunAt stats requests place = IfSome (slice_get requests place) (IsOfRun stats)

-- a count over the requests is that of the statistics
abbrev pub IsTold : Tally → RunStats → List RequestTimes → Type 0
IsTold tally stats requests = amount tally requests ≡ told tally stats

-- as many replies of a core came, and took as long
pub record IsCoreOfRun (stats : RunStats) (requests : List RequestTimes) (core : ℕ) : Type 0 where
  pub replies : IsTold (Replies core) stats requests
  pub read_latency : IsTold (ReadLatency core) stats requests

-- a channel served as many reads and writes, and as many were row hits
pub record IsChannelOfRun (stats : RunStats) (requests : List RequestTimes) (channel : ℕ) : Type 0 where
  pub reads : IsTold (Reads channel) stats requests
  pub writes : IsTold (Writes channel) stats requests
  pub hits : IsTold (Hits channel) stats requests

-- each request is of the run, and the counts of each core and each channel are those of the statistics
pub record AreOfRun (stats : RunStats) (requests : List RequestTimes) : Type 0 where
  pub rows : (place : ℕ) → IsOfRunAt stats requests place
  pub cores : (core : ℕ) → core < length stats.cores → IsCoreOfRun stats requests core
  pub channels : (channel : ℕ) → channel < length stats.channels → IsChannelOfRun stats requests channel

-- the request at this place is not of the run, and those before it are
pub record IsFirstStranger (stats : RunStats) (requests : List RequestTimes) (place : ℕ) : Type 0 where
  pub strange : IsSomeAnd (slice_get requests place) (λ request. ¬ IsOfRun stats request)
  pub before : (earlier : ℕ) → earlier < place → IsOfRunAt stats requests earlier

-- with the request at this place a count is too much, and before it is not
pub record IsExcess (tally : Tally) (stats : RunStats) (requests : List RequestTimes) (place : ℕ) : Type 0 where
  pub within : place < length requests
  pub fits : amount tally (take place requests) ≤ told tally stats
  pub exceeds : told tally stats < amount tally (take (place + 1) requests)

-- a count of this core, where those of the core that are tested before it are told: the replies, then the read latency
abbrev pub IsNextOfCore : RunStats → List RequestTimes → ℕ → Tally → Type 0
IsNextOfCore stats requests core (Replies unit) = unit ≡ core
IsNextOfCore stats requests core (ReadLatency unit) = (unit ≡ core) × IsTold (Replies core) stats requests
IsNextOfCore stats requests core _ = ⊥

-- a count of this channel, where those of the channel that are tested before it are told: the reads, then the writes,
-- then the row hits
abbrev pub IsNextOfChannel : RunStats → List RequestTimes → ℕ → Tally → Type 0
IsNextOfChannel stats requests channel (Reads unit) = unit ≡ channel
IsNextOfChannel stats requests channel (Writes unit) = (unit ≡ channel) × IsTold (Reads channel) stats requests
IsNextOfChannel stats requests channel (Hits unit) =
    (unit ≡ channel) × IsTold (Reads channel) stats requests × IsTold (Writes channel) stats requests
IsNextOfChannel stats requests channel _ = ⊥

-- a count of a core, where those of the cores before it and those of the core that are tested before it are told
pub record IsNextOfCores (stats : RunStats) (requests : List RequestTimes) (tally : Tally) : Type 0 where
  pub core : ℕ
  pub within : core < length stats.cores
  pub cores : (earlier : ℕ) → earlier < core → IsCoreOfRun stats requests earlier
  pub next : IsNextOfCore stats requests core tally

-- a count of a channel, where those of the channels before it and those of the channel that are tested before it are
-- told
pub record IsNextOfChannels (stats : RunStats) (requests : List RequestTimes) (tally : Tally) : Type 0 where
  pub channel : ℕ
  pub within : channel < length stats.channels
  pub channels : (earlier : ℕ) → earlier < channel → IsChannelOfRun stats requests earlier
  pub next : IsNextOfChannel stats requests channel tally

-- a count of a channel, where those of all cores and those of channels that are tested before it are told
pub record IsNextAfterCores (stats : RunStats) (requests : List RequestTimes) (tally : Tally) : Type 0 where
  pub cores : (core : ℕ) → core < length stats.cores → IsCoreOfRun stats requests core
  pub next : IsNextOfChannels stats requests tally

-- each request is of the run, and each count that is tested before this one is told: those of the cores come before
-- those of the channels
pub record IsNextOfRun (stats : RunStats) (requests : List RequestTimes) (tally : Tally) : Type 0 where
  pub rows : (place : ℕ) → IsOfRunAt stats requests place
  pub next : IsNextOfCores stats requests tally ⊎ IsNextAfterCores stats requests tally

-- a count of which this is true is not that of the statistics: with the request at this place it is too much, or in all
-- it is too little
abbrev pub IsOtherCount : (Tally → Type 0) → RunStats → List RequestTimes → Mismatch → Type 0
IsOtherCount is_so stats requests (Stranger place) = ⊥
IsOtherCount is_so stats requests (Excess tally place) = is_so tally × IsExcess tally stats requests place
IsOtherCount is_so stats requests (Lack tally) = is_so tally × (amount tally requests < told tally stats)

-- why requests are not those of the run: the first request that is not of it, or, where all are, the first count that
-- is not that of the statistics
abbrev pub IsMismatch : RunStats → List RequestTimes → Mismatch → Type 0
IsMismatch stats requests (Stranger place) = IsFirstStranger stats requests place
IsMismatch stats requests (Excess tally place) = IsNextOfRun stats requests tally × IsExcess tally stats requests place
IsMismatch stats requests (Lack tally) = IsNextOfRun stats requests tally × (amount tally requests < told tally stats)

-- the row at fault: that of the request, counted from 1, or the first that is missing
abbrev pub row_of : Mismatch → ℕ → ℕ
row_of (Stranger place) requests = place + 1
row_of (Excess tally place) requests = place + 1
row_of (Lack tally) requests = requests + 1
