-- What is counted of requests, and stands in the statistics of a run too.
--     part tally request      what a request adds to a count
--     amount tally requests      the count over requests
--     told tally stats      what the statistics have of it
use Rattle.std.specs.Prelude.{ℕ, ◌==◌, List, slice_get, Option, Some, None, if◌then◌else◌}
use Rattle.std.specs.List.{sum_by}
use Rattle.sim_base.specs.declared.message.Access.{Access}
use Rattle.sim_base.specs.declared.message.Access.TheVariants.{Read, Write}
use Rattle.request_table.specs.declared.times.RequestTimes.{RequestTimes}
use Rattle.statistics.specs.Values.{RunStats}
use Rattle.measures.specs.declared.request_check.tally.Tally.{Tally}
use Rattle.measures.specs.declared.request_check.tally.Tally.TheVariants.{Replies, ReadLatency, Reads, Writes, Hits}
use Rattle.request_table.specs.Requests.{reply_latency}

-- one for a request whose reply came
abbrev pub one_if_came : Option ℕ → ℕ
one_if_came (Some cycle) = 1
one_if_came None = 0

abbrev pub replies : RequestTimes → ℕ
replies request = one_if_came request.replied

abbrev pub one_if_read : Access → ℕ
one_if_read Read = 1
one_if_read Write = 0

abbrev pub reads : RequestTimes → ℕ
reads request = one_if_read request.access

abbrev pub one_if_write : Access → ℕ
one_if_write Read = 0
one_if_write Write = 1

abbrev pub writes : RequestTimes → ℕ
writes request = one_if_write request.access

abbrev pub hits : RequestTimes → ℕ
hits request = if request.hit then 1 else 0

-- what a request adds to a count; nothing to that of another unit
abbrev pub part : Tally → RequestTimes → ℕ
part (Replies core) request = if request.core == core then replies request else 0
part (ReadLatency core) request = if request.core == core then reply_latency request else 0
part (Reads channel) request = if request.channel == channel then reads request else 0
part (Writes channel) request = if request.channel == channel then writes request else 0
part (Hits channel) request = if request.channel == channel then hits request else 0

-- the count over requests
abbrev pub amount : Tally → List RequestTimes → ℕ
amount tally requests = sum_by (part tally) requests

-- a count of a unit that may not be there
abbrev pub count_of : {A : Type 0} → (A → ℕ) → Option A → ℕ
count_of count (Some unit) = count unit
count_of count None = 0

-- what the statistics have of it
abbrev pub told : Tally → RunStats → ℕ
told (Replies core) stats = count_of (λ c. c.replies) (slice_get stats.cores core)
told (ReadLatency core) stats = count_of (λ c. c.read_latency) (slice_get stats.cores core)
told (Reads channel) stats = count_of (λ c. c.rd) (slice_get stats.channels channel)
told (Writes channel) stats = count_of (λ c. c.wr) (slice_get stats.channels channel)
told (Hits channel) stats = count_of (λ c. c.hits) (slice_get stats.channels channel)
