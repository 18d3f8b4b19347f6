-- How long reads took, from their issue to their reply.
--     latency request      how long a read took, if its reply came in the run
--     read_latencies requests      the same of each read whose reply came
--     of_core core requests      the requests of a core
--     AreLatencies values found      the percentiles of these values
--     AreLatenciesOf requests found      those of the latencies of the reads whose reply came, if there is one
use Rattle.std.specs.Prelude.{◌≡◌, ℕ, ◌-◌, ◌==◌, List, [], length, filter, Option, option_map, MatchOption}
use Rattle.std.specs.List.{filter_map}
use Rattle.measures.specs.Percentile.{IsPercentile}
use Rattle.request_table.specs.declared.times.RequestTimes.{RequestTimes}
use Rattle.measures.specs.declared.request_measures.latency.Latencies.{Latencies}

-- how long a read took from its issue to its reply, if that came in the run; a write has no reply
abbrev pub latency : RequestTimes → Option ℕ
latency request = option_map (λ replied. replied - request.issued) request.replied

-- how long each read took from its issue to its reply, of those whose reply came in the run
unfoldable pub read_latencies : List RequestTimes → List ℕ
read_latencies requests = filter_map latency requests

-- the requests of a core
unfoldable pub of_core : ℕ → List RequestTimes → List RequestTimes
of_core core requests = filter (λ request. request.core == core) requests

-- how many values there are, and their percentiles by the nearest rank
pub record AreLatencies (values : List ℕ) (found : Latencies) : Type 0 where
  pub count : found.replies ≡ length values
  pub median_is : IsPercentile values 50 found.median
  pub p95_is : IsPercentile values 95 found.p95
  pub p99_is : IsPercentile values 99 found.p99
  pub greatest_is : IsPercentile values 100 found.greatest

-- those of the latencies of the reads whose reply came; none where no reply came
abbrev pub AreLatenciesOf : List RequestTimes → Option Latencies → Type 0
AreLatenciesOf requests found =
    MatchOption found (read_latencies requests ≡ []) (AreLatencies (read_latencies requests))
