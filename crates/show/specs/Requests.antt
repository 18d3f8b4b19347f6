-- What the screen has of the requests of a run.
--     latencies_head replies, waits_head requests      the lines above the two tables
--     replies_of found      how many replies percentiles are of
--     IsLatencyRow khz requests row, AreLatencyRows khz requests cores rows      the numbers of read latencies
--     AreLatencyLines, AreWaitLines requests options .. text      the two tables
--     AreRequests requests options cores channels text      how long reads took and requests waited
use Rattle.std.specs.Prelude.{◌≡◌, ℕ, ◌<◌, List, [], ◌++◌, length, map, slice_index_or, codes, decimal, Option, Some, None}
use Rattle.sim_base.specs.History.{below}
use Rattle.measures.specs.Latency.{read_latencies, of_core, AreLatenciesOf}
use Rattle.measures.specs.declared.number.Number.{Number}
use Rattle.measures.specs.declared.request_measures.latency.Latencies.{Latencies}
use Rattle.request_table.specs.declared.times.RequestTimes.{RequestTimes}
use Rattle.show.specs.Rows.{latency_headings, latency_row, wait_headings, wait_row}
use Rattle.show.specs.Screen.{IsBelow}
use Rattle.show.specs.Tables.{IsTable, row_text}
use Rattle.show.specs.declared.options.Options.{Options}

-- the lines above the read latencies, which say how many replies came
abbrev pub latencies_head : ℕ → List ℕ
latencies_head replies =
    codes "\nRead latency (" ++ decimal replies ++ codes " replies): cycles from issue to reply, by the nearest rank\n"

-- the lines above the waits, which say how many requests were served
abbrev pub waits_head : ℕ → List ℕ
waits_head requests =
    codes "\nQueues (" ++ decimal requests ++ codes " requests): mean cycles from arrival to RD or WR\n"

-- how many replies percentiles are of
abbrev pub replies_of : Option Latencies → ℕ
replies_of (Some found) = found.replies
replies_of None = 0

-- the numbers of the read latencies of some requests
pub record IsLatencyRow (khz : Option ℕ) (requests : List RequestTimes) (row : List Number) : Type 0 where
  pub found : Option Latencies
  pub found_is : AreLatenciesOf requests found
  pub row_is : row ≡ latency_row khz found

-- those of each core, a row for each
pub record AreLatencyRows (khz : Option ℕ) (requests : List RequestTimes) (cores : ℕ) (rows : List (List Number))
    : Type 0 where
  pub count : length rows ≡ cores
  pub each : (core : ℕ) → core < cores → IsLatencyRow khz (of_core core requests) (slice_index_or rows core [])

-- the table of read latencies: a line for each core, or their summary, and last one for all requests
pub record AreLatencyLines (requests : List RequestTimes) (options : Options) (cores : ℕ) (text : List ℕ) : Type 0 where
  pub rows : List (List Number)
  pub all : List Number
  pub table : List ℕ
  pub rows_are : AreLatencyRows options.khz requests cores rows
  pub all_is : IsLatencyRow options.khz requests all
  pub table_is : IsTable (codes "core") (latency_headings options.khz) options.all rows table
  pub text_is : text ≡ table ++ row_text (latency_headings options.khz) (codes "all") all

-- the table of waits: a line for each channel, or their summary
abbrev pub AreWaitLines : List RequestTimes → Options → ℕ → List ℕ → Type 0
AreWaitLines requests options channels text =
    IsTable (codes "channel") (wait_headings options.khz) options.all
    (map (wait_row requests options.khz) (below channels)) text

-- the read latencies of a run of so many cores and channels, below how many replies came, and the waits, below how many
-- requests were served
pub record AreRequests (requests : List RequestTimes) (options : Options) (cores channels : ℕ) (text : List ℕ)
    : Type 0 where
  pub latencies : List ℕ
  pub waits : List ℕ
  pub latencies_are : IsBelow (latencies_head (length (read_latencies requests)))
      (AreLatencyLines requests options cores) latencies
  pub waits_are : IsBelow (waits_head (length requests)) (AreWaitLines requests options channels) waits
  pub text_is : text ≡ latencies ++ waits
