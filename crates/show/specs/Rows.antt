-- The numbers of channels, of cores and of banks, a row for each.
--     machine_in config      a machine that may be given
--     count number, mean sum count, percent part whole, absent      numbers of a screen
--     time cycles divisor khz, data_rate cycles channel khz      cycles in ns, and data in GB/s, by the clock in kHz
--     time_text khz cycles      the cycles of a run in ns, where the clock is given
--     channel_row, core_row, latency_row, wait_row, bank_row      the numbers of a row, in the order of their headings
--     channel_headings, core_headings, latency_headings, wait_headings, bank_headings      the headings
use Rattle.std.specs.Prelude.{ℕ, ◌+◌, ◌-◌, ◌*◌, ◌^◌, min, List, [], ◌∷◌, ◌++◌, codes, replicate, Option, Some, None, option_map}
use Rattle.std.specs.Borrow.{Bor}
use Rattle.sim_base.specs.declared.config.Config.{Config}
use Rattle.statistics.specs.declared.channels.ChannelStats.{ChannelStats}
use Rattle.statistics.specs.declared.cores.CoreStats.{CoreStats}
use Rattle.request_table.specs.declared.times.RequestTimes.{RequestTimes}
use Rattle.measures.specs.Number.{halves_of, number_text}
use Rattle.measures.specs.Waiting.{channel_waits}
use Rattle.measures.specs.declared.bank_counts.counts.BankCounts.{BankCounts}
use Rattle.measures.specs.declared.number.Number.{Number}
use Rattle.measures.specs.declared.number.NumberForm.TheVariants as form
use Rattle.measures.specs.declared.request_measures.latency.Latencies.{Latencies}
use Rattle.measures.specs.declared.request_measures.waiting.Class.TheVariants.{Reads, Writes, Hits}
use Rattle.measures.specs.declared.request_measures.waiting.Waits.{Waits}

-- a machine that may be given
abbrev pub machine_in : Option (Bor Config) → Option Config
machine_in config = option_map (λ machine. machine.now) config

abbrev pub count : ℕ → Number
count number = record { halves = Some (2000 * number); form = form.Count }

-- a quotient; none where there is nothing to divide by
abbrev pub mean : ℕ → ℕ → Number
mean sum count = record { halves = halves_of sum count; form = form.Mean }

-- a part of a whole, in percent of that
abbrev pub percent : ℕ → ℕ → Number
percent part whole = record { halves = halves_of (100 * part) whole; form = form.Percent }

-- a number that is not there
abbrev pub absent : Number
absent = record { halves = None; form = form.Count }

-- a quotient of cycles, in ns: with a clock of 1 kHz a cycle takes a million
abbrev pub time : ℕ → ℕ → ℕ → Number
time cycles divisor khz = mean (cycles * 1000000) (divisor * khz)

-- a quotient of cycles, in ns, where the clock is given
abbrev pub time_by : Option ℕ → ℕ → ℕ → Number
time_by (Some khz) cycles divisor = time cycles divisor khz
time_by None cycles divisor = absent

-- the data that a channel moved in so many cycles, in GB/s: 64 bytes for each RD and WR, so 15,625 of them are a
-- million bytes, and a kHz is 1,000 cycles a second
abbrev pub data_rate : ℕ → ChannelStats → ℕ → Number
data_rate cycles channel khz = mean ((channel.rd + channel.wr) * khz) (15625 * cycles)

-- the data that a channel moved, in GB/s, where the clock is given
abbrev pub rate_by : Option ℕ → ℕ → ChannelStats → Number
rate_by (Some khz) cycles channel = data_rate cycles channel khz
rate_by None cycles channel = absent

-- the cycles in which a channel drained its writes, where it ever does
abbrev pub drain_of : ℕ → Option ℕ → Number
drain_of cycles (Some part) = percent part cycles
drain_of cycles None = absent

-- the last two numbers of a channel, which are there with a configuration and with a clock: the cycles that its REFs
-- take, nRFC each, and its data rate
abbrev pub more_of_channel : ℕ → ChannelStats → Option Config → Option ℕ → Number × Number
more_of_channel cycles channel (Some machine) khz =
    (percent (channel.refs * machine.timing.n_rfc) cycles, rate_by khz cycles channel)
more_of_channel cycles channel None khz = (rate_by khz cycles channel, absent)

-- headings that are there where the clock is given
abbrev pub where_clocked : Option ℕ → List (List ℕ) → List (List ℕ)
where_clocked (Some khz) headings = headings
where_clocked None headings = []

-- the headings of the last two numbers of a channel
abbrev pub more_headings : Option Config → Option ℕ → List (List ℕ)
more_headings (Some machine) khz = codes "ref %" ∷ where_clocked khz (codes "GB/s" ∷ [])
more_headings None khz = where_clocked khz (codes "GB/s" ∷ [])

-- the numbers of a channel; the data bus is taken for four cycles by each RD and WR
unfoldable pub channel_row : ℕ → Option Config → Option ℕ → ChannelStats → List Number
channel_row cycles machine khz channel =
    count channel.rd ∷ count channel.wr ∷ percent channel.hits (channel.rd + channel.wr)
    ∷ percent (4 * (channel.rd + channel.wr)) cycles
    ∷ mean channel.queued cycles ∷ count channel.queued_max ∷ percent channel.idle cycles
    ∷ percent channel.refreshing cycles
    ∷ drain_of cycles channel.draining ∷ (more_of_channel cycles channel machine khz).0
    ∷ (more_of_channel cycles channel machine khz).1 ∷ absent ∷ absent ∷ []

-- the cycle in which the last entry of a core retired, and the entries a cycle up to that, where it has finished; more
-- cycles than 2^64 - 1 count as that
abbrev pub finish : ℕ → Option ℕ → Number × Number
finish retired (Some cycle) = (count cycle, mean retired (min (cycle + 1) (2 ^ 64 - 1)))
finish retired None = (absent, absent)

-- the finish in ns
abbrev pub finish_time : Option ℕ → Option ℕ → Number
finish_time khz (Some cycle) = time_by khz cycle 1
finish_time khz None = absent

-- the numbers of a core
unfoldable pub core_row : ℕ → Option ℕ → CoreStats → List Number
core_row cycles khz core =
    count core.retired ∷ mean core.retired cycles ∷ (finish core.retired core.finish).0
    ∷ (finish core.retired core.finish).1
    ∷ count core.reads ∷ mean core.read_latency core.replies ∷ percent core.stop_end cycles
    ∷ percent core.stop_width cycles
    ∷ percent core.stop_window cycles ∷ percent core.stop_memory cycles ∷ percent core.stop_credit cycles
    ∷ finish_time khz core.finish ∷ time_by khz core.read_latency core.replies ∷ []

-- the numbers of read latencies, of which there may be none: how many, percentiles in cycles, and the same in ns
unfoldable pub latency_row : Option ℕ → Option Latencies → List Number
latency_row khz (Some found) =
    count found.replies ∷ count found.median ∷ count found.p95 ∷ count found.p99 ∷ count found.greatest
    ∷ time_by khz found.median 1 ∷ time_by khz found.p95 1 ∷ time_by khz found.p99 1 ∷ time_by khz found.greatest 1
    ∷ replicate 4 absent
latency_row khz None = count 0 ∷ replicate 12 absent

-- how many requests of a class there are, and how long they waited on average
abbrev pub mean_wait : Waits → Number
mean_wait waits = mean waits.cycles waits.requests

abbrev pub wait_time : Option ℕ → Waits → Number
wait_time khz waits = time_by khz waits.cycles waits.requests

-- the numbers of reads, of writes and of row hits
abbrev pub row_of_waits : Option ℕ → Waits → Waits → Waits → List Number
row_of_waits khz reads writes hits =
    count reads.requests ∷ mean_wait reads ∷ count writes.requests ∷ mean_wait writes ∷ count hits.requests
    ∷ mean_wait hits
    ∷ wait_time khz reads ∷ wait_time khz writes ∷ wait_time khz hits ∷ replicate 4 absent

-- the waits of a channel
unfoldable pub wait_row : List RequestTimes → Option ℕ → ℕ → List Number
wait_row requests khz channel =
    row_of_waits khz (channel_waits Reads channel requests) (channel_waits Writes channel requests)
    (channel_waits Hits channel requests)

-- the numbers of a bank
abbrev pub bank_row : BankCounts → List Number
bank_row counts =
    count counts.acts ∷ count counts.reads ∷ count counts.writes ∷ count counts.precharges
    ∷ percent counts.hits (counts.reads + counts.writes) ∷ count counts.conflicts ∷ []

-- the cycles of a run in ns, as a line of its own
abbrev pub time_text : Option ℕ → ℕ → List ℕ
time_text (Some khz) cycles = codes "\nThe cycles take " ++ number_text (time cycles 1 khz) ++ codes " ns\n"
time_text None cycles = []

-- the headings of a channel's numbers
abbrev pub channel_headings : Option Config → Option ℕ → List (List ℕ)
channel_headings machine khz =
    codes "rd" ∷ codes "wr" ∷ codes "hits %" ∷ codes "bus %" ∷ codes "queue mean" ∷ codes "queue max" ∷ codes "idle %"
    ∷ codes "refresh due %" ∷ codes "drain %"
    ∷ more_headings machine khz

-- the headings of a core's numbers
abbrev pub core_headings : Option ℕ → List (List ℕ)
core_headings khz =
    codes "retired" ∷ codes "per cycle" ∷ codes "finish" ∷ codes "by then" ∷ codes "reads" ∷ codes "latency"
    ∷ codes "end" ∷ codes "width"
    ∷ codes "window" ∷ codes "memory" ∷ codes "credit" ∷ where_clocked khz (codes "finish ns" ∷ codes "latency ns" ∷ [])

-- the headings of read latencies
abbrev pub latency_headings : Option ℕ → List (List ℕ)
latency_headings khz =
    codes "replies" ∷ codes "p50" ∷ codes "p95" ∷ codes "p99" ∷ codes "max"
    ∷ where_clocked khz (codes "p50 ns" ∷ codes "p95 ns" ∷ codes "p99 ns" ∷ codes "max ns" ∷ [])

-- the headings of waits
abbrev pub wait_headings : Option ℕ → List (List ℕ)
wait_headings khz =
    codes "reads" ∷ codes "mean wait" ∷ codes "writes" ∷ codes "mean wait" ∷ codes "hits" ∷ codes "mean wait"
    ∷ where_clocked khz (codes "reads ns" ∷ codes "writes ns" ∷ codes "hits ns" ∷ [])

-- the headings of a bank's numbers
abbrev pub bank_headings : List (List ℕ)
bank_headings = codes "act" ∷ codes "rd" ∷ codes "wr" ∷ codes "pre" ∷ codes "hits %" ∷ codes "conflicts" ∷ []
