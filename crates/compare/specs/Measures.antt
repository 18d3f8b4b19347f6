-- What is compared.
--     value_of measure run      what a run has of a measure, in billionths
--     decimals_of measure      how many decimals it is shown with
--     label_of measure      what stands before its line
use Rattle.std.specs.Prelude.{ℕ, ◌*◌, List, codes, Option, None, if◌then◌else◌}
use Rattle.statistics.specs.Values.{RunStats}
use Rattle.compare.specs.Quotients.{quotient, share}
use Rattle.compare.specs.Sums.{channel_sum, core_sum, least_retired, greatest_retired, longest_queue, ever_drains, channel_cycles}
use Rattle.compare.specs.declared.sums.ChannelCount.{ChannelCount}
use Rattle.compare.specs.declared.sums.ChannelCount.TheVariants.{Rds, Wrs, Moves, Hits, Queued, Due, Drained}
use Rattle.compare.specs.declared.sums.CoreCount.TheVariants.{Retired, Latency, Replies}
use Rattle.compare.specs.declared.compared.Measure.{Measure}
use Rattle.compare.specs.declared.compared.Measure.TheVariants.{Cycles, Rate, LeastRate, GreatestRate, Reads, Writes, RowHits, DataBus, ReadLatency, QueueMean, QueueMax, RefreshDue, Drain, MostGained, MostLost}
use Rattle.compare.specs.declared.compared.Decimals.{Decimals}
use Rattle.compare.specs.declared.compared.Decimals.TheVariants.{Zero, One, Three}

-- the share of the cycles of all channels that is a count of theirs
unfoldable pub share_of_cycles : ChannelCount → RunStats → Option ℕ
share_of_cycles count run = share (channel_sum count run.channels) (channel_cycles run)

-- the row hits as a share of the RDs and WRs
unfoldable pub row_hits : RunStats → Option ℕ
row_hits run = share (channel_sum Hits run.channels) (channel_sum Moves run.channels)

-- the cycles in which the data buses were taken, four for each RD and WR, as a share
unfoldable pub data_bus : RunStats → Option ℕ
data_bus run = share (4 * channel_sum Moves run.channels) (channel_cycles run)

-- the mean latency of the reads that were answered
unfoldable pub read_latency : RunStats → Option ℕ
read_latency run = quotient (core_sum Latency run.cores) (core_sum Replies run.cores)

-- the mean length of a queue
unfoldable pub queue_mean : RunStats → Option ℕ
queue_mean run = quotient (channel_sum Queued run.channels) (channel_cycles run)

-- the cycles in which writes were drained, as a share, where some channel ever drains them
unfoldable pub drained : RunStats → Option ℕ
drained run = if ever_drains run.channels then share_of_cycles Drained run else None

-- what a run has of a measure, in billionths; of a core that changed most it has nothing alone
unfoldable pub value_of : Measure → RunStats → Option ℕ
value_of Cycles run = quotient run.cycles 1
value_of Rate run = quotient (core_sum Retired run.cores) run.cycles
value_of LeastRate run = quotient (least_retired run.cores) run.cycles
value_of GreatestRate run = quotient (greatest_retired run.cores) run.cycles
value_of Reads run = quotient (channel_sum Rds run.channels) 1
value_of Writes run = quotient (channel_sum Wrs run.channels) 1
value_of RowHits run = row_hits run
value_of DataBus run = data_bus run
value_of ReadLatency run = read_latency run
value_of QueueMean run = queue_mean run
value_of QueueMax run = quotient (longest_queue run.channels) 1
value_of RefreshDue run = share_of_cycles Due run
value_of Drain run = drained run
value_of MostGained run = None
value_of MostLost run = None

-- how many decimals a measure is shown with
abbrev pub decimals_of : Measure → Decimals
decimals_of Rate = Three
decimals_of LeastRate = Three
decimals_of GreatestRate = Three
decimals_of RowHits = One
decimals_of DataBus = One
decimals_of ReadLatency = One
decimals_of QueueMean = Three
decimals_of RefreshDue = One
decimals_of Drain = One
decimals_of _ = Zero

-- what stands before the line of a measure
unfoldable pub label_of : Measure → List ℕ
label_of Cycles = codes "cycles"
label_of Rate = codes "entries/cycle"
label_of LeastRate = codes "entries/cycle least"
label_of GreatestRate = codes "entries/cycle greatest"
label_of Reads = codes "reads"
label_of Writes = codes "writes"
label_of RowHits = codes "row hits %"
label_of DataBus = codes "data bus %"
label_of ReadLatency = codes "read latency"
label_of QueueMean = codes "queue mean"
label_of QueueMax = codes "queue max"
label_of RefreshDue = codes "refresh due %"
label_of Drain = codes "drain %"
label_of MostGained = codes "core that gained most"
label_of MostLost = codes "core that lost most"
