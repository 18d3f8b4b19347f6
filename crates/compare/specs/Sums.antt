-- Sums over the channels and the cores of a run, its least and its greatest.
--     saturated n      a number of 128 bits
--     channel_sum count channels, core_sum count cores      a count of all of them
--     least_retired cores, greatest_retired cores      the entries of the core that retired the fewest, and the most
--     longest_queue channels      the greatest length of a queue
--     ever_drains channels      some channel drains its writes
--     channel_cycles run      the cycles of all channels
use Rattle.std.specs.Prelude.{ℕ, ◌+◌, ◌-◌, ◌*◌, ◌^◌, min, max, Bool, List, [], ◌∷◌, fold, length, is_some}
use Rattle.std.specs.List.{list_any, sum_by}
use Rattle.std.specs.Option.{unwrap_or}
use Rattle.statistics.specs.Values.{RunStats}
use Rattle.statistics.specs.declared.channels.ChannelStats.{ChannelStats}
use Rattle.statistics.specs.declared.cores.CoreStats.{CoreStats}
use Rattle.compare.specs.declared.sums.ChannelCount.{ChannelCount}
use Rattle.compare.specs.declared.sums.ChannelCount.TheVariants.{Rds, Wrs, Moves, Hits, Queued, Due, Drained}
use Rattle.compare.specs.declared.sums.CoreCount.{CoreCount}
use Rattle.compare.specs.declared.sums.CoreCount.TheVariants.{Retired, Latency, Replies}

-- a greater number than 2^128 - 1 counts as that
abbrev pub saturated : ℕ → ℕ
saturated n = min n (2 ^ 128 - 1)

abbrev pub count_of_channel : ChannelCount → ChannelStats → ℕ
count_of_channel Rds channel = channel.rd
count_of_channel Wrs channel = channel.wr
count_of_channel Moves channel = channel.rd + channel.wr
count_of_channel Hits channel = channel.hits
count_of_channel Queued channel = channel.queued
count_of_channel Due channel = channel.refreshing
count_of_channel Drained channel = unwrap_or channel.draining 0

abbrev pub count_of_core : CoreCount → CoreStats → ℕ
count_of_core Retired core = core.retired
count_of_core Latency core = core.read_latency
count_of_core Replies core = core.replies

-- a count of all channels
abbrev pub channel_sum : ChannelCount → List ChannelStats → ℕ
channel_sum count channels = saturated (sum_by (count_of_channel count) channels)

-- a count of all cores
abbrev pub core_sum : CoreCount → List CoreStats → ℕ
core_sum count cores = saturated (sum_by (count_of_core count) cores)

abbrev pub first_retired : List CoreStats → ℕ
first_retired [] = 0
first_retired (core ∷ cores) = core.retired

-- the entries of the core that retired the fewest; 0 for no cores
abbrev pub least_retired : List CoreStats → ℕ
least_retired cores = fold (λ least core. min least core.retired) (first_retired cores) cores

-- the entries of the core that retired the most
abbrev pub greatest_retired : List CoreStats → ℕ
greatest_retired cores = fold (λ most core. max most core.retired) 0 cores

-- the greatest length of a queue
abbrev pub longest_queue : List ChannelStats → ℕ
longest_queue channels = fold (λ most channel. max most channel.queued_max) 0 channels

-- some channel drains its writes
abbrev pub ever_drains : List ChannelStats → Bool
ever_drains channels = list_any (λ channel. is_some channel.draining) channels

-- the cycles of all channels
abbrev pub channel_cycles : RunStats → ℕ
channel_cycles run = saturated (run.cycles * length run.channels)
