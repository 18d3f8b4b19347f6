-- What the rows of the table of requests add up to.
--     rows_of_core s history core      the requests of one core among those of a history
--     rows_of_channel s history channel      the requests of one channel among those of a history
--     CoreAddsUp s traces n core      the rows of a core have the replies and the latency that its statistics say
--     ChannelAddsUp s traces n channel      the rows of a channel have the reads, writes and hits of its statistics
use Rattle.std.specs.Prelude.{◌≡◌, ℕ, ◌==◌, List, filter, count_by, sum_by, is_some}
use Rattle.sim_base.specs.Access.{is_access}
use Rattle.sim_base.specs.declared.config.Config.{Config}
use Rattle.sim_base.specs.Machine.{run}
use Rattle.sim_base.specs.MachineStep.{MachineStep}
use Rattle.sim_base.specs.declared.trace.Entry.{Entry}
use Rattle.statistics.specs.Runs.{stats_of_core, stats_of_channel}
use Rattle.request_table.specs.Requests.{requests_of, reply_latency}
use Rattle.sim_base.specs.declared.message.Access.TheVariants.{Read, Write}
use Rattle.request_table.specs.declared.times.RequestTimes.{RequestTimes}

-- the requests of one core among those of a history
abbrev pub rows_of_core : Config → List MachineStep → ℕ → List RequestTimes
rows_of_core s history core = filter (λ row. row.core == core) (requests_of s history)

-- the requests of one channel
abbrev pub rows_of_channel : Config → List MachineStep → ℕ → List RequestTimes
rows_of_channel s history channel = filter (λ row. row.channel == channel) (requests_of s history)

-- the rows of a core have as many replies, and waited as long, as its statistics say
pub record CoreAddsUp (s : Config) (traces : List (List Entry)) (n core : ℕ) : Type 0 where
  pub replies : count_by (λ row. is_some row.replied) (rows_of_core s (run s traces n) core)
      ≡ (stats_of_core s traces (run s traces n) core).replies
  pub read_latency : sum_by reply_latency (rows_of_core s (run s traces n) core)
      ≡ (stats_of_core s traces (run s traces n) core).read_latency

-- the rows of a channel are as many reads, writes and hits as its statistics say
pub record ChannelAddsUp (s : Config) (traces : List (List Entry)) (n channel : ℕ) : Type 0 where
  pub reads : count_by (λ row. is_access Read row.access) (rows_of_channel s (run s traces n) channel)
      ≡ (stats_of_channel s traces (run s traces n) channel).rd
  pub writes : count_by (λ row. is_access Write row.access) (rows_of_channel s (run s traces n) channel)
      ≡ (stats_of_channel s traces (run s traces n) channel).wr
  pub hits : count_by (λ row. row.hit) (rows_of_channel s (run s traces n) channel)
      ≡ (stats_of_channel s traces (run s traces n) channel).hits
