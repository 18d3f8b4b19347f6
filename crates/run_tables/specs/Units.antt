-- What the reader of statistics makes of the records of a unit, and of a table.
--     number_at table row scope id counter      the number of a counter, which must stand in a row
--     numbers_at table row scope id counters      the numbers of counters, one row after the other
--     core_at, channel_at table row id      the counts of a unit, from a row on, or the fault of a wrong row
--     AreRead unit_at size row id units end      from a row on, these units are read, one after the other
--     CoresAre table cores row, CoresStop table fault      the cores are read, or one of them is wrong
--     ChannelsAre table row channels, ChannelsStop table row fault      the same of the channels
--     IsRead table stats      the whole table is read
use Rattle.std.specs.Prelude.{◌≡◌, ℕ, ◌+◌, ◌*◌, ◌≤◌, ◌==◌, nat_lt, Bool, true, false, ◌||◌, List, [], ◌∷◌, length, slice_get, codes, Option, Some, None, Result, Ok, Err, if◌then◌else◌}
use Rattle.sim_base.specs.declared.fault.Fault.{Fault}
use Rattle.statistics.specs.Channels.{channel_counters, channel_of}
use Rattle.statistics.specs.Cores.{core_counters, core_of}
use Rattle.statistics.specs.Values.{RunStats}
use Rattle.statistics.specs.declared.channels.ChannelStats.{ChannelStats}
use Rattle.statistics.specs.declared.cores.CoreStats.{CoreStats}
use Rattle.statistics.specs.declared.counters.CounterKind.{CounterKind}
use Rattle.sim_base.specs.TraceText.{◌>>=◌}
use Rattle.run_tables.specs.Lines.{number_in, count_in, has_text, is_header_row}

-- a count of a row
abbrev pub count_at : List (List (List ℕ)) → ℕ → List ℕ → ℕ → List ℕ → Result ℕ Fault
count_at table row scope id name = count_in row scope id name (slice_get table row)

-- the number of a counter of a unit
abbrev pub number_at : List (List (List ℕ)) → ℕ → List ℕ → ℕ → List ℕ × CounterKind → Result (Option ℕ) Fault
number_at table row scope id counter = number_in counter.1 row scope id counter.0 (slice_get table row)

-- the numbers of a unit's counters, one after the other
unfoldable pub numbers_at : List (List (List ℕ)) → ℕ → List ℕ → ℕ → List (List ℕ × CounterKind)
    → Result (List (Option ℕ)) Fault
numbers_at table row scope id [] = Ok []
numbers_at table row scope id (counter ∷ counters) = do
  number ← number_at table row scope id counter
  numbers ← numbers_at table (row + 1) scope id counters
  Ok (number ∷ numbers)

-- how many records a core has
abbrev pub core_records : ℕ
core_records = length core_counters

abbrev pub core_size : CoreStats → ℕ
core_size core = core_records

-- the counts of a core
unfoldable pub core_at : List (List (List ℕ)) → ℕ → ℕ → Result CoreStats Fault
core_at table row id = numbers_at table row (codes "core") id core_counters >>= (λ numbers. Ok (core_of numbers))

-- the count of cycles in which a channel drained its writes, if the record is that
unfoldable pub draining_in : ℕ → ℕ → Option (List (List ℕ)) → Result (Option ℕ) Fault
draining_in row id line =
    if has_text 2 (codes "draining") line
    then count_in row (codes "channel") id (codes "draining") line >>= (λ count. Ok (Some count))
    else Ok None

abbrev pub draining_at : List (List (List ℕ)) → ℕ → ℕ → Result (Option ℕ) Fault
draining_at table row id = draining_in row id (slice_get table row)

-- how many records each channel has; one more tells how long it drained its writes
abbrev pub channel_records : ℕ
channel_records = length channel_counters

-- the counts of a channel
unfoldable pub channel_at : List (List (List ℕ)) → ℕ → ℕ → Result ChannelStats Fault
channel_at table row id = do
  numbers ← numbers_at table row (codes "channel") id channel_counters
  draining ← draining_at table (row + channel_records) id
  Ok (channel_of numbers draining)

-- how many records a channel has
abbrev pub draining_size : Option ℕ → ℕ
draining_size None = channel_records
draining_size (Some count) = channel_records + 1

abbrev pub channel_size : ChannelStats → ℕ
channel_size channel = draining_size channel.draining

-- from a row on, these units are read, one after the other, with numbers from this one on, up to the row at the end
abbrev pub AreRead : {A : Type 0} → (ℕ → ℕ → Result A Fault) → (A → ℕ) → ℕ → ℕ → List A → ℕ → Type 0
AreRead unit_at size row id [] end = end ≡ row
AreRead unit_at size row id (unit ∷ units) end =
    (unit_at row id ≡ Ok unit) × AreRead unit_at size (row + size unit) (id + 1) units end

-- a core must follow, after this many: there is at least one, and another where the row is one of a core
abbrev pub has_core : ℕ → List (List (List ℕ)) → ℕ → Bool
has_core count table row = (count == 0) || has_text 0 (codes "core") (slice_get table row)

-- a channel must follow, after this many: there is at least one, and they end the table
abbrev pub has_channel : ℕ → List (List (List ℕ)) → ℕ → Bool
has_channel count table row = (count == 0) || nat_lt row (length table)

-- some cores were read, after the header and the cycles
pub record SomeCores (table : List (List (List ℕ))) (cores : List CoreStats) (row : ℕ) : Type 0 where
  pub read : AreRead (core_at table) core_size 2 0 cores row
  pub end : row ≡ 2 + core_records * length cores
  pub within : row ≤ length table

-- all of them were read
pub record CoresAre (table : List (List (List ℕ))) (cores : List CoreStats) (row : ℕ) : Type 0 where
  pub some : SomeCores table cores row
  pub ends : has_core (length cores) table row ≡ false

-- one of them is wrong
pub record CoresStop (table : List (List (List ℕ))) (fault : Fault) : Type 0 where
  pub cores : List CoreStats
  pub row : ℕ
  pub some : SomeCores table cores row
  pub goes : has_core (length cores) table row ≡ true
  pub stops : core_at table row (length cores) ≡ Err fault

-- some channels were read, from a row on
pub record SomeChannels (table : List (List (List ℕ))) (start : ℕ) (channels : List ChannelStats) (row : ℕ) : Type 0 where
  pub read : AreRead (channel_at table) channel_size start 0 channels row
  pub within : row ≤ length table

-- all of them were read
pub record ChannelsAre (table : List (List (List ℕ))) (start : ℕ) (channels : List ChannelStats) : Type 0 where
  pub row : ℕ
  pub some : SomeChannels table start channels row
  pub ends : has_channel (length channels) table row ≡ false

-- one of them is wrong
pub record ChannelsStop (table : List (List (List ℕ))) (start : ℕ) (fault : Fault) : Type 0 where
  pub channels : List ChannelStats
  pub row : ℕ
  pub some : SomeChannels table start channels row
  pub goes : has_channel (length channels) table row ≡ true
  pub stops : channel_at table row (length channels) ≡ Err fault

-- the whole table is read
pub record IsRead (table : List (List (List ℕ))) (stats : RunStats) : Type 0 where
  pub header : is_header_row (slice_get table 0) ≡ true
  pub cycles : count_at table 1 (codes "run") 0 (codes "cycles") ≡ Ok stats.cycles
  pub row : ℕ
  pub cores : CoresAre table stats.cores row
  pub channels : ChannelsAre table row stats.channels
