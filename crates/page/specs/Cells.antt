-- The numbers of tables of a page.
--     share_in part whole units      a share of a whole that has so many units, if there is anything to divide by
--     data_rate cycles channel khz, time cycles divisor khz      data in GB/s, and cycles in ns, by the clock in kHz
use Rattle.std.specs.Prelude.{ℕ, ◌+◌, ◌-◌, ◌*◌, ◌/◌, ◌^◌, ◌==◌, min, Option, Some, None, if◌then◌else◌}
use Rattle.statistics.specs.declared.channels.ChannelStats.{ChannelStats}
use Rattle.page.specs.declared.run_pictures.cells.Cell.{Cell}
use Rattle.page.specs.declared.run_pictures.cells.CellForm.{CellForm}
use Rattle.page.specs.declared.run_pictures.cells.CellForm.TheVariants.{Count, Tenths, Hundredths}

-- a share of a whole that has so many units, rounded half up; it saturates at 2^64 - 1
abbrev pub share_in : ℕ → ℕ → ℕ → Option ℕ
share_in part whole units = if whole == 0 then None else Some (min ((part * units + whole / 2) / whole) (2 ^ 64 - 1))

abbrev pub count : ℕ → Cell
count number = record { form = Count; number = Some number }

abbrev pub quotient : CellForm → ℕ → ℕ → ℕ → Cell
quotient form part whole units = record { form = form; number = share_in part whole units }

-- a part of a whole, in tenths of a percent
abbrev pub percent : ℕ → ℕ → Cell
percent part whole = quotient Tenths part whole 1000

-- a number that is not there
abbrev pub absent : CellForm → Cell
absent form = record { form = form; number = None }

-- the cycles in which a channel drained its writes, where they are counted
abbrev pub drain_of : ℕ → Option ℕ → Cell
drain_of cycles (Some drained) = percent drained cycles
drain_of cycles None = absent Tenths

-- a rate or a time, whose divisor counts as 2^64 - 1 where it is greater
abbrev pub rate : CellForm → ℕ → ℕ → ℕ → Cell
rate form dividend divisor units = quotient form dividend (min divisor (2 ^ 64 - 1)) units

-- the data that a channel moved in so many cycles, in hundredths of a GB/s
abbrev pub data_rate : ℕ → ChannelStats → ℕ → Cell
data_rate cycles channel khz =
    rate Hundredths (min ((channel.rd + channel.wr) * khz) (2 ^ 128 - 1)) (15625 * cycles) 100

-- a quotient of cycles, in tenths of a ns
abbrev pub time : ℕ → ℕ → ℕ → Cell
time cycles divisor khz = rate Tenths (min (cycles * 1000000) (2 ^ 128 - 1)) (divisor * khz) 10

-- the finish of a core in ns, if it has finished
abbrev pub finish_time : Option ℕ → ℕ → Cell
finish_time (Some cycle) khz = time cycle 1 khz
finish_time None khz = absent Tenths
