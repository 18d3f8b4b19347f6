-- A machine whose cores stand at one cycle and whose channels at another, as they go on in turns.
--     AreInTurns machine cores_at channels_at units words links      what holds of such a machine between two turns
--     AreByKind machine kinds      the cores of a machine are at the first places, and its channels at the others
--     all_units kinds, all_words kinds      all units, and all words
--     AllBetweenPhases machine now kinds links      all units wait at a cycle
--     InTurnsAt machine at kinds links      what holds between two turns of a machine that stands at these cycles
--     channels_to, cores_to until at      where a machine stands when one kind has gone on to a cycle
--     links_between machine cores_at channels_at      the links where the cores and the channels stand at these cycles
use Rattle.std.specs.Prelude.{◌≡◌, ℕ, ◌+◌, ◌-◌, ◌<◌, List, ◌++◌, length}
use Rattle.sim_base.specs.declared.message.Unit.TheVariants.{Core, Channel}
use Rattle.links.specs.InFlight.{InFlight}
use Rattle.units.specs.SpanLaws.FlightInTurns.{flight_of}
use Rattle.units.specs.SpanLaws.Sent.{RequestsTravelFor, AnswersTakeFor}
use Rattle.units.specs.Units.{unit_count}
use Rattle.units.specs.declared.machine.Machine.{Machine}
use Rattle.units.specs.Wakes.{AreBetweenPhases, Waits, unit_with_word_at}
use Rattle.units.specs.declared.timed_unit.TimedUnit.{TimedUnit}
use Rattle.in_place.specs.declared.taking_turns.TurnCycles.{TurnCycles}
use Rattle.in_place.specs.declared.taking_turns.UnitsByKind.{UnitsByKind}

-- the links with what is in flight where the cores stand at `cores_at` and the channels at `channels_at`
abbrev pub links_between : Machine → ℕ → ℕ → InFlight
links_between machine cores_at channels_at =
    record {
      channels = machine.config.channels;
      messages = flight_of machine.config machine.traces.items cores_at channels_at;
    }

-- The cores stand at `cores_at` and the channels at `channels_at`, neither further ahead than the least time of a
-- message to them. Each unit waits, as far as is known from where the others stand, and the links hold exactly what is
-- in flight.
pub record AreInTurns (machine : Machine) (cores_at channels_at : ℕ) (units : List TimedUnit) (words : List ℕ)
    (links : InFlight) : Type 0 where
  pub count : length units ≡ unit_count machine.config
  pub words_count : length words ≡ length units
  pub channels_near : RequestsTravelFor machine.config (channels_at - cores_at)
  pub cores_near : AnswersTakeFor machine.config (cores_at - channels_at)
  pub cores_wait : (core : ℕ) (d : TimedUnit) → core < machine.config.cores
      → Waits machine (Core core) cores_at channels_at (unit_with_word_at units words core d)
  pub channels_wait : (channel : ℕ) (d : TimedUnit) → channel < machine.config.channels
      → Waits machine (Channel channel) channels_at cores_at
      (unit_with_word_at units words (machine.config.cores + channel) d)
  pub flight : links ≡ links_between machine cores_at channels_at

-- The cores of a machine are at its first places, and its channels at the places behind them.
pub record AreByKind (machine : Machine) (kinds : UnitsByKind) : Type 0 where
  pub cores_first : kinds.cores.first ≡ 0
  pub channels_first : kinds.channels.first ≡ machine.config.cores
  pub cores_count : length kinds.cores.units.items ≡ machine.config.cores
  pub core_words : length kinds.cores.words.items ≡ machine.config.cores

-- all units by place
abbrev pub all_units : UnitsByKind → List TimedUnit
all_units kinds = kinds.cores.units.items ++ kinds.channels.units.items

-- all words by place
abbrev pub all_words : UnitsByKind → List ℕ
all_words kinds = kinds.cores.words.items ++ kinds.channels.words.items

-- all units wait at a cycle, and the links hold what is in flight
abbrev pub AllBetweenPhases : Machine → ℕ → UnitsByKind → InFlight → Type 0
AllBetweenPhases machine now kinds links = AreBetweenPhases machine 0 now (all_units kinds) (all_words kinds) links

-- a machine is between two turns, where its cores and its channels stand at these cycles
abbrev pub InTurnsAt : Machine → TurnCycles → UnitsByKind → InFlight → Type 0
InTurnsAt machine at kinds links =
    AreByKind machine kinds × AreInTurns machine at.cores_at at.channels_at (all_units kinds) (all_words kinds) links

-- where a machine stands when its channels have gone on to a cycle
abbrev pub channels_to : ℕ → TurnCycles → TurnCycles
channels_to until at = record at { channels_at = until }

-- where a machine stands when its cores have gone on to a cycle
abbrev pub cores_to : ℕ → TurnCycles → TurnCycles
cores_to until at = record at { cores_at = until }
