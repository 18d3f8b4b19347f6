-- What is due at some units in a span, taken out of messages.
--     has_unit units unit      a unit is one of these
--     left_after channels from until units ms      what stays when what is due at these units in a span is taken out
use Rattle.std.specs.Prelude.{ℕ, not, Bool, List, filter, fold}
use Rattle.std.specs.List.{list_any}
use Rattle.sim_base.specs.History.{is_unit}
use Rattle.sim_base.specs.declared.message.Message.{Message}
use Rattle.sim_base.specs.declared.message.Unit.{Unit as MachineUnit}
use Rattle.links.specs.InFlight.{is_due}

-- a unit is one of these
abbrev pub has_unit : List MachineUnit → MachineUnit → Bool
has_unit units unit = list_any (λ u. is_unit unit u) units

-- what stays of some messages when what is due at these units in a span is taken out, unit by unit
abbrev pub left_after : ℕ → ℕ → ℕ → List MachineUnit → List Message → List Message
left_after channels from until units ms =
    fold (λ rest unit. filter (λ m. not (is_due channels unit from until m)) rest) ms units
