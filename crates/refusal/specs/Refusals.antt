-- Why the program refuses, and whether a table of a run got its place before that.
--     fault_of refusal      why it is refused
--     IsKept refusal      no table got its place
--     IsTornRefusal refusal      a table got its place, and another one could not be given its own
use Rattle.std.specs.Prelude.{⊤}
use Rattle.sim_base.specs.declared.fault.Fault.{Fault}
use Rattle.refusal.specs.declared.refusal.Refusal.{Refusal}
use Rattle.refusal.specs.declared.refusal.Refusal.TheVariants.{Kept, Torn}

-- why it is refused
abbrev pub fault_of : Refusal → Fault
fault_of (Kept fault) = fault
fault_of (Torn fault) = fault

-- no table got its place
abbrev pub IsKept : Refusal → Type 0
IsKept (Kept fault) = ⊤
IsKept (Torn fault) = ⊥

-- a table could not be given its place after another one was
abbrev pub IsTornRefusal : Refusal → Type 0
IsTornRefusal (Kept fault) = ⊥
IsTornRefusal (Torn fault) = ⊤
