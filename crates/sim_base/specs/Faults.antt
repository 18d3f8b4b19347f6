-- Numbers of faults, and which ones a write may end with.
use Rattle.std.specs.Prelude.{◌≡◌, ◌≢◌, ℕ, ⊤, Result, Err}
use Rattle.sim_base.specs.declared.fault.Fault.{Fault}
use Rattle.sim_base.specs.declared.fault.Fault.TheVariants as fault
use Rattle.sim_base.specs.declared.fault.MergeFault.{MergeFault}
use Rattle.sim_base.specs.declared.fault.MergeFault.TheVariants.{Missing, Double, Stranger, Memory}

-- the number of the reason why results cannot be merged
abbrev pub merge_number : MergeFault → ℕ
merge_number (Missing shard) = 1
merge_number (Double index) = 2
merge_number (Stranger index) = 3
merge_number Memory = 4

-- memory was refused, or the host refused to write
abbrev pub IsWriteFault : Fault → Type 0
IsWriteFault fault.Memory = ⊤
IsWriteFault fault.Write = ⊤
IsWriteFault _ = ⊥

-- unless memory was refused, a fault is the one that a definition tells
abbrev pub IsFaultOf : {A : Type 0} → Result A Fault → Fault → Type 0
IsFaultOf told found = found ≢ fault.Memory → told ≡ Err found
