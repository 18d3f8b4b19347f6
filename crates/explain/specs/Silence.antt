-- Which faults a call explains; of the others it says nothing.
--     is_of_config fault, is_of_traces fault, is_of_table fault      the fault is one of a configuration, of a trace, of a table
use Rattle.std.specs.Prelude.{Bool, true, false}
use Rattle.sim_base.specs.declared.fault.Fault.{Fault}
use Rattle.sim_base.specs.declared.fault.Fault.TheVariants as fault

-- the fault is one of a configuration
abbrev pub is_of_config : Fault → Bool
is_of_config fault.ConfigSyntax = true
is_of_config (fault.ConfigKey key) = true
is_of_config (fault.ConfigRange key) = true
is_of_config (fault.ConfigRelation number) = true
is_of_config _ = false

-- the fault is one of a trace
abbrev pub is_of_traces : Fault → Bool
is_of_traces (fault.TraceLine core line cause) = true
is_of_traces (fault.TraceTooLong core) = true
is_of_traces _ = false

-- the fault is one of a table
abbrev pub is_of_table : Fault → Bool
is_of_table (fault.CheckRow row) = true
is_of_table _ = false
