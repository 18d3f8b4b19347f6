-- What is said of the numbers of a command line.
--     numbers_text fault cores numbers      the line of a fault, if it is one of these numbers
use Rattle.std.specs.Prelude.{ℕ, List, [], ◌++◌, codes, decimal, Option}
use Rattle.explain.specs.Counts.{count_text}
use Rattle.explain.specs.declared.numbers.RunNumbers.{RunNumbers}
use Rattle.sim_base.specs.declared.fault.Fault.{Fault}
use Rattle.sim_base.specs.declared.fault.Fault.TheVariants as fault

-- the line of a fault, if it is one of these numbers
abbrev pub numbers_text : Fault → Option ℕ → RunNumbers → List ℕ
numbers_text fault.TraceCount cores numbers = count_text cores numbers.traces
numbers_text fault.Workers cores numbers =
    codes "--workers " ++ decimal numbers.workers ++ codes ", where 1 to 64 may stand\n"
numbers_text fault.Cycles cores numbers =
    codes "--cycles " ++ decimal numbers.cycles ++ codes ", where 0 to 1000000000000 may stand\n"
numbers_text _ cores numbers = []
