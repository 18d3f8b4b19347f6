-- What the program has done, by the answer that it gave.
--     done_with warning      done, with this to warn of, if there is something
--     done_unwarned answer, run_done run, warned_done page      done, or why it is refused
use Rattle.std.specs.Prelude.{Option, None, Result, Ok, Err}
use Rattle.sim_base.specs.declared.fault.Fault.{Fault}
use Rattle.refusal.specs.declared.refusal.Refusal.{Refusal}
use Rattle.refusal.specs.declared.refusal.Refusal.TheVariants.{Kept}
use Rattle.refusal.specs.declared.warning.LargePage.{LargePage}
use Rattle.program.specs.declared.done.Done.{Done}
use Rattle.program.specs.declared.status.ExitStatus.TheVariants as status

-- done, with this to warn of, if there is something
abbrev pub done_with : Option LargePage → Done
done_with warning = record { status = status.Done; warning = warning }

-- an answer that warns of nothing
abbrev pub done_unwarned : Result (Unit {0}) Fault → Result Done Refusal
done_unwarned (Ok _) = Ok (done_with None)
done_unwarned (Err fault) = Err (Kept fault)

-- a run, which keeps its own refusal
abbrev pub run_done : Result (Unit {0}) Refusal → Result Done Refusal
run_done (Ok _) = Ok (done_with None)
run_done (Err refusal) = Err refusal

-- a page, with its warning
abbrev pub warned_done : Result (Option LargePage) Fault → Result Done Refusal
warned_done (Ok warning) = Ok (done_with warning)
warned_done (Err fault) = Err (Kept fault)
