-- How the program ends.
--     exit_code status      the number that the host is told
--     verdict_status found      how it ends that checked a table of commands
use Rattle.std.specs.Prelude.{ℕ}
use Rattle.rule_check.specs.declared.verdict.Verdict.{Verdict}
use Rattle.rule_check.specs.declared.verdict.Verdict.TheVariants as verdict
use Rattle.program.specs.declared.status.ExitStatus.{ExitStatus}
use Rattle.program.specs.declared.status.ExitStatus.TheVariants.{Done, Broken, Refused}

-- the number that the host is told, as of `cmp` and `grep`: 1 where it did what it was asked and found what it looked
-- for to be wrong, 2 where it refused
abbrev pub exit_code : ExitStatus → ℕ
exit_code Done = 0
exit_code Broken = 1
exit_code Refused = 2

-- how it ends that checked a table of commands
abbrev pub verdict_status : Verdict → ExitStatus
verdict_status verdict.Legal = Done
verdict_status (verdict.Broken row rule) = Broken
