-- What is told of a run in progress.
--     quotient dividend divisor      rounded down, if there is anything to divide by
--     percent_of stage      how many in a hundred of the traces' entries have retired
--     left_by millis part whole      how many seconds are left where `millis` milliseconds were spent on a part of the whole
--     left_of stage millis      how many seconds are left of a run
--     figures_of stage millis      all that is told of a run that has gone on for `millis` milliseconds
use Rattle.std.specs.Prelude.{ℕ, ◌-◌, ◌*◌, ◌/◌, ◌^◌, ◌==◌, min, Bool, true, false, Option, Some, None, option_and_then, if◌then◌else◌}
use Rattle.progress.specs.declared.figures.Figures.{Figures}
use Rattle.simulation.specs.declared.watch.Stage.{Stage}
use Rattle.sim_base.specs.Earlier.{earlier}

abbrev pub quotient : ℕ → ℕ → Option ℕ
quotient dividend divisor = if divisor == 0 then None else Some (dividend / divisor)

-- a count above 2^80 counts as 2^80
abbrev pub percent_of : Stage → Option ℕ
percent_of stage = option_and_then (λ retired. quotient (100 * min retired (2 ^ 80)) stage.entries) stage.retired

-- milliseconds above 2^40 count as 2^40, and a rest above 2^80 counts as 2^80
abbrev pub left_by : ℕ → ℕ → ℕ → Option ℕ
left_by millis part whole =
    option_and_then (λ more. Some (more / 1000)) (quotient (min millis (2 ^ 40) * min (whole - part) (2 ^ 80)) part)

-- what is left up to the limit, or, where the run ends drained, until all has retired, if that is sooner
abbrev pub left_if : Bool → ℕ → Stage → Option ℕ → Option ℕ
left_if true millis stage (Some retired) =
    earlier (left_by millis stage.now stage.limit) (left_by millis retired stage.entries)
left_if true millis stage None = left_by millis stage.now stage.limit
left_if false millis stage retired = left_by millis stage.now stage.limit

abbrev pub left_of : Stage → ℕ → Option ℕ
left_of stage millis = left_if stage.ends_drained millis stage stage.retired

abbrev pub figures_of : Stage → ℕ → Figures
figures_of stage millis = record {
  cycles = stage.now;
  percent = percent_of stage;
  rate = quotient (1000 * stage.now) millis;
  left = left_of stage millis;
}
