-- How many entries retire and issue in a cycle, by what waits and what is ahead.
--     first_undone issued outstanding      the first entry that is not done
--     issue_count width window number retired_by_end first_at second_at lacks      how many entries issue
--     cause_at width window len number retired_by_end second_at m      why no more than m entries issue
use Rattle.std.specs.Prelude.{ℕ, ◌+◌, ◌-◌, ◌==◌, min, Bool, List, [], ◌∷◌, if◌then◌else◌}
use Rattle.core_window.specs.declared.outstanding.OutstandingRead.{OutstandingRead}
use Rattle.sim_base.specs.declared.trace.Stop.{Stop}
use Rattle.sim_base.specs.declared.trace.Stop.TheVariants as stop

-- As many entries issue as the width and the window have room for, up to the second memory entry, and, where there is
-- no credit for the first, up to the first.
abbrev pub issue_count : ℕ → ℕ → ℕ → ℕ → ℕ → ℕ → Bool → ℕ
issue_count width window number retired_by_end first_at second_at lacks =
    let most = min (min width (window - (number - retired_by_end))) (second_at - number) in
    if lacks then min most (first_at - number) else most

-- why no more than m entries issue
abbrev pub cause_at : ℕ → ℕ → ℕ → ℕ → ℕ → ℕ → ℕ → Stop
cause_at width window len number retired_by_end second_at m =
    if number + m == len then stop.End
    else (if m == width then stop.Width
    else (if number + m - retired_by_end == window then stop.Window
    else (if number + m == second_at then stop.Memory
    else stop.Credit)))

-- the first entry that is not done, where `issued` entries were issued and these Reads wait
abbrev pub first_undone : ℕ → List OutstandingRead → ℕ
first_undone issued [] = issued
first_undone issued (read ∷ others) = read.entry
