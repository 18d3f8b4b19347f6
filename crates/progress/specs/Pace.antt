-- How far a run goes before it is looked at again.
--     next_interval interval millis      how many cycles come next after an interval that took `millis` milliseconds
use Rattle.std.specs.Prelude.{ℕ, ◌-◌, ◌*◌, ◌/◌, ◌^◌, nat_lt, min, max, if◌then◌else◌}

-- twice as many, half as many or the same number, and at least one
abbrev pub next_interval : ℕ → ℕ → ℕ
next_interval interval millis =
    max
    (if nat_lt millis 50 then min (2 * interval) (2 ^ 64 - 1)
    else (if nat_lt 200 millis then interval / 2 else interval)) 1
