-- How a value has changed.
--     tenths_of difference base      a difference in tenths of a percent of its base
--     change_between base value, change_of base value      the change from the base to the value
use Rattle.std.specs.Prelude.{ℕ, ◌+◌, ◌-◌, ◌*◌, ◌/◌, ◌==◌, nat_le, Option, Some, None, if◌then◌else◌}
use Rattle.compare.specs.declared.changes.Change.{Change}
use Rattle.compare.specs.declared.changes.Change.TheVariants.{Rise, Fall}

-- a difference in tenths of a percent of its base, rounded half up
abbrev pub tenths_of : ℕ → ℕ → ℕ
tenths_of difference base = (2000 * difference + base) / (2 * base)

-- the change from a base, which must not be 0, to a value
abbrev pub change_between : ℕ → ℕ → Option Change
change_between base value =
    if base == 0 then None
    else if nat_le base value then Some (Rise (tenths_of (value - base) base))
    else Some (Fall (tenths_of (base - value) base))

-- the change from a base, which must not be 0, to a value, where both are known
abbrev pub change_of : Option ℕ → Option ℕ → Option Change
change_of (Some base) (Some value) = change_between base value
change_of _ _ = None
