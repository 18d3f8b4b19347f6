-- The earliest of several cycles, each of which there may be, by number.
--     earlier_numbered first cycle number      the earlier of two, the first of two that are equal
--     IsEarliestAt cycles count number cycle      the earliest of the cycles below a count
--     IsEarliest cycles count first      the same, where there may be none
use Rattle.std.specs.Prelude.{◌≡◌, ℕ, ◌<◌, ◌≤◌, nat_lt, Option, Some, None, IfSome, if◌then◌else◌}

-- the earlier of two cycles with their numbers, the first of two that are equal; each of which there may be
abbrev pub earlier_numbered : Option (ℕ × ℕ) → Option ℕ → ℕ → Option (ℕ × ℕ)
earlier_numbered first None number = first
earlier_numbered None (Some cycle) number = Some (cycle, number)
earlier_numbered (Some first) (Some cycle) number = if nat_lt cycle first.0 then Some (cycle, number) else Some first

-- Of the cycles below a count, none is earlier than the one with a number, and those with lower numbers are later.
pub record IsEarliestAt (cycles : ℕ → Option ℕ) (count number cycle : ℕ) : Type 0 where
  pub is_below : number < count
  pub cycle_is : cycles number ≡ Some cycle
  pub none_earlier : (k : ℕ) → k < count → IfSome (cycles k) (λ c. cycle ≤ c)
  pub none_lower : (k : ℕ) → k < number → IfSome (cycles k) (λ c. cycle < c)

-- of the cycles below a count, the earliest one and the lowest number that has it, or none where there is no cycle
abbrev pub IsEarliest : (ℕ → Option ℕ) → ℕ → Option (ℕ × ℕ) → Type 0
IsEarliest cycles count (Some first) = IsEarliestAt cycles count first.1 first.0
IsEarliest cycles count None = (k : ℕ) → k < count → cycles k ≡ None
