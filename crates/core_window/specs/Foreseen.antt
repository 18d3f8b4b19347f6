-- What is known of the memory entries ahead, and how many entries issue by it.
--     HasEntry trace number entry      this is the entry of a number, where the trace has one
--     IsNextBehind trace number next      where the next memory entry behind a number stands
--     IsSeenFrom trace from ahead      these are the next two memory entries from a number on
--     WasSeen trace number ahead      the next two memory entries from some number on, not above `number`
--     IsKnownBy digits trace ahead      what is kept of the memory entries ahead is right by the digits of an address
--     StaysKnown digits trace old new      what is kept of the memory entries ahead stays right
--     issue_limit config number retired_by_end len      up to which number entries may issue, whatever they are
--     issue_count_of config number retired_by_end ahead lacks      how many entries issue
--     cause_of config len number retired_by_end ahead m      why no more than m entries issue
use Rattle.std.specs.Prelude.{◌≡◌, ℕ, ◌+◌, ◌-◌, ◌<◌, ◌≤◌, min, Bool, List, length, slice_get, Some}
use Rattle.address_map.specs.Shifts.{IsDigits}
use Rattle.address_map.specs.declared.digits.Digits.{Digits}
use Rattle.sim_base.specs.declared.config.Config.{Config}
use Rattle.sim_base.specs.declared.trace.Entry.{Entry}
use Rattle.sim_base.specs.declared.trace.Stop.{Stop}
use Rattle.core_window.specs.Ahead.{IsKnown}
use Rattle.core_window.specs.Causes.{issue_count, cause_at}
use Rattle.core_window.specs.OneCycle.{IsNextOrEnd, IsSeen}
use Rattle.core_window.specs.declared.issue.EntriesAhead.{EntriesAhead}

-- this is the entry of a number, where the trace has one
abbrev pub HasEntry : List Entry → ℕ → Entry → Type 0
HasEntry trace number entry = number < length trace → slice_get trace number ≡ Some entry

-- where an entry has this number, the next memory entry behind it stands here, or the trace ends here
abbrev pub IsNextBehind : List Entry → ℕ → ℕ → Type 0
IsNextBehind trace number next = number < length trace → IsNextOrEnd trace (number + 1) next

-- these are the next two memory entries from a number on
abbrev pub IsSeenFrom : List Entry → ℕ → EntriesAhead → Type 0
IsSeenFrom trace from ahead = IsSeen trace from ahead.first_at ahead.second_at ahead.entry

-- these are the next two memory entries from some number on that is not above `number`
abbrev pub WasSeen : List Entry → ℕ → EntriesAhead → Type 0
WasSeen trace number ahead = (from : ℕ) × (from ≤ number) × IsSeenFrom trace from ahead

-- where the first of the memory entries ahead lies and which the second is, is known right by the digits of an address,
-- for each configuration that has these digits
abbrev pub IsKnownBy : Digits → List Entry → EntriesAhead → Type 0
IsKnownBy digits trace ahead = (s : Config) → IsDigits s digits → IsKnown s trace ahead

-- where the first of the memory entries ahead lies and which the second is, is still known right by the digits of an
-- address, if it was before
abbrev pub StaysKnown : Digits → List Entry → EntriesAhead → EntriesAhead → Type 0
StaysKnown digits trace old new = (s : Config) → IsDigits s digits → IsKnown s trace old → IsKnown s trace new

-- the number up to which entries may issue by the width, the window and the end of the trace, where `retired_by_end`
-- entries were retired
abbrev pub issue_limit : Config → ℕ → ℕ → ℕ → ℕ
issue_limit config number retired_by_end len =
    min (number + min config.width (config.window - (number - retired_by_end))) len

-- how many entries issue from `number` on
abbrev pub issue_count_of : Config → ℕ → ℕ → EntriesAhead → Bool → ℕ
issue_count_of config number retired_by_end ahead lacks =
    issue_count config.width config.window number retired_by_end ahead.first_at ahead.second_at lacks

-- why no more than m entries issue from `number` on
abbrev pub cause_of : Config → ℕ → ℕ → ℕ → EntriesAhead → ℕ → Stop
cause_of config len number retired_by_end ahead m =
    cause_at config.width config.window len number retired_by_end ahead.second_at m
