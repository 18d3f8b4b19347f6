-- Which list a table of several lists goes on with.
--     first_cycle rows      the cycle in which the first of the requests was served
--     IsNextOf lists count place cycle      of the first `count` lists, the one at a place begins first, in a cycle
--     IsNextAmong lists count next      the place and cycle of the one that begins first, or none where all are empty
--     IsEarlier found place cycle result      of the list that was found and the one at a place, the earlier one
--     IsNext lists place      the one at this place goes on earliest of all lists
use Rattle.std.specs.Prelude.{◌≡◌, ℕ, ◌+◌, ◌<◌, ◌≤◌, List, [], ◌∷◌, length, slice_index_or, Option, Some, None, IfSome}
use Rattle.request_table.specs.declared.served_requests.ServedRequest.{ServedRequest}
use Rattle.request_table.specs.declared.table.Next.{Next}

-- the cycle in which the first of the requests was served, if there is one
abbrev pub first_cycle : List ServedRequest → Option ℕ
first_cycle [] = None
first_cycle (row ∷ rest) = Some row.served

-- Of the first `count` lists, the one at this place begins in this cycle. Those before it begin later, and those after
-- it no earlier.
pub record IsNextOf (lists : List (List ServedRequest)) (count place cycle : ℕ) : Type 0 where
  pub within : place < count
  pub starts : first_cycle (slice_index_or lists place []) ≡ Some cycle
  pub before : (k : ℕ) → k < place → IfSome (first_cycle (slice_index_or lists k [])) (λ first. cycle < first)
  pub behind : (k : ℕ) → place < k → k < count
      → IfSome (first_cycle (slice_index_or lists k [])) (λ first. cycle ≤ first)

-- Of the first `count` lists, the one that begins first, with its place and cycle, or none where none of them has a
-- request.
abbrev pub IsNextAmong : List (List ServedRequest) → ℕ → Option Next → Type 0
IsNextAmong lists count None = (k : ℕ) → k < count → slice_index_or lists k [] ≡ []
IsNextAmong lists count (Some next) = IsNextOf lists count next.place next.cycle

-- `found` is the next one of the lists before a place; if the list there begins in this cycle, where it has a request,
-- `result` is the next one of those up to the place
abbrev pub IsEarlier : Option Next → ℕ → Option ℕ → Option Next → Type 0
IsEarlier found place cycle result =
    (lists : List (List ServedRequest)) → IsNextAmong lists place found
    → first_cycle (slice_index_or lists place []) ≡ cycle → IsNextAmong lists (place + 1) result

-- the one at this place goes on earliest of all lists
pub record IsNext (lists : List (List ServedRequest)) (place : ℕ) : Type 0 where
  pub cycle : ℕ
  pub next : IsNextOf lists (length lists) place cycle
