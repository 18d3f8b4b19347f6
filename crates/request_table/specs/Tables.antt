-- Served requests of several lists as one table, cycle by cycle.
--     AreServedBetween from until rows      requests were served by cycle, from one on and before another
--     IsInOrder rows      requests were served by cycle
--     served_at lists cycle      the requests that were served in a cycle, by list
--     by_cycle cycles lists      the requests of some lists by cycle, and those of a cycle by their list
--     rows_up_to cycle rows, rows_after cycle rows      those that were served up to a cycle, and after it
--     times_of s cycles request      when a served request was where, in a run of so many cycles
--     times_by_cycle s cycles lists      the same for the requests of some lists, by cycle
use Rattle.std.specs.Prelude.{ℕ, ◌-◌, ◌<◌, ◌≤◌, ◌==◌, nat_le, nat_lt, List, [], ◌∷◌, map, filter, flat_map}
use Rattle.sim_base.specs.declared.config.Config.{Config}
use Rattle.sim_base.specs.Config.{request_link, latency}
use Rattle.sim_base.specs.History.{below}
use Rattle.request_table.specs.declared.served_requests.ServedRequest.{ServedRequest}
use Rattle.request_table.specs.Requests.{replied_in}
use Rattle.request_table.specs.declared.times.RequestTimes.{RequestTimes}

-- requests were served by cycle, from one on and before another
abbrev pub AreServedBetween : ℕ → ℕ → List ServedRequest → Type 0
AreServedBetween from until [] = Unit {0}
AreServedBetween from until (row ∷ rows) = (from ≤ row.served) × (row.served < until) × AreServedBetween row.served until rows

-- requests were served by cycle
pub record IsInOrder (rows : List ServedRequest) : Type 0 where
  pub until : ℕ
  pub served : AreServedBetween 0 until rows

-- the requests that were served in a cycle, by list
abbrev pub served_at : List (List ServedRequest) → ℕ → List ServedRequest
served_at lists cycle = flat_map (λ rows. filter (λ row. row.served == cycle) rows) lists

-- the requests of some lists that were served in the first cycles: by cycle, and those of a cycle by their list
unfoldable pub by_cycle : ℕ → List (List ServedRequest) → List ServedRequest
by_cycle cycles lists = flat_map (served_at lists) (below cycles)

-- the requests of a list that were served up to a cycle
abbrev pub rows_up_to : ℕ → List ServedRequest → List ServedRequest
rows_up_to cycle rows = filter (λ row. nat_le row.served cycle) rows

-- the requests of a list that were served after a cycle
abbrev pub rows_after : ℕ → List ServedRequest → List ServedRequest
rows_after cycle rows = filter (λ row. nat_lt cycle row.served) rows

-- when a served request was where, in a run of so many cycles: it was issued as long before it came to its channel as
-- it travelled
abbrev pub times_of : Config → ℕ → ServedRequest → RequestTimes
times_of s cycles request =
    record {
      core = request.core;
      entry = request.entry;
      access = request.access;
      channel = request.channel;
      issued = request.arrived - latency s (request_link s request.core request.channel);
      arrived = request.arrived;
      served = request.served;
      replied = replied_in s cycles request.access request.core request.channel request.served;
      hit = request.hit;
    }

-- when each served request of some lists was where, in a run of so many cycles, by the cycle in which it was served
abbrev pub times_by_cycle : Config → ℕ → List (List ServedRequest) → List RequestTimes
times_by_cycle s cycles lists = map (times_of s cycles) (by_cycle cycles lists)
