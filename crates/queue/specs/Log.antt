-- The requests that have arrived at a channel, by age. Each keeps its place when it is served, so that no other one
-- moves.
--     absent      what a read past the end of a log would give
--     waiting log      the requests of a log that wait, each with its state
--     waiting_requests log, all_requests log      the requests that wait, and all that have arrived
--     arrived_now r, with_arrival log r      a request that has just arrived, and a log with it
--     served_at log place      the log once the request at a place is served
--     activated_at log place      the log once an ACT was issued in the name of the request at a place
--     waits_at log place      a request stands at a place and waits
--     is_for place a      a request waits for the line of a place
--     eligible_column log      a mark for each request that waits with no older one waiting for the same line
--     is_eligible_at log place      the request at a place has a mark
--     unblocked_by next marks      these marks, and one more at a place that is given
--     marks_once_served log place next      the marks once the request at a place is served
--     LogView      what contracts see of a log
use Rattle.std.specs.Prelude.{ℕ, Bool, true, false, not, ◌&&◌, List, [], ◌∷◌, ◌++◌, map, filter, take, slice_set, slice_index_or, Option, Some, None}
use Rattle.std.specs.List.{enumerate_from}
use Rattle.sim_base.specs.Scheduling.{asks_for_line}
use Rattle.sim_base.specs.Places.{is_line}
use Rattle.sim_base.specs.declared.message.Access.TheVariants.{Read}
use Rattle.sim_base.specs.declared.message.Request.{Request}
use Rattle.sim_base.specs.declared.place.Place.{Place}
use Rattle.queue.specs.declared.request_log.Arrived.{Arrived}
use Rattle.queue.specs.Marks.{is_marked}
use Rattle.sim_base.specs.Counts.{one_if}

-- what a read past the end of a log would give
abbrev pub absent : Arrived
absent = record {
  request = record {
    core = 0;
    entry = 0;
    access = Read;
    address = 0;
    place = record { channel = 0; rank = 0; group = 0; bank = 0; row = 0; column = 0 };
    arrival = 0;
    link = 0;
  };
  waits = false;
  activated = false;
}

-- the requests of a log that wait, each with its state, by age
unfoldable pub waiting : List Arrived → List Arrived
waiting log = filter (λ a. a.waits) log

-- the requests that wait, by age
abbrev pub waiting_requests : List Arrived → List Request
waiting_requests log = map (λ a. a.request) (waiting log)

-- all requests of a log, by age, those that wait and those that were served
abbrev pub all_requests : List Arrived → List Request
all_requests log = map (λ a. a.request) log

-- a request that has just arrived
abbrev pub arrived_now : Request → Arrived
arrived_now r = record { request = r; waits = true; activated = false }

-- the log with a request that has just arrived
abbrev pub with_arrival : List Arrived → Request → List Arrived
with_arrival log r = log ++ arrived_now r ∷ []

-- the log once the request at a place has been served
abbrev pub served_at : List Arrived → ℕ → List Arrived
served_at log place = slice_set log place (record (slice_index_or log place absent) { waits = false })

-- the log once an ACT was issued in the name of the request at a place
abbrev pub activated_at : List Arrived → ℕ → List Arrived
activated_at log place = slice_set log place (record (slice_index_or log place absent) { activated = true })

-- a request stands at a place and waits
abbrev pub waits_at : List Arrived → ℕ → Bool
waits_at log place = (slice_index_or log place absent).waits

-- a request waits for the line of a place
abbrev pub is_for : Place → Arrived → Bool
is_for place a = a.waits && is_line a.request.place place

-- a mark for each request that waits, with no older one waiting for the same line
unfoldable pub eligible_column : List Arrived → List ℕ
eligible_column log =
    map (λ e. one_if (e.1.waits && not (asks_for_line e.1.request.place (waiting_requests (take e.0 log)))))
    (enumerate_from 0 log)

-- the request at a place may be served: it waits, and no older one waits for its line
abbrev pub is_eligible_at : List Arrived → ℕ → Bool
is_eligible_at log place = is_marked (slice_index_or (eligible_column log) place 0)

-- these marks, and one more at a place, if one is given
abbrev pub unblocked_by : Option ℕ → List ℕ → List ℕ
unblocked_by None marks = marks
unblocked_by (Some next) marks = slice_set marks next 1

-- the marks of a log once the request at a place is served: its own is gone, and the next one for its line, if its
-- place is given, has a mark
abbrev pub marks_once_served : List Arrived → ℕ → Option ℕ → List ℕ
marks_once_served log place next = unblocked_by next (slice_set (eligible_column log) place 0)

-- for how many requests a log has places, and the requests that have arrived
pub record LogView : Type 0 where
  pub places : ℕ
  pub log : List Arrived
