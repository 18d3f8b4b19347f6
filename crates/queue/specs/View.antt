-- What a queue stands for.
--     QueueView      the requests that have arrived, and what decides whether it drains
--     empty_queue room high low      a queue with no requests
--     with_request view r      a queue with one more request
--     renumbered view      a queue whose requests that wait have moved to the front
--     places_for room      for how many requests a queue has places
--     drains_by high low drained writes      whether a queue with this many writes drains, given if it drained before
--     is_draining view      whether a queue drains with the requests that wait
use Rattle.std.specs.Prelude.{ℕ, ◌+◌, ◌*◌, min, nat_lt, nat_le, Bool, false, ◌&&◌, ◌||◌, List, []}
use Rattle.sim_base.specs.declared.message.Request.{Request}
use Rattle.queue.specs.declared.request_log.Arrived.{Arrived}
use Rattle.queue.specs.Log.{waiting, waiting_requests, with_arrival}
use Rattle.queue.specs.Columns.{write_count}

-- What contracts see of a queue: how many requests may wait, how many have places, the numbers of writes with which a
-- drain begins and ends, the requests that have arrived by age, of which some wait, and whether the queue drained when
-- that was last decided.
pub record QueueView : Type 0 where
  pub room : ℕ
  pub places : ℕ
  pub high : ℕ
  pub low : ℕ
  pub log : List Arrived
  pub drain_decided : Bool

-- for how many requests a queue has places, where `room` may wait: twice as many and 2,048 more, but at most 65,534
abbrev pub places_for : ℕ → ℕ
places_for room = min (room * 2 + 2048) 65534

-- a queue with no requests, in which `room` may wait, and which drains its writes from `high` of them down to `low`
abbrev pub empty_queue : ℕ → ℕ → ℕ → QueueView
empty_queue room high low =
    record {
      room = room;
      places = places_for room;
      high = high;
      low = low;
      log = [];
      drain_decided = false;
    }

-- a queue with a request that has just arrived
abbrev pub with_request : QueueView → Request → QueueView
with_request view r = record view { log = with_arrival view.log r }

-- a queue whose requests that wait have moved to the front of its log, where no other one has a place any more
abbrev pub renumbered : QueueView → QueueView
renumbered view = record view { log = waiting view.log }

-- whether a queue with this number of writes drains: a drain begins with `high` writes or more, if `high` is not 0, and
-- goes on with more than `low`
abbrev pub drains_by : ℕ → ℕ → Bool → ℕ → Bool
drains_by high low drained writes = (nat_lt 0 high && nat_le high writes) || (drained && nat_lt low writes)

-- whether a queue drains with the requests that wait
abbrev pub is_draining : QueueView → Bool
is_draining view = drains_by view.high view.low view.drain_decided (write_count (waiting_requests view.log))
