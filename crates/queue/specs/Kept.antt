-- What a queue keeps beside its requests.
--     view_of inside      the queue that contracts see
--     AreKept inside      the requests that wait and the writes are counted, and it is known whether the queue drains
use Rattle.std.specs.Prelude.{◌≡◌, ◌-◌, ◌^◌, ◌<◌, ◌≤◌, length}
use Rattle.queue.specs.declared.Queue.TheInside.{Inside}
use Rattle.queue.specs.View.{QueueView, drains_by}
use Rattle.queue.specs.Log.{waiting_requests}
use Rattle.queue.specs.Columns.{write_count}

-- what contracts see of a queue
abbrev pub view_of : Inside → QueueView
view_of q =
    record {
      room = q.room;
      places = q.log.places;
      high = q.high;
      low = q.low;
      log = q.log.log;
      drain_decided = q.drain_decided;
    }

-- The requests that wait are counted, and the writes among them. Whether the queue drains is known for this number of
-- writes. There are places for as many requests as may wait.
pub record AreKept (q : Inside) : Type 0 where
  pub waiting_are : q.waiting_count ≡ length (waiting_requests q.log.log)
  pub writes_are : q.writes ≡ write_count (waiting_requests q.log.log)
  pub drains_are : q.drains ≡ drains_by q.high q.low q.drain_decided q.writes
  pub within : length (waiting_requests q.log.log) ≤ q.room
  pub enough : q.room ≤ q.log.places
  pub short : q.room < 2 ^ 16 - 1
