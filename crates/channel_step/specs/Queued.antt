-- The requests that wait at a channel, each with a mark: whether an ACT was issued for it.
--     activated_in log      the marks of the requests of a log that wait
--     request_at log place      the request at a place of a log
--     joined_with queue new      a queue once these requests have joined
--     drain_decided queue      a queue once it is decided whether the channel drains its writes
--     with_arrivals queue new      a queue once these requests have joined and that is decided
--     kept_rows kept      the requests that are kept, if they are
--     served_now channel cycle r hit      the request that is served in a cycle, as it is kept
use Rattle.std.specs.Prelude.{ℕ, Bool, List, Vec, map, ◌++◌, slice_index_or, Option, option_map}
use Rattle.std.specs.declared.alloc.Global.{Global}
use Rattle.sim_base.specs.declared.message.Request.{Request}
use Rattle.queue.specs.declared.request_log.Arrived.{Arrived}
use Rattle.queue.specs.Log.{absent, waiting, arrived_now}
use Rattle.queue.specs.View.{QueueView, is_draining}
use Rattle.request_table.specs.declared.served_requests.ServedRequest.{ServedRequest}

-- for each request of a log that waits, whether an ACT was issued for it
abbrev pub activated_in : List Arrived → List Bool
activated_in log = map (λ a. a.activated) (waiting log)

-- the request at a place of a log
abbrev pub request_at : List Arrived → ℕ → Request
request_at log place = (slice_index_or log place absent).request

-- a queue once these requests have joined, with no mark yet
abbrev pub joined_with : QueueView → List Request → QueueView
joined_with queue new = record queue { log = queue.log ++ map arrived_now new }

-- a queue once it is decided whether the channel drains its writes
abbrev pub drain_decided : QueueView → QueueView
drain_decided queue = record queue { drain_decided = is_draining queue }

-- a queue once these requests have joined, and it is decided whether the channel drains its writes
abbrev pub with_arrivals : QueueView → List Request → QueueView
with_arrivals queue new = drain_decided (joined_with queue new)

-- the requests that are kept, if they are
abbrev pub kept_rows : Option (Vec ServedRequest Global) → Option (List ServedRequest)
kept_rows kept = option_map (λ rows. rows.items) kept

-- the request that a channel serves in a cycle, as it is kept
abbrev pub served_now : ℕ → ℕ → Request → Bool → ServedRequest
served_now channel cycle r hit =
    record {
      entry = r.entry;
      arrived = r.arrival;
      served = cycle;
      channel = channel;
      core = r.core;
      access = r.access;
      hit = hit;
    }
