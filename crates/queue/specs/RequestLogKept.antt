-- What a log keeps beside its requests.
--     AreTagged inside      the tags and chains are those of the log, and the requests that wait are counted
use Rattle.std.specs.Prelude.{◌≡◌, ◌-◌, ◌^◌, ◌<◌, ◌≤◌, length, vec_capacity}
use Rattle.queue.specs.declared.request_log.RequestLog.TheInside.{Inside}
use Rattle.queue.specs.Log.{waiting_requests}
use Rattle.queue.specs.Chains.{classes_of, AreChained}
use Rattle.queue.specs.Columns.{tag_column, blocked_count, counter_of_line, counter_of_row, AreCounted}

-- The tags and the chains are those of the log, each counter counts its lines or its rows among the requests that wait,
-- and those that are blocked are counted. There is room for `places` requests, which are fewer than 2^16 - 1.
pub record AreTagged (l : Inside) : Type 0 where
  pub tags_are : l.tags.items ≡ tag_column l.log.items
  pub chained : AreChained (classes_of l.log.items) l.chains
  pub blocked_are : l.blocked ≡ blocked_count l.log.items
  pub masked : l.mask < length l.lines.items
  pub lines_are : AreCounted (counter_of_line l.mask) l.lines.items (waiting_requests l.log.items)
  pub rows_masked : l.row_mask < length l.rows.items
  pub rows_are : AreCounted (counter_of_row l.row_mask) l.rows.items (waiting_requests l.log.items)
  pub within : length l.log.items ≤ l.places
  pub log_room : l.places ≤ vec_capacity l.log
  pub tag_room : l.places ≤ vec_capacity l.tags
  pub chain_room : l.places ≤ vec_capacity l.chains.behind
  pub short : l.places < 2 ^ 16 - 1
