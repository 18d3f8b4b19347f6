-- No request has arrived, so there is nothing to count.
use Rattle.std.proofs.Common.{length, sym, ap, subst, ◌∙◌, arith}
use Rattle.queue.specs.Log.{waiting, waiting_requests, eligible_column}
use Rattle.queue.specs.Chains.{classes_of, AreChained}
use Rattle.queue.specs.Columns.{tag_column, blocked_count, counter_of_line, counter_of_row, AreCounted}
use Rattle.queue.proofs.request_log.RequestLog.with_places.Goals as goal

pub invariant_of-result : goal.invariant_of-result
unfolding waiting eligible_column tag_column
invariant_of-result c =
    let log = c.in_ok-with_capacity.ensures {u = tt} in
    let tags = c.in_ok-with_capacity-2.ensures {u = tt} in
    let lines = c.in_ok-lines.ensures {u = tt} in
    let rows = c.in_ok-rows.ensures {u = tt} in
    record {
      tags_are = tags.items ∙ ap tag_column (sym log.items);
      chained = subst (λ log. AreChained (classes_of log) c.in_ok-with_places.field-0) (sym log.items) ((c.in_ok-with_places.ensures {u = tt}).none);
      blocked_are = ap blocked_count (sym log.items);
      masked = lines.masked;
      lines_are = subst (λ log. AreCounted (counter_of_line c.in_ok-lines.mask) c.in_ok-lines.lines.items (waiting_requests log)) (sym log.items) lines.lines;
      rows_masked = rows.masked;
      rows_are = subst (λ log. AreCounted (counter_of_row c.in_ok-rows.row_mask) c.in_ok-rows.rows.items (waiting_requests log)) (sym log.items) rows.rows;
      within = omega (arith, ap length log.items);
      log_room = log.capacity;
      tag_room = tags.capacity;
      chain_room = (c.in_ok-with_places.ensures {u = tt}).room;
      short = c.requires;
    }

pub returns : goal.returns
returns c = λ i. record { places = c.args.places; log = (c.in_ok-with_capacity.ensures {u = tt}).items i }
