-- The tag of the request says whether an older one of its line waits.
use Rattle.std.proofs.Common.{◌≡◌, ◌+◌, ◌<◌, ◌++◌, ◌∷◌, [], not, cond, length, get_or, sym, ap, subst, ◌∙◌, arith}
use Rattle.std.proofs.lemmas.List.{length_push, length-set, get_or_default}
use Rattle.sim_base.specs.Scheduling.{asks_for_line}
use Rattle.sim_base.proofs.Lists.{bit}
use Rattle.queue.specs.Log.{arrived_now, waiting_requests}
use Rattle.queue.specs.Columns.{counter_of_line, counter_of_row, tag_word, bank_number, tag_column, blocked_count}
use Rattle.queue.specs.Chains.{classes_of, AreChained}
use Rattle.queue.proofs.Chained.{classes-push}
use Rattle.queue.proofs.Tags.{length-tags}
use Rattle.queue.proofs.TagsChanged.{tag_push, blocked_push}
use Rattle.queue.proofs.Counted.{few_counted, counted_push, requests_push, requests_few, blocked_few, byte_is}
use Rattle.queue.proofs.request_log.RequestLog.arrive.Goals as goal

pub push_reserved-requires : goal.push_reserved-requires
push_reserved-requires c =
    let q = c.self.inside in
    let long : length q.tags.items ≡ length q.log.items = ap length c.self.invariant.tags_are ∙ length-tags q.log.items in
    omega (arith, c.requires, ap (λ v. length v.log) c.self.view_is, ap (λ v. v.places) c.self.view_is, c.self.invariant.tag_room, long)

pub overflow_add-alike : goal.overflow_add-alike
overflow_add-alike c =
    let q = c.self.inside in
    let line = c.line_counter-line.result in
    let below : line < length q.lines.items = omega (arith, c.line_counter-line.ensures.within, c.self.invariant.masked) in
    let count_is : c.index-alike.result.now ≡ get_or q.lines.items line 0 = c.index-alike.ensures ∙ get_or_default q.lines.items line c.index-alike.result.now 0 below in
    let few = few_counted (counter_of_line q.mask) q.lines.items (waiting_requests q.log.items) line c.self.invariant.lines_are below in
    omega (arith, c.self.invariant.within, c.self.invariant.short, count_is, few, requests_few q.log.items)

pub overflow_add-others : goal.overflow_add-others
overflow_add-others c =
    let q = c.self.inside in
    let row = c.row_counter_of-row.result in
    let below : row < length q.rows.items = omega (arith, c.row_counter_of-row.ensures.within, c.self.invariant.rows_masked) in
    let count_is : c.index-others.result.now ≡ get_or q.rows.items row 0 = c.index-others.ensures ∙ get_or_default q.rows.items row c.index-others.result.now 0 below in
    let few = few_counted (counter_of_row q.row_mask) q.rows.items (waiting_requests q.log.items) row c.self.invariant.rows_are below in
    omega (arith, c.self.invariant.within, c.self.invariant.short, count_is, few, requests_few q.log.items)

pub overflow_add-self : goal.overflow_add-self
overflow_add-self c =
    let k = c.self.invariant in
    omega (arith, k.within, k.short, k.blocked_are, blocked_few c.self.inside.log.items, c.from.ensures ∙ byte_is c.is_line_asked-asked.result, bit c.is_line_asked-asked.result)

pub invariant_of-self : goal.invariant_of-self
invariant_of-self c =
    let q = c.self.inside in
    let k = c.self.invariant in
    let log = q.log.items in
    let r = c.args.request in
    let more : c.push_reserved-2.new.self.items ≡ log ++ arrived_now r ∷ [] = c.push_reserved-2.ensures.items in
    let free : length log < q.places = omega (arith, c.requires, ap (λ v. length v.log) c.self.view_is, ap (λ v. v.places) c.self.view_is) in
    let asked : c.is_line_asked-asked.result ≡ asks_for_line r.place (waiting_requests log) =
    c.is_line_asked-asked.ensures ∙ ap (λ v. asks_for_line r.place (waiting_requests v.log)) (sym c.self.view_is) in
    let requests : waiting_requests c.push_reserved-2.new.self.items ≡ waiting_requests log ++ r ∷ [] = ap waiting_requests more ∙ requests_push log r in
    let line = c.line_counter-line.result in
    let below : line < length q.lines.items = omega (arith, c.line_counter-line.ensures.within, k.masked) in
    let count_is : c.index-alike.result.now ≡ get_or q.lines.items line 0 = c.index-alike.ensures ∙ get_or_default q.lines.items line c.index-alike.result.now 0 below in
    let row = c.row_counter_of-row.result in
    let row_below : row < length q.rows.items = omega (arith, c.row_counter_of-row.ensures.within, k.rows_masked) in
    let others_is : c.index-others.result.now ≡ get_or q.rows.items row 0 = c.index-others.ensures ∙ get_or_default q.rows.items row c.index-others.result.now 0 row_below in
    record {
      tags_are =
          c.push_reserved.ensures.items
          ∙ (λ i. k.tags_are i ++ (c.tag_of.ensures ∙ ap (λ b. tag_word (not b) r.access (bank_number r.place)) asked) i ∷ [])
          ∙ sym (tag_push log r)
          ∙ ap tag_column (sym more);
      chained =
          subst (λ classes. AreChained classes c.join.new.self)
          ((λ i. classes_of log ++ c.class_of.ensures.value i ∷ []) ∙ sym (classes-push log (arrived_now r)) ∙ ap classes_of (sym more))
          (c.join.ensures.chained (classes_of log) k.chained);
      blocked_are = (λ i. k.blocked_are i + (c.from.ensures ∙ byte_is c.is_line_asked-asked.result ∙ ap (λ b. cond b 1 0) asked) i) ∙ sym (blocked_push log r) ∙ ap blocked_count (sym more);
      masked = omega (arith, k.masked, length-set q.lines.items line (c.index-alike.result.now + 1));
      lines_are =
          counted_push (counter_of_line q.mask) q.lines.items (waiting_requests log) _ r line (c.index-alike.result.now + 1) k.lines_are c.line_counter-line.ensures.value below requests
          (ap (λ n. n + 1) count_is);
      rows_masked = omega (arith, k.rows_masked, length-set q.rows.items row (c.index-others.result.now + 1));
      rows_are =
          counted_push (counter_of_row q.row_mask) q.rows.items (waiting_requests log) _ r row (c.index-others.result.now + 1) k.rows_are c.row_counter_of-row.ensures.value row_below requests
          (ap (λ n. n + 1) others_is);
      within = omega (arith, ap length more, length_push log (arrived_now r), free);
      log_room = omega (arith, k.log_room, c.push_reserved-2.ensures.capacity);
      tag_room = omega (arith, k.tag_room, c.push_reserved.ensures.capacity);
      chain_room = omega (arith, k.chain_room, c.join.ensures.room);
      short = k.short;
    }
