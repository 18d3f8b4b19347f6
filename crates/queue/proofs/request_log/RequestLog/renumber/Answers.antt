use Rattle.std.proofs.Common.{◌≡◌, ◌-◌, List, length, drop, map, filter, sym, ap, subst, ◌∙◌, arith, rules}
use Rattle.std.proofs.lemmas.List.{length-drop}
use Rattle.std.proofs.lemmas.List.Elements.{filter_from_retain}
use Rattle.queue.specs.declared.request_log.Arrived.{Arrived}
use Rattle.queue.specs.Log.{waiting, waiting_requests}
use Rattle.queue.specs.Columns.{counter_of_line, counter_of_row, counted_by, tag_column, blocked_count, waiting_items}
use Rattle.queue.specs.Chains.{classes_of, AreChained}
use Rattle.queue.proofs.Tags.{length-tags}
use Rattle.queue.proofs.Renumbered.{served_before, front_waiting, front_items, waiting_twice, tag_waiting, blocked_waiting}
use Rattle.queue.proofs.request_log.RequestLog.renumber.Goals as goal
use Rattle.queue.proofs.request_log.RequestLog.renumber.Goals.{After-renew}

pub drop_first-requires-2 : goal.drop_first-requires-2
drop_first-requires-2 c =
    let long = ap length c.self.invariant.tags_are ∙ length-tags c.self.inside.log.items in
    omega (arith, long, c.served_in_front-served.ensures.within, ap length c.deref.ensures.value)

pub keep_waiting-requires : goal.keep_waiting-requires
keep_waiting-requires c =
    let log = c.self.inside.log.items in
    let tags = c.self.inside.tags.items in
    let n = c.served_in_front-served.result in
    let long = ap length c.self.invariant.tags_are ∙ length-tags log in
    ap length c.drop_first-2.ensures.items ∙ length-drop n tags ∙ ap (λ m. m - n) long ∙ sym (length-drop n log) ∙ sym (ap length c.drop_first.ensures.items)
    ∙ sym (ap length c.deref-2.ensures.value)

served-is : (c : After-renew) → c.served_in_front-served.result ≡ served_before c.self.inside.log.items
served-is c = c.served_in_front-served.ensures.served ∙ ap served_before c.deref.ensures.value

left-log : (c : After-renew) → c.drop_first.new.items.items ≡ drop (served_before c.self.inside.log.items) c.self.inside.log.items
left-log c = c.drop_first.ensures.items ∙ ap (λ n. drop n c.self.inside.log.items) (served-is c)

left-tags : (c : After-renew) → c.drop_first-2.new.items.items ≡ drop (served_before c.self.inside.log.items) c.self.inside.tags.items
left-tags c = c.drop_first-2.ensures.items ∙ ap (λ n. drop n c.self.inside.tags.items) (served-is c)

kept : (c : After-renew) → c.retain.new.self.items ≡ waiting c.self.inside.log.items
unfolding waiting
kept c =
    filter_from_retain _ (λ (a : Arrived). a.waits) (λ p x b q said. search rules) _ c.drop_first.new.items.items c.retain.new.self.items c.retain.ensures.filtered
    ∙ ap (filter (λ (a : Arrived). a.waits)) (left-log c)
    ∙ front_waiting c.self.inside.log.items

pub invariant_of-self : goal.invariant_of-self
invariant_of-self c =
    let q = c.self.inside in
    let k = c.self.invariant in
    let log = q.log.items in
    let long = ap length k.tags_are ∙ length-tags log in
    let same : waiting_requests c.retain.new.self.items ≡ waiting_requests log = ap waiting_requests (kept c) ∙ ap (λ l. map (λ (a : Arrived). a.request) l) (waiting_twice log) in
    record {
      tags_are =
          c.keep_waiting.ensures.items
          ∙ (λ i. waiting_items (c.deref-2.ensures.value i) (left-tags c i))
          ∙ ap (λ l. waiting_items l (drop (served_before log) q.tags.items)) (left-log c)
          ∙ front_items log q.tags.items long
          ∙ ap (waiting_items log) k.tags_are
          ∙ sym (tag_waiting log)
          ∙ ap tag_column (sym (kept c));
      chained = subst (λ (items : List Arrived). AreChained (classes_of items) c.renew.new.self) c.deref-3.ensures.value c.renew.ensures.chained;
      blocked_are = k.blocked_are ∙ sym (ap blocked_count (kept c) ∙ blocked_waiting log);
      masked = k.masked;
      lines_are = λ n below. k.lines_are n below ∙ ap (λ rs. counted_by (counter_of_line q.mask) rs n) (sym same);
      rows_masked = k.rows_masked;
      rows_are = λ n below. k.rows_are n below ∙ ap (λ rs. counted_by (counter_of_row q.row_mask) rs n) (sym same);
      within = omega (arith, k.within, c.retain.ensures.bound, ap length c.drop_first.ensures.items, length-drop c.served_in_front-served.result log);
      log_room = omega (arith, k.log_room, c.retain.ensures.capacity, c.drop_first.ensures.room);
      tag_room = omega (arith, k.tag_room, c.keep_waiting.ensures.room, c.drop_first-2.ensures.room);
      chain_room = omega (arith, k.chain_room, c.renew.ensures.room);
      short = k.short;
    }

pub returns : goal.returns
returns c = (λ i. record { places = c.self.inside.places; log = kept c i }) ∙ (λ i. record { places = (c.self.view_is i).places; log = waiting (c.self.view_is i).log })
