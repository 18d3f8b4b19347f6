use Rattle.std.proofs.Common.{◌≡◌, ◌<◌, length, get_or, set, refl, sym, ap, subst, ◌∙◌, true, arith}
use Rattle.std.proofs.lemmas.List.{get_or_default}
use Rattle.queue.specs.declared.request_log.Arrived.{Arrived}
use Rattle.queue.specs.Log.{absent, activated_at}
use Rattle.queue.specs.Columns.{counter_of_line, counter_of_row, counted_by, tag_column, blocked_count}
use Rattle.queue.specs.Log.{waiting_requests}
use Rattle.queue.specs.Chains.{classes_of, AreChained}
use Rattle.queue.proofs.Chained.{classes-set}
use Rattle.queue.proofs.Activated.{length-activated, tag_activated, waiting_activated, blocked_activated}
use Rattle.queue.proofs.request_log.RequestLog.activate.Goals as goal

pub invariant_of-self : goal.invariant_of-self
invariant_of-self c =
    let q = c.self.inside in
    let k = c.self.invariant in
    let place = c.args.place in
    let read = c.index_mut.result.now in
    let within : place < length q.log.items = omega (arith, c.requires, ap (λ v. length v.log) c.self.view_is) in
    let there : read ≡ get_or q.log.items place absent = c.index_mut.ensures.value ∙ get_or_default q.log.items place read absent within in
    let whole : set q.log.items place (record read { activated = true }) ≡ activated_at q.log.items place = ap (λ (a : Arrived). set q.log.items place (record a { activated = true })) there in
    record {
      tags_are = k.tags_are ∙ sym (ap tag_column whole ∙ tag_activated q.log.items place);
      chained = subst (λ classes. AreChained classes q.chains) (sym (ap classes_of whole ∙ classes-set q.log.items place (record (get_or q.log.items place absent) { activated = true }) absent refl)) k.chained;
      blocked_are = k.blocked_are ∙ sym (ap blocked_count whole ∙ blocked_activated q.log.items place);
      masked = k.masked;
      lines_are = λ n below. k.lines_are n below ∙ ap (λ rs. counted_by (counter_of_line q.mask) rs n) (sym (ap waiting_requests whole ∙ waiting_activated q.log.items place));
      rows_masked = k.rows_masked;
      rows_are = λ n below. k.rows_are n below ∙ ap (λ rs. counted_by (counter_of_row q.row_mask) rs n) (sym (ap waiting_requests whole ∙ waiting_activated q.log.items place));
      within = omega (arith, k.within, ap length whole, length-activated q.log.items place);
      log_room = k.log_room;
      tag_room = k.tag_room;
      chain_room = k.chain_room;
      short = k.short;
    }
