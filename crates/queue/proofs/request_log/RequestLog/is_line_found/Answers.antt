use Rattle.std.proofs.Common.{List, length, ap, sym, ◌∙◌}
use Rattle.sim_base.specs.Scheduling.{asks_for_line}
use Rattle.queue.specs.declared.request_log.Arrived.{Arrived}
use Rattle.queue.specs.Log.{waiting_requests}
use Rattle.queue.specs.Columns.{tag_column}
use Rattle.queue.proofs.Tags.{length-tags}
use Rattle.queue.proofs.TagSearch.{found_asked}
use Rattle.queue.proofs.request_log.RequestLog.is_line_found.Goals as goal

pub next_for_line-requires : goal.next_for_line-requires
next_for_line-requires c = ap length c.deref-2.ensures.value ∙ ap length c.self.invariant.tags_are ∙ length-tags c.self.inside.log.items ∙ sym (ap length c.deref.ensures.value)

pub returns : goal.returns
returns c =
    let log_is = ap (λ v. v.log) c.self.view_is in
    c.is_some.ensures
    ∙ found_asked c.args.place c.deref.result.now c.deref-2.result.now c.next_for_line.result
    (c.deref-2.ensures.value ∙ c.self.invariant.tags_are ∙ ap tag_column (sym c.deref.ensures.value))
    c.next_for_line.ensures
    ∙ ap (λ (log : List Arrived). asks_for_line c.args.place (waiting_requests log)) (c.deref.ensures.value ∙ log_is)
