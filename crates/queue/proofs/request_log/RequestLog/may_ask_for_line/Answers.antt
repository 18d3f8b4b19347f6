-- A request for a line asks for its row, and is counted for both.
use Rattle.std.proofs.Common.{◌≡◌, ◌<◌, length, get_or, sym, ap, subst, ◌∙◌, arith}
use Rattle.std.proofs.lemmas.List.{get_or_default}
use Rattle.sim_base.specs.Scheduling.{asks_for_line}
use Rattle.sim_base.specs.declared.message.Access.TheVariants as access
use Rattle.queue.specs.Log.{waiting_requests}
use Rattle.queue.specs.Columns.{NoneAsksForRow}
use Rattle.queue.proofs.Counted.{none_asks, no_row_no_line}
use Rattle.queue.proofs.request_log.RequestLog.may_ask_for_line.Goals as goal

pub returns-else-may_ask : goal.returns-else-may_ask
returns-else-may_ask c no_write =
    no_row_no_line c.args.place (waiting_requests c.args.self.now.log)
    (subst (λ b. NoneAsksForRow b access.Read c.args.place.row c.args.self.now.log) c.bank_number-bank.ensures.number (c.may_ask.ensures c.if-may_ask.false))
    (subst (λ b. NoneAsksForRow b access.Write c.args.place.row c.args.self.now.log) c.bank_number-bank.ensures.number (c.may_ask-else-may_ask.ensures no_write))

pub returns-else-index-ne0 : goal.returns-else-index-ne0
returns-else-index-ne0 c none =
    let q = c.self.inside in
    let counter_is = c.line_counter.ensures.value in
    let below : c.line_counter.result < length q.lines.items = omega (arith, c.line_counter.ensures.within, c.self.invariant.masked) in
    let count_is : c.index.result.now ≡ get_or q.lines.items c.line_counter.result 0 =
    c.index.ensures ∙ get_or_default q.lines.items c.line_counter.result c.index.result.now 0 below in
    ap (λ v. asks_for_line c.args.place (waiting_requests v.log)) (sym c.self.view_is)
    ∙ none_asks q.mask q.lines.items (waiting_requests q.log.items) c.args.place c.self.invariant.lines_are (omega (arith, below, counter_is))
    (ap (λ k. get_or q.lines.items k 0) (sym counter_is) ∙ sym count_is ∙ c.if-index-ne0.false)
