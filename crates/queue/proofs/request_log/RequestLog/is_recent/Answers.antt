-- A request of the log that waits for the line asks for it.
use Rattle.std.proofs.Common.{◌≡◌, ◌<◌, true, length, get_or, sym, ap, ◌∙◌, arith}
use Rattle.std.proofs.lemmas.List.{get_or_default}
use Rattle.sim_base.specs.Scheduling.{asks_for_line}
use Rattle.queue.specs.Log.{LogView, absent, is_for, waiting_requests}
use Rattle.queue.proofs.Waiting.{asks_some}
use Rattle.queue.proofs.request_log.RequestLog.is_recent.Goals as goal

pub returns-then-last-len : goal.returns-then-last-len
returns-then-last-len c found =
    let log = c.self.inside.log.items in
    let k = c.from-last.result in
    let within : k < length log = omega (arith, c.if-last-len.true, c.len.ensures) in
    let here : is_for c.args.place (get_or log k absent) ≡ true =
    ap (is_for c.args.place) (sym (c.index.ensures ∙ get_or_default log k c.index.result.now absent within)) ∙ sym c.is_for.ensures ∙ found in
    ap (λ (v : LogView). asks_for_line c.args.place (waiting_requests v.log)) (sym c.self.view_is)
    ∙ asks_some c.args.place log k within here
