-- One request more, and then all.
use Rattle.std.proofs.Common.{◌≡◌, ◌<◌, ◌-◌, ◌+◌, true, not, ◌&&◌, get_or, length, take, sym, ap, subst, ◌∙◌, arith}
use Rattle.std.proofs.lemmas.List.{length-take-le, take_all, take_more, get_or-drop, length-drop}
use Rattle.sim_base.specs.Scheduling.{asks_for_line}
use Rattle.queue.specs.declared.request_log.Arrived.{Arrived}
use Rattle.queue.specs.Log.{absent, waiting_requests}
use Rattle.queue.specs.Stands.{StandsFor}
use Rattle.queue.proofs.Stood.{mark_read}
use Rattle.queue.proofs.bank_candidates.all_banks.BankCandidates.on_arrival.Goals as goal

pub loop-place-preserved : goal.loop-place-preserved
loop-place-preserved c =
    let log = c.args.log.now.log in
    let place = c.loop-place.place in
    let a = get_or log place absent in
    let older = take place log in
    let within : place < length log = omega (arith, ap length c.log-arrived.ensures.log) in
    let place_is : c.args.from + (place - c.args.from) ≡ place = omega (arith, c.loop-place.auto.place) in
    let waits : a.waits ≡ true =
    ap (λ n. (get_or log n absent).waits) (sym place_is) ∙ ap (λ (x : Arrived). x.waits) (sym (get_or-drop c.args.from log (place - c.args.from) absent))
    ∙ c.requires.waits (place - c.args.from) absent (omega (arith, length-drop c.args.from log, within, c.loop-place.auto.place)) in
    let marked : c.is_eligible.result ≡ not (asks_for_line a.request.place (waiting_requests older)) =
    c.is_eligible.ensures ∙ mark_read log place within ∙ ap (λ b. b && not (asks_for_line a.request.place (waiting_requests older))) waits in
    record {
      banks = c.join.ensures.banks ∙ c.loop-place.invariant.banks;
      stands = λ open_rows stands.
          subst (λ xs. StandsFor c.join.new.self xs open_rows) (sym (take_more log place absent within))
          (c.join.ensures.stands older a open_rows (sym (length-take-le place log (omega arith))) (ap (λ xs. (get_or xs place absent).request) c.log-arrived.ensures.log) waits marked
          (c.loop-place.invariant.stands open_rows stands));
    }

pub returns-clause-stands : goal.returns-clause-stands
returns-clause-stands c open_rows stands =
    let log = c.args.log.now.log in
    subst (λ xs. StandsFor c.loop-place.self xs open_rows) (take_all c.loop-place.place log (omega (arith, ap length c.log-arrived.ensures.log))) (c.loop-place.invariant.stands open_rows stands)
