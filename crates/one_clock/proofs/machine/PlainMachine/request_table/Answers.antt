use Rattle.std.proofs.Common.{◌≡◌, [], ◌∷◌, IfOk, map, sym, ap, subst, ◌∙◌}
use Rattle.std.specs.Prelude.{All, filter_map}
use Rattle.std.proofs.lemmas.List.Elements.{All-nil, All-cons}
use Rattle.sim_base.specs.History.{commands}
use Rattle.sim_base.specs.Machine.{run}
use Rattle.sim_base.proofs.Spans.{length_run}
use Rattle.request_table.specs.Requests.{requests_of}
use Rattle.request_table.specs.Tables.{AreServedBetween, times_of, times_by_cycle}
use Rattle.request_table.proofs.Reading.{own-table}
use Rattle.laws.specs.Timed.{served_in_run}
use Rattle.laws.proofs.Serving.{are_timed, are_by_cycle}
use Rattle.one_clock.proofs.machine.PlainMachine.request_table.Goals as goal

pub of-requires : goal.of-requires
of-requires c =
    let s = c.args.cycle.now.config.now in
    let n = c.args.cycle.now.number in
    let all = run s c.args.cycle.now.traces.now n in
    let rows = filter_map (served_in_run s all) (commands all) in
    let stand : AreServedBetween 0 n rows = subst (λ k. AreServedBetween 0 k rows) (length_run s c.args.cycle.now.traces.now n) (are_by_cycle s all) in
    let own = c.of-list.ensures ∙ c.in_ok-all_served.ensures {u = tt} ∙ ap (filter_map (served_in_run s all)) c.requires.machine.commands_are in
    let are = c.in_ok-lists.ensures.items ∙ ap (λ list. list ∷ []) own in
    subst (λ lists. All (AreServedBetween 0 n) lists) (sym are) (All-cons (AreServedBetween 0 n) rows [] stand (All-nil (AreServedBetween 0 n)))

pub returns : goal.returns
returns c =
    let s = c.args.cycle.now.config.now in
    let n = c.args.cycle.now.number in
    let all = run s c.args.cycle.now.traces.now n in
    let rows = filter_map (served_in_run s all) (commands all) in
    let long = length_run s c.args.cycle.now.traces.now n in
    let stand : AreServedBetween 0 n rows = subst (λ k. AreServedBetween 0 k rows) long (are_by_cycle s all) in
    let own = c.of-list.ensures ∙ c.in_ok-all_served.ensures {u = tt} ∙ ap (filter_map (served_in_run s all)) c.requires.machine.commands_are in
    let are = c.in_ok-lists.ensures.items ∙ ap (λ list. list ∷ []) own in
    let table : times_by_cycle s n c.in_ok-lists.lists.items ≡ requests_of s all =
    ap (times_by_cycle s n) are ∙ ap (map (times_of s n)) (own-table n rows stand) ∙ ap (λ k. map (times_of s k) rows) (sym long) ∙ sym (are_timed s all) in
    subst (λ requests. IfOk c.of.result (λ table. table ≡ requests)) table c.of.ensures
