use Rattle.std.proofs.Common.{◌≡◌, ℕ, ◌+◌, ◌<◌, List, [], ◌∷◌, ◌++◌, length, get_or, take, Option, sym, ap, ap₂, ◌∙◌}
use Rattle.std.specs.Prelude.{filter_map}
use Rattle.std.specs.Option.{option_to_list}
use Rattle.std.proofs.lemmas.List.{take_more}
use Rattle.std.proofs.lemmas.List.Elements.{filter_map-append}
use Rattle.sim_base.specs.Machine.{run}
use Rattle.sim_base.specs.declared.command.IssuedCommand.{IssuedCommand}
use Rattle.sim_base.proofs.Lists.{cons_option-none}
use Rattle.request_table.specs.declared.served_requests.ServedRequest.{ServedRequest}
use Rattle.laws.specs.Timed.{served_in_run}
use Rattle.one_clock.proofs.machine.PlainMachine.all_served.Goals as goal

-- what one command more serves
served-more : (f : IssuedCommand → Option ServedRequest) (xs : List IssuedCommand) (i : ℕ) (d : IssuedCommand) (rows : List ServedRequest) → i < length xs
    → rows ≡ filter_map f (take i xs) → rows ++ option_to_list (f (get_or xs i d)) ≡ filter_map f (take (i + 1) xs)
served-more f xs i d rows l h =
    ap₂ (λ a b. a ++ b) h (sym (cons_option-none (f (get_or xs i d))))
    ∙ sym (ap (filter_map f) (take_more xs i d l) ∙ filter_map-append f (take i xs) (get_or xs i d ∷ []))

pub loop-row-preserved : goal.loop-row-preserved
loop-row-preserved c =
    let f = served_in_run c.args.cycle.now.config.now (run c.args.cycle.now.config.now c.args.cycle.now.traces.now c.args.cycle.now.number) in
    c.in_ok-add_served.ensures {u = tt}
    ∙ served-more f c.deref-row-items.result.now c.loop-row.row-index _ c.loop-row.rows.items c.loop-row-test.true c.loop-row.invariant
