use Rattle.std.proofs.Common.{◌≡◌, ℕ, ◌++◌, map, sym, ap, subst, ◌∙◌, append_assoc, arith}
use Rattle.std.specs.Prelude.{filter_map, is_err}
use Rattle.std.proofs.lemmas.List.{append-nil}
use Rattle.std.proofs.lemmas.Result.{IfOk-from_err, err_from_is_err_and}
use Rattle.std.specs.Option.{option_to_list}
use Rattle.sim_base.specs.declared.place.BankId.{BankId}
use Rattle.sim_base.specs.History.{below}
use Rattle.units.specs.Rows.{AddsRows}
use Rattle.units.specs.Runs.{row_at}
use Rattle.units.proofs.Ended.{given_more}
use Rattle.units.proofs.ending.add_rows_of_group.Goals as goal

pub loop-bank-preserved : goal.loop-bank-preserved
loop-bank-preserved c machine number now stands =
    let l = c.loop-bank in
    let f : ℕ → BankId = λ bank. record { rank = c.args.rank; group = c.args.group; bank = bank } in
    let g = row_at machine now number in
    let before = filter_map g (map f (below l.bank)) in
    c.in_ok-add_row_of_bank.ensures {u = tt} machine number now stands
    ∙ ap (λ z. z ++ option_to_list (g (f l.bank))) (l.invariant machine number now stands)
    ∙ append_assoc c.args.rows.now.items before (option_to_list (g (f l.bank)))
    ∙ ap (λ z. c.args.rows.now.items ++ z) (sym (given_more g f l.bank))

pub add_row_of_bank-requires : goal.add_row_of_bank-requires
add_row_of_bank-requires c = c.requires c.loop-bank.bank c.loop-bank-test.true

pub loop-bank-init : goal.loop-bank-init
loop-bank-init c machine number now stands = sym (append-nil c.args.rows.now.items)

pub returns-in_err-add_row_of_bank : goal.returns-in_err-add_row_of_bank
returns-in_err-add_row_of_bank c machine number now stands =
    IfOk-from_err c.from_residual.result _ (ap is_err (err_from_is_err_and c.from_residual.result c.from_residual.ensures.1).1)

pub returns : goal.returns
returns c machine number now stands =
    let f : ℕ → BankId = λ bank. record { rank = c.args.rank; group = c.args.group; bank = bank } in
    let all : c.loop-bank.bank ≡ 4 = omega arith in
    subst (λ n. AddsRows machine now number (map f (below n)) c.args.rows.now.items c.loop-bank.rows.items) all (c.loop-bank.invariant machine number now stands)
