use Rattle.std.proofs.Common.{◌≡◌, ◌++◌, sym, ap, subst, ◌∙◌, append_assoc, arith}
use Rattle.std.specs.Prelude.{filter_map, flat_map, is_err}
use Rattle.std.proofs.lemmas.List.{append-nil}
use Rattle.std.proofs.lemmas.Result.{IfOk-from_err, err_from_is_err_and}
use Rattle.sim_base.specs.Final.{banks_of_group}
use Rattle.sim_base.specs.History.{below}
use Rattle.units.specs.Rows.{AddsRows}
use Rattle.units.specs.Runs.{row_at}
use Rattle.units.proofs.Ended.{given_list}
use Rattle.units.proofs.ending.add_rows_of_rank.Goals as goal

pub loop-group-preserved : goal.loop-group-preserved
loop-group-preserved c machine number now stands =
    let l = c.loop-group in
    let f = banks_of_group c.args.rank in
    let g = row_at machine now number in
    let before = filter_map g (flat_map f (below l.group)) in
    c.in_ok-add_rows_of_group.ensures {u = tt} machine number now stands
    ∙ ap (λ z. z ++ filter_map g (f l.group)) (l.invariant machine number now stands)
    ∙ append_assoc c.args.rows.now.items before (filter_map g (f l.group))
    ∙ ap (λ z. c.args.rows.now.items ++ z) (sym (given_list g f l.group))

pub add_rows_of_group-requires : goal.add_rows_of_group-requires
add_rows_of_group-requires c = c.requires c.loop-group.group c.loop-group-test.true

pub loop-group-init : goal.loop-group-init
loop-group-init c machine number now stands = sym (append-nil c.args.rows.now.items)

pub returns-in_err-add_rows_of_group : goal.returns-in_err-add_rows_of_group
returns-in_err-add_rows_of_group c machine number now stands =
    IfOk-from_err c.from_residual.result _ (ap is_err (err_from_is_err_and c.from_residual.result c.from_residual.ensures.1).1)

pub returns : goal.returns
returns c machine number now stands =
    let all : c.loop-group.group ≡ c.args.config.now.groups = omega arith in
    subst (λ n. AddsRows machine now number (flat_map (banks_of_group c.args.rank) (below n)) c.args.rows.now.items c.loop-group.rows.items) all
    (c.loop-group.invariant machine number now stands)
