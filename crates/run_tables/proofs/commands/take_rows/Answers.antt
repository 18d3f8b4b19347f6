-- The header or a row is wrong, or one row more was taken.
use Rattle.std.proofs.Common.{◌≡◌, [], ◌∷◌, ◌++◌, ◌+◌, ◌∙◌, rules, Err, ap}
use Rattle.sim_base.specs.declared.fault.Fault.TheVariants.{CheckRow}
use Rattle.run_tables.specs.Commands.{HoldsCommands}
use Rattle.run_tables.proofs.ReadRows.{header_read, row_more, row_wrong, rows_read}
use Rattle.run_tables.proofs.Refused.{refused_for, header_wrong}
use Rattle.run_tables.proofs.commands.take_rows.Goals as goal

pub returns-in_err-limits-clause-refused : goal.returns-in_err-limits-clause-refused
returns-in_err-limits-clause-refused c =
    let gives : c.from_residual.result ≡ Err c.in_err-limits.field-0.0 = search rules in
    let refused = c.in_err-limits.ensures.refused in
    rw gives
    (refused_for HoldsCommands c.args.records.now.records c.in_err-limits.field-0.0 0
    (λ n. ((refused n).0 ∙ ap CheckRow c.requires, header_wrong c.args.records.now.records (refused n).1))
    c.in_err-limits.ensures.fault)

pub loop-limits-init : goal.loop-limits-init
loop-limits-init c =
    let none : c.new-rows.result ≡ [] = search rules in
    let row = c.in_ok-limits.ensures.row ∙ ap (λ k. k + 1) c.requires in
    rw none (header_read c.args.records.now.records c.take_header.new.records.records c.in_ok-limits.limits c.take_header.new.records.row c.in_ok-limits.ensures.header c.in_ok-limits.ensures.rest row)

pub returns-in_err-row-clause-refused : goal.returns-in_err-row-clause-refused
returns-in_err-row-clause-refused c =
    let gives : c.from_residual-in_err-row.result ≡ Err c.in_err-row.field-0.0 = search rules in
    let refused = c.in_err-row.ensures.refused in
    let all = c.args.records.now.records in
    rw gives
    (refused_for HoldsCommands all c.in_err-row.field-0.0 c.loop-limits.records.row
    (λ n. ((refused n).0, row_wrong all c.loop-limits.records.records c.in_ok-limits.limits c.loop-limits.rows c.loop-limits.earliest c.loop-limits.records.row c.loop-limits.invariant (search rules) (refused n).1))
    c.in_err-row.ensures.fault)

pub loop-limits-preserved : goal.loop-limits-preserved
loop-limits-preserved c =
    let pushed : c.push.new.self ≡ c.loop-limits.rows ++ c.in_ok-row.row ∷ [] = search rules in
    row_more c.args.records.now.records c.loop-limits.records.records c.take_row.new.records.records c.in_ok-limits.limits c.loop-limits.rows c.push.new.self c.loop-limits.earliest
    c.loop-limits.records.row c.take_row.new.records.row c.in_ok-row.row c.loop-limits.invariant c.in_ok-row.ensures.read c.in_ok-row.ensures.later c.in_ok-row.ensures.rest c.in_ok-row.ensures.row pushed

pub returns-clause-read : goal.returns-clause-read
returns-clause-read c =
    let none : c.loop-limits.records.records ≡ [] = search rules in
    rows_read c.args.records.now.records c.loop-limits.records.records c.in_ok-limits.limits c.loop-limits.rows c.loop-limits.earliest c.loop-limits.records.row c.loop-limits.invariant none
