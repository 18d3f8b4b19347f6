-- The header or a row is wrong, or one row more was taken.
use Rattle.std.proofs.Common.{◌≡◌, [], ◌∷◌, ◌++◌, ◌+◌, ◌∙◌, rules, Err, ap}
use Rattle.sim_base.specs.declared.fault.Fault.TheVariants.{CheckRow}
use Rattle.run_tables.specs.Requests.{HoldsRequests}
use Rattle.run_tables.proofs.ReadRequests.{header_read, header_wrong, row_more, row_wrong, rows_read}
use Rattle.run_tables.proofs.Refused.{refused_for}
use Rattle.run_tables.proofs.requests.take_rows.Goals as goal

pub returns-in_err-take_header-clause-refused : goal.returns-in_err-take_header-clause-refused
returns-in_err-take_header-clause-refused c =
    let gives : c.from_residual.result ≡ Err c.in_err-take_header.field-0.0 = search rules in
    let refused = c.in_err-take_header.ensures.refused in
    rw gives
    (refused_for HoldsRequests c.args.records.now.records c.in_err-take_header.field-0.0 0
    (λ n. ((refused n).0 ∙ ap CheckRow c.requires, header_wrong c.args.records.now.records (refused n).1))
    c.in_err-take_header.ensures.fault)

pub loop-records-init : goal.loop-records-init
loop-records-init c =
    let row = c.in_ok-take_header.ensures.row ∙ ap (λ k. k + 1) c.requires in
    rw c.new-rows.ensures.items
    (header_read c.args.records.now.records c.take_header.new.records.records c.take_header.new.records.row c.in_ok-take_header.ensures.header c.in_ok-take_header.ensures.rest row)

pub returns-in_err-row-clause-refused : goal.returns-in_err-row-clause-refused
returns-in_err-row-clause-refused c =
    let gives : c.from_residual-in_err-row.result ≡ Err c.in_err-row.field-0.0 = search rules in
    let refused = c.in_err-row.ensures.refused in
    let all = c.args.records.now.records in
    rw gives
    (refused_for HoldsRequests all c.in_err-row.field-0.0 c.loop-records.records.row
    (λ n. ((refused n).0, row_wrong all c.loop-records.records.records c.loop-records.rows.items c.loop-records.least c.loop-records.records.row c.loop-records.invariant (search rules) (refused n).1))
    c.in_err-row.ensures.fault)

pub loop-records-preserved : goal.loop-records-preserved
loop-records-preserved c =
    let pushed : c.push.new.self.items ≡ c.loop-records.rows.items ++ c.in_ok-row.row ∷ [] = search rules in
    rw c.turn-least.ensures
    (row_more c.args.records.now.records c.loop-records.records.records c.take_row.new.records.records c.loop-records.rows.items c.push.new.self.items c.loop-records.least c.loop-records.records.row
    c.take_row.new.records.row c.in_ok-row.row c.loop-records.invariant c.in_ok-row.ensures.read c.in_ok-row.ensures.later c.in_ok-row.ensures.rest c.in_ok-row.ensures.row pushed)

pub returns-clause-read : goal.returns-clause-read
returns-clause-read c =
    let none : c.loop-records.records.records ≡ [] = search rules in
    rows_read c.args.records.now.records c.loop-records.records.records c.loop-records.rows.items c.loop-records.least c.loop-records.records.row c.loop-records.invariant none
