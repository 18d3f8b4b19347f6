-- One number after the other is read.
use Rattle.std.proofs.Common.{◌≡◌, ◌∙◌, ◌+◌, ◌<◌, length, Ok, Err, refl, sym, ap, rules, arith}
use Rattle.std.proofs.lemmas.List.{length-set, take_more_set}
use Rattle.statistics.specs.Counters.{counter_of}
use Rattle.run_tables.specs.Units.{number_at, numbers_at}
use Rattle.run_tables.proofs.UnitRows.{numbers_more, numbers_stop}
use Rattle.run_tables.proofs.stats.read_numbers.Goals as goal

pub loop-place-init : goal.loop-place-init
unfolding numbers_at
loop-place-init c = (c.requires.each, refl)

pub returns-in_err-numbers-clause-refused : goal.returns-in_err-numbers-clause-refused
returns-in_err-numbers-clause-refused c =
    let gives : c.from_residual.result ≡ Err c.in_err-numbers.field-0.0 = search rules in
    let at = c.args.row + c.loop-place.place in
    let counter = ap (λ d. number_at c.args.table.now at c.args.unit.scope.now c.args.unit.id (counter_of d)) (sym c.index-counters-place.is) in
    rw gives
    (numbers_stop c.args.table.now c.args.unit.scope.now c.args.unit.id c.args.counters.now c.args.row c.loop-place.place at c.index-counters-place.result _ c.in_err-numbers.field-0.0
    c.loop-place-test.true refl c.loop-place.invariant.1 (counter ∙ sym c.in_err-numbers.ensures))

pub loop-place-preserved : goal.loop-place-preserved
loop-place-preserved c =
    let place = c.loop-place.place in
    let numbers = c.loop-place.numbers in
    let at = c.args.row + place in
    let here : place < length numbers = let size = c.loop-place.invariant.0 in let less = c.loop-place-test.true in omega (arith, size, less) in
    let counter = ap (λ d. number_at c.args.table.now at c.args.unit.scope.now c.args.unit.id (counter_of d)) (sym c.index-counters-place.is) in (
      length-set numbers place c.in_ok-numbers.field-0 ∙ c.loop-place.invariant.0,
      numbers_more c.args.table.now c.args.unit.scope.now c.args.unit.id c.args.counters.now c.args.row place at c.index-counters-place.result _ c.in_ok-numbers.field-0
          c.loop-place-test.true refl c.loop-place.invariant.1 (counter ∙ sym c.in_ok-numbers.ensures)
          ∙ ap Ok (sym (take_more_set numbers place c.in_ok-numbers.field-0 here)),
    )
