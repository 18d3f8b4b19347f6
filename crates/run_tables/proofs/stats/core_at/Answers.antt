-- The numbers of a core's counters are read.
use Rattle.std.proofs.Common.{◌≡◌, ◌∙◌, ◌+◌, Ok, Err, rules, refl, sym, ap}
use Rattle.std.specs.Prelude.{codes}
use Rattle.statistics.specs.Cores.{core_counters}
use Rattle.run_tables.specs.Units.{core_at, core_records}
use Rattle.run_tables.proofs.RowReads.{bind_of, bind_fails}
use Rattle.run_tables.proofs.UnitRows.{numbers_ok}
use Rattle.run_tables.proofs.stats.core_at.Goals as goal

pub returns-in_err-read_numbers-clause-value : goal.returns-in_err-read_numbers-clause-value
unfolding core_at
returns-in_err-read_numbers-clause-value c =
    let gives : c.from_residual.result ≡ Err c.in_err-read_numbers.field-0.0 = search rules in
    let stops = rw c.counters.ensures at c.in_err-read_numbers.ensures.refused in
    rw gives (sym (bind_fails _ _ c.in_err-read_numbers.field-0.0 stops))

pub of_numbers-requires : goal.of_numbers-requires
of_numbers-requires c =
    let read = rw c.counters.ensures at c.in_ok-read_numbers.ensures.read in
    (numbers_ok c.args.table.now (codes "core") c.args.id core_counters c.args.row (c.args.row + core_records) c.read_numbers.new.numbers refl read).1

pub returns-clause-value : goal.returns-clause-value
unfolding core_at
returns-clause-value c =
    let read = rw c.counters.ensures at c.in_ok-read_numbers.ensures.read in
    ap Ok c.of_numbers.ensures ∙ sym (bind_of _ _ c.read_numbers.new.numbers read)
