-- The numbers of a channel's counters are read, and then how long it drained its writes.
use Rattle.std.proofs.Common.{◌≡◌, ◌∙◌, ◌+◌, Ok, Err, rules, refl, sym, ap}
use Rattle.std.specs.Prelude.{codes}
use Rattle.statistics.specs.Channels.{channel_counters}
use Rattle.run_tables.specs.Units.{channel_at, channel_records}
use Rattle.run_tables.proofs.RowReads.{bind_of, bind_fails}
use Rattle.run_tables.proofs.UnitRows.{numbers_ok}
use Rattle.run_tables.proofs.stats.channel_at.Goals as goal

pub returns-in_err-read_numbers-clause-value : goal.returns-in_err-read_numbers-clause-value
unfolding channel_at
returns-in_err-read_numbers-clause-value c =
    let gives : c.from_residual.result ≡ Err c.in_err-read_numbers.field-0.0 = search rules in
    let stops = rw c.counters.ensures at c.in_err-read_numbers.ensures.refused in
    rw gives (sym (bind_fails _ _ c.in_err-read_numbers.field-0.0 stops))

pub returns-in_err-draining-clause-value : goal.returns-in_err-draining-clause-value
unfolding channel_at
returns-in_err-draining-clause-value c =
    let gives : c.from_residual-in_err-draining.result ≡ Err c.in_err-draining.field-0.0 = search rules in
    let read = rw c.counters.ensures at c.in_ok-read_numbers.ensures.read in
    rw gives (sym (bind_of _ _ c.read_numbers.new.numbers read ∙ bind_fails _ _ c.in_err-draining.field-0.0 (sym c.in_err-draining.ensures)))

pub of_numbers-requires : goal.of_numbers-requires
of_numbers-requires c =
    let read = rw c.counters.ensures at c.in_ok-read_numbers.ensures.read in
    (numbers_ok c.args.table.now (codes "channel") c.args.id channel_counters c.args.row (c.args.row + channel_records) c.read_numbers.new.numbers refl read).1

pub returns-clause-value : goal.returns-clause-value
unfolding channel_at
returns-clause-value c =
    let read = rw c.counters.ensures at c.in_ok-read_numbers.ensures.read in
    ap Ok c.of_numbers.ensures ∙ sym (bind_of _ _ c.read_numbers.new.numbers read ∙ bind_of _ _ c.in_ok-draining.draining (sym c.in_ok-draining.ensures))
