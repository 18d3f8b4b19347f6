-- The table is read, or refused for its first record at fault.
use Rattle.std.proofs.Common.{◌≡◌, ◌+◌, ◌*◌, Err, length, rules, sym, subst, arith}
use Rattle.run_tables.specs.Units.{CoresAre, core_records}
use Rattle.run_tables.proofs.StatsRefused.{header_refused, cycles_refused, cycles_long, cores_stop, channels_stop}
use Rattle.run_tables.proofs.stats.read_table.Goals as goal

pub returns-then-not-has_header-clause-refused : goal.returns-then-not-has_header-clause-refused
returns-then-not-has_header-clause-refused c = header_refused c.args.table.now (sym c.if-not-has_header.ensures)

pub returns-in_err-cycles-clause-refused : goal.returns-in_err-cycles-clause-refused
returns-in_err-cycles-clause-refused c =
    let gives : c.from_residual.result ≡ Err c.in_err-cycles.field-0.0 = search rules in
    rw gives (cycles_refused c.args.table.now c.in_err-cycles.field-0.0 (sym c.if-not-has_header.ensures) (sym c.in_err-cycles.ensures))

pub read_cores-requires : goal.read_cores-requires
read_cores-requires c = cycles_long c.args.table.now c.in_ok-cycles.cycles (sym c.in_ok-cycles.ensures)

pub returns-in_err-cores-clause-refused : goal.returns-in_err-cores-clause-refused
returns-in_err-cores-clause-refused c =
    let gives : c.from_residual-in_err-cores.result ≡ Err c.in_err-cores.field-0.0 = search rules in
    rw gives (cores_stop c.args.table.now c.in_ok-cycles.cycles c.in_err-cores.field-0.0 (sym c.if-not-has_header.ensures) (sym c.in_ok-cycles.ensures) c.in_err-cores.ensures.refused)

pub returns-in_err-channels-clause-refused : goal.returns-in_err-channels-clause-refused
returns-in_err-channels-clause-refused c =
    let gives : c.from_residual-in_err-channels.result ≡ Err c.in_err-channels.field-0.0 = search rules in
    let count : c.len.result ≡ length c.in_ok-cores.cores.items = search rules in
    let place : 2 + core_records * length c.in_ok-cores.cores.items ≡ 2 + core_records * c.len.result = omega (arith, count) in
    rw gives
    (channels_stop c.args.table.now c.in_ok-cycles.cycles c.in_ok-cores.cores.items (2 + core_records * c.len.result) c.in_err-channels.field-0.0 (sym c.if-not-has_header.ensures) (sym c.in_ok-cycles.ensures)
    (subst (CoresAre c.args.table.now c.in_ok-cores.cores.items) place c.in_ok-cores.ensures.read) c.in_err-channels.ensures.refused)

pub returns-clause-read : goal.returns-clause-read
returns-clause-read c =
    let count : c.len.result ≡ length c.in_ok-cores.cores.items = search rules in
    let place : 2 + core_records * length c.in_ok-cores.cores.items ≡ 2 + core_records * c.len.result = omega (arith, count) in
    record {
      header = sym c.if-not-has_header.ensures;
      cycles = sym c.in_ok-cycles.ensures;
      row = 2 + core_records * c.len.result;
      cores = subst (CoresAre c.args.table.now c.in_ok-cores.cores.items) place c.in_ok-cores.ensures.read;
      channels = c.in_ok-channels.ensures.read;
    }
