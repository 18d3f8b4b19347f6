-- One core more is read.
use Rattle.std.proofs.Common.{◌≡◌, ◌+◌, ◌-◌, ◌<◌, ◌++◌, [], ◌∷◌, length, rules, refl, sym, arith}
use Rattle.run_tables.proofs.StatsTables.{core_more}
use Rattle.run_tables.proofs.UnitRows.{core_long}
use Rattle.run_tables.specs.Units.{core_records}
use Rattle.run_tables.proofs.stats.read_cores.Goals as goal

pub loop-cores-preserved : goal.loop-cores-preserved
loop-cores-preserved c =
    let xs = c.loop-cores.cores.items in
    let row = c.loop-cores.row in
    let pushed : c.push.new.self.items ≡ xs ++ c.in_ok-core.core ∷ [] = search rules in
    let place : c.len-in-loop-cores.result ≡ length xs = search rules in
    core_more c.args.table.now xs c.push.new.self.items c.in_ok-core.core row c.len-in-loop-cores.result (row + core_records) c.loop-cores.invariant place (sym c.in_ok-core.ensures.value) refl pushed

pub loop-cores-smaller : goal.loop-cores-smaller
loop-cores-smaller c =
    let row = c.loop-cores.row in
    let long = core_long c.args.table.now row c.len-in-loop-cores.result c.in_ok-core.core (sym c.in_ok-core.ensures.value) in
    let less : length c.args.table.now - (row + core_records) < length c.args.table.now - row = omega (arith, long) in
    less
