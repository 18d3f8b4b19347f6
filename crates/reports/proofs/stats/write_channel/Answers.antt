use Rattle.std.proofs.Common.{ap}
use Rattle.reports.proofs.RowLemmas.{added-more}
use Rattle.reports.proofs.TableLemmas.{channel_rows-draining, channel_rows-usual}
use Rattle.reports.proofs.stats.write_channel.Goals as goal

pub returns : goal.returns
returns g c =
    let usual = rw (c.counters.ensures, c.numbers.ensures) at c.write_numbers.ensures in
    let name = ap (λ p. p.0) c.count.ensures in
    let last = rw (name, c.from.ensures) at c.write_number.ensures in
    let joined = added-more _ _ _ _ _ usual last in
    rw (channel_rows-draining c.args.id c.in-Some.cycles c.args.channel.now c.in-Some.is) joined

pub returns-in_default : goal.returns-in_default
returns-in_default g c =
    let usual = rw (c.counters.ensures, c.numbers.ensures) at c.write_numbers.ensures in
    rw (channel_rows-usual c.args.id c.args.channel.now c.in_default.is) usual
