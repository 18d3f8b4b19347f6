use Rattle.std.proofs.Common.{ap}
use Rattle.reports.specs.Stats.{stats_header}
use Rattle.reports.proofs.RowLemmas.{added-more, line-row}
use Rattle.reports.proofs.TableLemmas.{stats_text-parts}
use Rattle.reports.proofs.stats.write_rows.Goals as goal

pub returns : goal.returns
returns g c =
    let header = rw (line-row stats_header) at c.write_text.ensures in
    let name = ap (λ p. p.0) c.count.ensures in
    let run = rw (name, c.from.ensures) at c.write_number.ensures in
    let cores = rw c.deref.ensures.value at c.write_cores.ensures in
    let channels = rw c.deref-2.ensures.value at c.write_channels.ensures in
    let before = added-more _ _ _ _ _ (added-more _ _ _ _ _ header run) cores in
    rw (← c.stats.view_is) (rw stats_text-parts (added-more _ _ _ _ _ before channels))
