use Rattle.reports.proofs.RowLemmas.{added-more, line-row}
use Rattle.reports.proofs.TableLemmas.{final_text-parts}
use Rattle.reports.proofs.final_state.write_rows.Goals as goal

pub returns : goal.returns
returns g c =
    let header = rw (c.columns.ensures.names, line-row) at c.write_text.ensures in
    let progress = rw c.deref.ensures.value at c.write_progress.ensures in
    let credits = rw c.deref-2.ensures.value at c.write_credits.ensures in
    let channels = rw c.deref-3.ensures.value at c.write_channels.ensures in
    let count = rw c.deref-3.ensures.value at c.deref-3.ensures.len in
    let flights = rw (c.deref-4.ensures.value, c.len-channels.ensures, ← count) at c.write_in_flight.ensures in
    let before = added-more _ _ _ _ _ (added-more _ _ _ _ _ (added-more _ _ _ _ _ header progress) credits) channels in
    rw (← c.state.view_is) (rw final_text-parts (added-more _ _ _ _ _ before flights))
