-- What it needs is of this kind, which may be issued from a cycle on.
use Rattle.std.proofs.Common.{refl, sym, ap, subst, ◌∙◌}
use Rattle.std.proofs.lemmas.Bool.{true≢false, not-true}
use Rattle.sim_base.specs.Rules.{open_row, kind_of}
use Rattle.sim_base.specs.Scheduling.{needed, needed_at}
use Rattle.sim_base.specs.Places.{bank_at}
use Rattle.bank_ready.specs.Stands.{rank_count}
use Rattle.channel_step.specs.FrFcfs.Offers.{IsReadyFrom}
use Rattle.channel_step.proofs.FrFcfs.Staying.{after_ready}
use Rattle.channel_step.proofs.fr_fcfs.arrivals.comes_after.Goals as goal

pub returns-then-hit : goal.returns-then-hit
unfolding needed
returns-then-hit c s history hits stands knows =
    let r = c.args.request.now in
    let row_is = c.open_row-open_row.ensures knows.log history knows.stands ∙ ap (λ b. open_row b history) c.bank_id.ensures in
    let kind_is = sym (c.kind_needed-kind.ensures.kind r refl refl ∙ ap (λ o. kind_of (needed_at o r)) row_is) in
    after_ready s history (rank_count c.args.banks.now) r c.kind_needed-kind.result c.ready.result c.args.cycle c.args.hit c.requires.place
    (subst (λ n. IsReadyFrom s history (bank_at n) c.kind_needed-kind.result c.ready.result) c.bank_number.ensures.number (c.ready.ensures s history stands)) kind_is c.if-after.true
    (λ off. absurd (true≢false (sym hits ∙ off)))

pub returns-else-hit : goal.returns-else-hit
unfolding needed
returns-else-hit c s history other stands knows =
    let r = c.args.request.now in
    let row_is = c.open_row-open_row.ensures knows.log history knows.stands ∙ ap (λ b. open_row b history) c.bank_id.ensures in
    let kind_is = sym (c.kind_needed-kind.ensures.kind r refl refl ∙ ap (λ o. kind_of (needed_at o r)) row_is) in
    after_ready s history (rank_count c.args.banks.now) r c.kind_needed-kind.result c.ready.result c.args.cycle c.args.hit c.requires.place
    (subst (λ n. IsReadyFrom s history (bank_at n) c.kind_needed-kind.result c.ready.result) c.bank_number.ensures.number (c.ready.ensures s history stands)) kind_is c.if-after.true
    (λ off. sym (c.is_column_kind.ensures (needed history r) kind_is) ∙ not-true c.is_column_kind.result other)
