-- Where there is one result of each job, no name is at fault.
use Rattle.std.proofs.Common.{◌≡◌, None, Some, map, sym, subst, ◌∙◌}
use Rattle.std.specs.Prelude.{IsPermutation}
use Rattle.std.proofs.lemmas.Result.{err_from_is_err_and}
use Rattle.shards.specs.Jobs.{JobView}
use Rattle.shards.specs.Phases.{PhaseView, jobs_of}
use Rattle.shards.proofs.Whole.{whole-first, whole-missing}
use Rattle.shards.proofs.merging.merge.Goals as goal

pub returns-in_err-places-clause-whole : goal.returns-in_err-places-clause-whole
returns-in_err-places-clause-whole c same =
    let p = c.phase.inside.outline in
    let all = subst (λ (v : PhaseView). IsPermutation (jobs_of v) c.args.results.items) (sym c.phase.view_is) same in
    let q = err_from_is_err_and c.from_residual.result c.from_residual.ensures.1 in
    let e : None ≡ Some c.in_err-places.field-0.0 = sym (whole-first p c.args.results.items all) ∙ c.in_err-places.ensures.err in
    cc

pub returns-in_err-are_all_there-clause-whole : goal.returns-in_err-are_all_there-clause-whole
returns-in_err-are_all_there-clause-whole c same =
    let p = c.phase.inside.outline in
    let names = map (λ (d : JobView). d.name) c.args.results.items in
    let all = subst (λ (v : PhaseView). IsPermutation (jobs_of v) c.args.results.items) (sym c.phase.view_is) same in
    let placed = (c.in_ok-places.ensures.ok).1 in
    let e : None ≡ Some c.in_err-are_all_there.field-0.0 = sym (whole-missing p c.args.results.items all) ∙ c.in_err-are_all_there.ensures.err p names (c.deref.ensures.value ∙ placed) in
    cc
