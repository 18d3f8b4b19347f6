-- One entry more is done.
use Rattle.std.proofs.Common.{◌+◌, ◌++◌, ◌∙◌, sym, ap, ap₂, add-one}
use Rattle.std.specs.Option.{option_to_list}
use Rattle.std.specs.Prelude.{slice_get, option_and_then}
use Rattle.sim_base.specs.History.{request_of, requests_between}
use Rattle.sim_base.proofs.Requested.{requests_between_more}
use Rattle.plain_steps.proofs.cores.requests_of_entries.Goals as goal

pub loop-k-preserved : goal.loop-k-preserved
loop-k-preserved c =
    let s = c.args.s.now in
    let trace = c.args.trace.now in
    let first = c.args.issued.now.first in
    let request = c.request_of_number.ensures ∙ ap (λ n. option_and_then (request_of s c.args.core c.args.issued.now.cycle (first + n)) (slice_get trace (first + n))) c.from.ensures in
    c.in_ok-push_some.ensures {u = tt}
    ∙ ap₂ (λ sent m. sent ++ option_to_list m) c.loop-k.invariant request
    ∙ sym (requests_between_more s c.args.core trace c.args.issued.now.cycle first c.loop-k.k)
    ∙ ap (λ n. requests_between s c.args.core trace c.args.issued.now.cycle first (first + n)) (sym (add-one c.loop-k.k))
