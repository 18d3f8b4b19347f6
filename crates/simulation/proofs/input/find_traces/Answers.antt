-- Each core of the range is found for itself.
use Rattle.std.proofs.Common.{◌≡◌, ◌<◌, ◌≤◌, ◌-◌, length, ap, subst, ◌∙◌, arith}
use Rattle.std.proofs.Crossing.{crosses}
use Rattle.std.specs.List.{AllZip, range_with_len}
use denote.Param.Send.{sendable}
use Rattle.rayon.specs.Numbers.{nat_range}
use Rattle.rayon.proofs.ListFacts.{IfOk-then}
use Rattle.rayon.proofs.ToStd.{nat_range-All}
use Rattle.sim_base.specs.Texts.{texts_of}
use Rattle.simulation.specs.Traces.{AreTwins, IsFound}
use Rattle.simulation.proofs.input.find_traces.Goals as goal

pub collect-requires-clause-ready : goal.collect-requires-clause-ready
collect-requires-clause-ready g c κs within =
    let ends = c.into_par_iter.ensures in
    let texts = c.args.texts.now in
    let sources = c.args.sources.now in
    let inside = nat_range-All (λ i. (i < length texts) × (i < length sources) × (length texts ≤ 256) × AreTwins (texts_of texts) sources) 0 (length texts)
    (λ i low high. (high, omega (arith, high, c.requires.count), c.requires.few, c.requires.sources)) in
    rw (c.map.ensures.base, c.map.ensures.f, c.with_min_len.ensures.base, ends.0, ends.1) (λ k d lt. ((inside k d lt, search (sendable, crosses) depth 40), λ y p. tt))

pub returns : goal.returns
returns g c =
    let ends = c.into_par_iter.ensures in
    let texts = c.args.texts.now in
    let whole : length texts - 0 ≡ length texts = omega arith in
    IfOk-then c.collect.result _ _ c.collect.ensures (λ v h.
    let chain = rw (c.map.ensures.base, c.map.ensures.f, c.with_min_len.ensures.base) at h.1 in
    let cores = chain.1 ∙ (λ i. nat_range (ends.0 i) (ends.1 i)) ∙ ap (range_with_len 0) whole in
    rw h.2 (subst (λ l. AllZip (IsFound (texts_of texts)) l h.0) cores chain.2))
