use Rattle.std.proofs.Common.{rules, ◌≡◌, [], ◌∷◌, ◌++◌, length, map, ap, sym, ◌∙◌, arith}
use Rattle.sim_base.specs.History.{below}
use Rattle.sim_base.proofs.Lists.{map_below-more}
use Rattle.shards.specs.Merging.{result_at}
use Rattle.shards.specs.Phases.{PhaseView, shard_count}
use Rattle.shards.proofs.Placing.{results-none}
use Rattle.shards.proofs.merging.no_results.Goals as goal

pub loop-preserved : goal.loop-preserved
loop-preserved c =
    let p = c.args.phase.now in
    let k = c.loop.counter in
    c.in_ok-push.ensures.items
    ∙ ap (λ z. z ++ result_at p [] k ∷ []) c.loop.invariant
    ∙ sym (map_below-more (result_at p []) k)

pub returns : goal.returns
returns c =
    let p = c.args.phase.now in
    let len : c.len-count.result ≡ length c.phase.inside.bounds.items = search rules in
    let bounds = ap (λ (v : PhaseView). length v.bounds) c.phase.view_is in
    let over : c.loop.counter ≡ shard_count p = omega (arith, c.loop-test.false, c.loop.auto.counter-end, len, bounds) in
    c.loop.invariant ∙ ap (λ n. map (result_at p []) (below n)) over ∙ results-none p
