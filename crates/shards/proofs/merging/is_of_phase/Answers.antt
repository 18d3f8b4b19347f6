use Rattle.std.proofs.Common.{rules, ◌≡◌, ◌-◌, ltb, ◌&&◌, length, ap, sym, ◌∙◌}
use Rattle.shards.specs.Phases.{PhaseView, shard_count}
use Rattle.shards.proofs.Placing.{among-is}
use Rattle.shards.proofs.merging.is_of_phase.Goals as goal

pub returns-then-has_span : goal.returns-then-has_span
returns-then-has_span c =
    let p = c.args.phase.now in
    let name = c.args.name in
    let len : c.len.result ≡ length c.phase.inside.bounds.items = search rules in
    let count = len ∙ ap (λ (v : PhaseView). length v.bounds) c.phase.view_is in
    let spans = sym c.has_span.ensures ∙ c.if-has_span.true in
    ap (λ n. ltb name.shard (n - 1)) count ∙ sym (among-is p name ∙ ap (λ b. b && ltb name.shard (shard_count p)) spans)

pub returns-else-has_span : goal.returns-else-has_span
returns-else-has_span c =
    let p = c.args.phase.now in
    let name = c.args.name in
    c.if-has_span.false ∙ sym (among-is p name ∙ ap (λ b. b && ltb name.shard (shard_count p)) (sym c.has_span.ensures ∙ c.if-has_span.false))
