use Rattle.std.proofs.Common.{◌≡◌, ℕ, ◌<◌, true, None, get_or, length, ap, sym, ◌∙◌, arith}
use Rattle.std.specs.Prelude.{is_some}
use Rattle.shards.specs.Phases.{shard_count}
use Rattle.shards.proofs.Placing.{all-placed, missing-at, missing-none, results-count}
use Rattle.shards.proofs.merging.are_all_there.Goals as goal

pub returns-then-not-is_filled-clause-err : goal.returns-then-not-is_filled-clause-err
returns-then-not-is_filled-clause-err c p names e =
    let at = c.loop-shard in
    let count = ap length e ∙ results-count p names in
    missing-at p names c.args.places.now at.shard e (omega (arith, count, c.loop-shard-test.true)) at.invariant (sym c.is_filled.ensures ∙ c.if-not-is_filled.true)

pub returns-clause-ok : goal.returns-clause-ok
returns-clause-ok c p names e =
    let count = ap length e ∙ results-count p names in
    let all : (k : ℕ) → k < shard_count p → is_some (get_or c.args.places.now k None) ≡ true = λ k l. c.loop-shard.invariant k (omega (arith, count, l, c.loop-shard-test.false)) in
    (missing-none p names c.args.places.now e all, all-placed p names c.args.places.now e all)
