-- An empty list more is one list more, and adds no message.
use Rattle.std.proofs.Common.{◌+◌, length, ap, ◌∙◌, arith}
use Rattle.std.proofs.lemmas.List.{length_push}
use Rattle.shards.specs.Lists.{lists_of}
use Rattle.shards.proofs.TakingApart.{lists-push}
use Rattle.shards.proofs.sharded.no_row.Goals as goal

pub loop-preserved : goal.loop-preserved
loop-preserved c =
    let at = c.loop in
    let list = c.new.result in
    let items = c.in_ok-push.ensures.items in (
      ap length items ∙ length_push at.row.items list ∙ ap (λ n. n + 1) at.invariant.0,
      ap lists_of items ∙ lists-push at.row.items list at.invariant.1 c.new.ensures.items,
    )

pub returns-clause-count : goal.returns-clause-count
returns-clause-count c = omega (arith, c.loop.invariant.0, c.loop-test.false, c.loop.auto.counter-end)
