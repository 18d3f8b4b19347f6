use Rattle.std.proofs.Common.{◌≡◌, ◌+◌, ◌-◌, ◌≤◌, ◌∙◌, suc, drop, length, length-drop, sym, ap, subst, arith}
use Rattle.std.specs.Arc.{arc_value}
use Rattle.shards.specs.Lists.{bound}
use Rattle.shards.specs.Shards.{IsShard}
use Rattle.shards.proofs.Splitting.{AreMade, front-count, front-rest, front-waits, made-none, made-push, split-within}
use Rattle.shards.proofs.split.shards_from.Goals as goal
use Rattle.sim_base.proofs.Added.{length-push_suc}

pub loop-index-init : goal.loop-index-init
loop-index-init c =
    let m = arc_value c.args.snapshot.now.machine in
    let none = c.in_ok-shards.ensures.items in (
      ap (λ n. drop n c.args.units.items) (sym c.requires.split.begins),
      ap length none,
      made-none m c.args.bounds.now c.args.snapshot.now.at c.in_ok-shards.shards.items none,
    )

pub loop-index-preserved : goal.loop-index-preserved
loop-index-preserved c =
    let m = arc_value c.args.snapshot.now.machine in
    let bounds = c.args.bounds.now in
    let at = c.loop-index in
    let x = c.in_ok-shard_of.field-0 in
    let items = c.in_ok-push.ensures.items in
    let next : at.index + 1 ≡ suc at.index = omega arith in
    let rises = c.requires.split.rises at.index (omega (arith, c.loop-index-test.true)) in
    let order : bound bounds at.index ≤ bound bounds (at.index + 1) = subst (λ n. bound bounds at.index ≤ bound bounds n) (sym next) rises in (
      front-rest (bound bounds at.index) (bound bounds (at.index + 1)) c.args.units.items at.left.items c.take_front.new.units.items at.invariant.0 c.in_ok-own.ensures.rest order,
      ap length items ∙ length-push_suc at.shards.items x ∙ ap suc at.invariant.1 ∙ sym next,
      subst (AreMade m bounds c.args.snapshot.now.at) (sym items)
          (made-push m bounds c.args.snapshot.now.at at.shards.items x at.invariant.2 (subst (λ n. IsShard m bounds n x.value) (sym at.invariant.1) c.in_ok-shard_of.ensures.shard) c.in_ok-shard_of.ensures.between_phases),
    )

pub take_front-requires : goal.take_front-requires
take_front-requires c =
    let bounds = c.args.bounds.now in
    let at = c.loop-index in
    let size = ap length at.invariant.0 ∙ length-drop (bound bounds at.index) c.args.units.items in
    let within = split-within (arc_value c.args.snapshot.now.machine).config bounds c.requires.split (at.index + 1) (omega (arith, c.loop-index-test.true)) in
    omega (arith, size, within, c.requires.count)

pub shard_of-requires-clause-exists : goal.shard_of-requires-clause-exists
shard_of-requires-clause-exists c = omega (arith, c.loop-index-test.true)

pub shard_of-requires-clause-count : goal.shard_of-requires-clause-count
shard_of-requires-clause-count c =
    let bounds = c.args.bounds.now in
    let at = c.loop-index in
    let next : at.index + 1 ≡ suc at.index = omega arith in
    let rises = c.requires.split.rises at.index (omega (arith, c.loop-index-test.true)) in
    let order : bound bounds at.index ≤ bound bounds (at.index + 1) = subst (λ n. bound bounds at.index ≤ bound bounds n) (sym next) rises in
    let within = split-within (arc_value c.args.snapshot.now.machine).config bounds c.requires.split (at.index + 1) (omega (arith, c.loop-index-test.true)) in
    front-count (bound bounds at.index) (bound bounds (at.index + 1)) c.args.units.items at.left.items c.in_ok-own.own.items at.invariant.0 c.in_ok-own.ensures.front order (omega (arith, within, c.requires.count))
    ∙ ap (bound bounds) next

pub shard_of-requires-clause-wait : goal.shard_of-requires-clause-wait
shard_of-requires-clause-wait c =
    let m = arc_value c.args.snapshot.now.machine in
    let bounds = c.args.bounds.now in
    let at = c.loop-index in
    let next : at.index + 1 ≡ suc at.index = omega arith in
    let rises = c.requires.split.rises at.index (omega (arith, c.loop-index-test.true)) in
    let order : bound bounds at.index ≤ bound bounds (at.index + 1) = subst (λ n. bound bounds at.index ≤ bound bounds n) (sym next) rises in
    let within = split-within m.config bounds c.requires.split (at.index + 1) (omega (arith, c.loop-index-test.true)) in
    front-waits m c.args.snapshot.now.at (bound bounds at.index) (bound bounds (at.index + 1) - bound bounds at.index) c.args.units.items at.left.items c.in_ok-own.own.items at.invariant.0 c.in_ok-own.ensures.front
    (omega (arith, within, order, c.requires.count)) c.requires.wait

pub returns : goal.returns
returns c =
    let at = c.loop-index in
    record {
      split = c.requires.split;
      count = omega (arith, at.invariant.1, c.loop-index-test.false, at.auto.index-end, c.requires.split.some);
      each = at.invariant.2.each;
      between_phases = at.invariant.2.between_phases;
    }
