use Rattle.std.proofs.Common.{◌≡◌, ◌++◌, ◌∷◌, ◌<◌, [], true, suc, cond, length, get_or, sym, subst, ap, ◌∙◌, append-nil, arith}
use Rattle.units.specs.Flight.{goes_among}
use Rattle.shards.specs.Lists.{bound}
use Rattle.shards.proofs.Exchanging.{sorted_by_shard, goes-here, goes-elsewhere, goes-nowhere}
use Rattle.shards.proofs.exchange.put_by_shard.Goals as goal

pub returns-in_ok-push-clause-each : goal.returns-in_ok-push-clause-each
returns-in_ok-push-clause-each c index d l =
    let s = c.args.config.now in
    let bounds = c.args.bounds.now in
    let m = c.args.message.now in
    let lists = c.args.lists.now in
    let i = c.shard_at.result in
    let place = c.in-Some.place in
    let at = c.shard_at.ensures in
    let receiver = c.in-Some.ensures.some.1 in
    let on : i < length lists = omega (arith, at.exists, c.requires.count) in
    let exists : suc index < length bounds = omega (arith, l, c.requires.count) in
    sorted_by_shard lists i index c.push.new.self c.index-lists-shard_at.result d m (goes_among s (bound bounds index) (bound bounds (suc index)) m) on l c.in_ok-push.ensures.items
    (λ same. subst (λ n. goes_among s (bound bounds n) (bound bounds (suc n)) m ≡ true) (sym same) (goes-here s bounds i place m receiver at.since at.before))
    (λ other. goes-elsewhere s bounds c.requires.split i index place m receiver at.exists exists at.since at.before other)

pub returns-in_default-clause-each : goal.returns-in_default-clause-each
returns-in_default-clause-each c index d l =
    let s = c.args.config.now in
    let bounds = c.args.bounds.now in
    let m = c.args.message.now in
    let items = (get_or c.args.lists.now index d).items in
    let exists : suc index < length bounds = omega (arith, l, c.requires.count) in
    sym (append-nil items)
    ∙ ap (λ b. items ++ cond b (m ∷ []) []) (sym (goes-nowhere s bounds c.requires.split index m c.in_default.ensures.none exists))
