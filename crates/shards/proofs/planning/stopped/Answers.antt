-- Each shard takes up the lists that stood at its index, and is between phases.
use Rattle.std.proofs.Common.{◌≡◌, ◌∙◌, ◌∷◌, ◌++◌, [], suc, rules, length, get_or, sym, ap, ap₂, subst, append_assoc, arith}
use Rattle.std.specs.Arc.{arc_value}
use Rattle.std.specs.declared.vec.Vec.{Vec}
use Rattle.std.specs.declared.alloc.Global.{Global}
use Rattle.sim_base.specs.declared.message.Message.{Message}
use Rattle.sim_base.proofs.Added.{length-push_suc}
use Rattle.links.specs.InFlight.{InFlight}
use Rattle.shards.specs.Lists.{lists_of, with_lists}
use Rattle.shards.specs.Shards.{HasEarlyWords, IsOfMachine, IsShard}
use Rattle.units.specs.Wakes.{AreLowered}
use Rattle.shards.specs.declared.shard.Shard.{Shard}
use Rattle.shards.proofs.Setting.{left-next, seam-stop, stop-early, stop-of_machine, stops}
use Rattle.shards.proofs.Splitting.{AreMade, made-push}
use Rattle.shards.proofs.planning.stopped.Goals as goal

pub take_up-requires : goal.take_up-requires
take_up-requires c =
    let machine = arc_value c.args.layout.now.machine in
    let bounds = c.args.layout.now.bounds.items in
    let at = c.loop-shard in
    let x = c.in-Some.shard in
    let whole = ap (λ z. at.yielded ++ z) (sym c.in-Some.ensures.steps.0) ∙ at.invariant.order ∙ c.into_iter-shard-iterator.ensures.into_iter_gives.0 in
    let stop = seam-stop machine bounds c.args.layout.now.at c.args.shards.items at.yielded _ x c.args.inbound.items at.inbound.items c.index_mut.result.now c.requires whole at.invariant.left in
    subst IsOfMachine (sym c.deref_mut.ensures.value)
    (stop-of_machine machine bounds (length at.yielded) c.args.layout.now.at x.value _ stop)

pub loop-shard-preserved : goal.loop-shard-preserved
loop-shard-preserved c =
    let machine = arc_value c.args.layout.now.machine in
    let bounds = c.args.layout.now.bounds.items in
    let now = c.args.layout.now.at in
    let at = c.loop-shard in
    let x = c.in-Some.shard in
    let shard = x.value in
    let new = c.take_up.new.self in
    let d = c.index_mut.result.now in
    let own = (get_or at.inbound.items (length at.yielded) d).items in
    let steps = c.in-Some.ensures.steps in
    let whole = ap (λ z. at.yielded ++ z) (sym steps.0) ∙ at.invariant.order ∙ c.into_iter-shard-iterator.ensures.into_iter_gives.0 in
    let grown = length-push_suc at.yielded x in
    let items = c.in_ok-push.ensures.items in
    let len : c.len-index.result ≡ length at.stopped.items = search rules in
    let index : c.len-index.result ≡ length at.yielded = len ∙ at.invariant.count in
    let up = c.in_ok-take_up.ensures {u = tt} in
    let old = c.deref_mut.ensures.value in
    let lists : c.deref_mut-in-loop-shard.result.now ≡ own =
    c.deref_mut-in-loop-shard.ensures.value ∙ ap (λ (v : Vec (Vec Message Global) Global). v.items) (c.index_mut.ensures.value ∙ ap (λ n. get_or at.inbound.items n d) index) in
    let same : new ≡ record shard { range = record shard.range { words = new.range.words }; traffic = record shard.traffic { links = new.traffic.links } } =
    up.same ∙ ap {A = Shard} {B = Shard} (λ y. record y { range = record y.range { words = new.range.words }; traffic = record y.traffic { links = new.traffic.links } }) old in
    let stop = seam-stop machine bounds now c.args.shards.items at.yielded _ x c.args.inbound.items at.inbound.items d c.requires whole at.invariant.left in
    let early : HasEarlyWords c.deref_mut.result.now = subst HasEarlyWords (sym old) (stop-early machine bounds (length at.yielded) now shard _ stop) in
    let low : AreLowered (arc_value shard.machine).config shard.range.first (lists_of own) shard.range.words.items new.range.words.items =
    subst (λ (y : Shard). AreLowered (arc_value y.machine).config y.range.first (lists_of own) y.range.words.items new.range.words.items) old
    (subst (λ ls. AreLowered (arc_value c.deref_mut.result.now.machine).config c.deref_mut.result.now.range.first (lists_of ls) c.deref_mut.result.now.range.words.items new.range.words.items) lists (up.words early)) in
    let links = up.links ∙ ap₂ {C = InFlight} (λ (y : Shard) ls. with_lists y.traffic.links ls) old lists in
    let made = stops machine bounds (length at.yielded) now shard new own stop same low links in
    record {
      order = append_assoc at.yielded (x ∷ []) _ ∙ ap (λ z. at.yielded ++ z) (sym steps.0) ∙ at.invariant.order;
      finite =
          (let was = at.invariant.finite in
          let remaining = steps.1 in
          let short = ap length steps.0 in
          omega arith);
      left = left-next at.yielded x c.len-index.result c.args.inbound.items at.inbound.items _ index at.invariant.left;
      count = ap length items ∙ length-push_suc at.stopped.items _ ∙ ap suc at.invariant.count ∙ sym grown;
      made = subst (AreMade machine bounds now) (sym items)
          (made-push machine bounds now at.stopped.items _ at.invariant.made (subst (λ n. IsShard machine bounds n new) (sym at.invariant.count) made.0) made.1);
    }
