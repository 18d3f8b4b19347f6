use Rattle.std.proofs.Common.{◌≡◌, ◌≢◌, ◌<◌, [], length, get_or, set, take, sym, ap, subst, ◌∙◌, get_or-set_other, get_or-set_same, below_more, arith}
use Rattle.std.specs.Prelude.{fold}
use Rattle.std.specs.declared.vec.Vec.{Vec}
use Rattle.std.specs.declared.alloc.Global.{Global}
use Rattle.sim_base.specs.History.{insert_by_age}
use Rattle.sim_base.specs.declared.message.Message.{Message}
use Rattle.links.specs.InFlight.{InFlight}
use Rattle.shards.specs.Lists.{lists_of}
use Rattle.units.specs.Wakes.{AreLowered}
use Rattle.units.proofs.Early.{early-after}
use Rattle.shards.proofs.Exchanging.{lowered-more, lists-more, taken-more}
use Rattle.shards.proofs.shard.take_up_all.Goals as goal

pub loop-list-preserved : goal.loop-list-preserved
loop-list-preserved c =
    let s = c.args.machine.now.config in
    let first = c.args.first in
    let lists = c.args.lists.now in
    let at = c.loop-list in
    let n = at.list-index in
    let x = c.list-item.result in
    let h = c.in_ok-take_up_list.ensures in
    let less : n < length lists = omega (arith, c.loop-list-test.true, at.auto.lists) in
    let here : n < length at.lists = omega (arith, less, at.auto.lists) in
    let same : get_or at.lists n x ≡ get_or lists n x = at.invariant.left n x (omega arith) in
    let before = lists_of (take n lists) in
    record {
      left = λ k d l. let other : k ≢ n = omega (arith, l) in get_or-set_other at.lists n k c.take_up_list.new.list d other ∙ at.invariant.left k d (omega (arith, l));
      words = λ early.
          let so_far = at.invariant.words early in
          subst (λ ms. AreLowered s first ms c.args.words.now c.take_up_list.new.words) (sym (lists-more lists n x less))
          (lowered-more s first before (get_or lists n x).items c.args.words.now at.words c.take_up_list.new.words so_far
          (subst (λ (v : Vec Message Global). AreLowered s first v.items at.words c.take_up_list.new.words) same
          (h.words (early-after s first before c.args.words.now at.words c.args.links.now at.links at.invariant.links early so_far))));
      links = h.links
          ∙ ap (λ (k : InFlight). record k { messages = fold insert_by_age k.messages (get_or at.lists n x).items }) at.invariant.links
          ∙ ap (λ (v : Vec Message Global). record c.args.links.now { messages = fold insert_by_age (fold insert_by_age c.args.links.now.messages before) v.items }) same
          ∙ ap (λ ms. record c.args.links.now { messages = ms }) (taken-more c.args.links.now.messages lists n x less);
      empty = λ k d l. below_more (λ j. (get_or (set at.lists n c.take_up_list.new.list) j d).items ≡ []) n
          (λ j b. let other : j ≢ n = omega (arith, b) in ap (λ (v : Vec Message Global). v.items) (get_or-set_other at.lists n j c.take_up_list.new.list d other) ∙ at.invariant.empty j d b)
          (ap (λ (v : Vec Message Global). v.items) (get_or-set_same at.lists n c.take_up_list.new.list d here) ∙ h.empty)
          k l;
    }
