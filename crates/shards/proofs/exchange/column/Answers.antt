use Rattle.std.proofs.Common.{◌≡◌, ◌<◌, ◌∙◌, length, length-set, get_or, refl, sym, ap, arith}
use Rattle.std.specs.Vec.{with_items}
use Rattle.std.specs.declared.vec.Vec.{Vec}
use Rattle.std.specs.declared.alloc.Global.{Global}
use Rattle.std.proofs.lemmas.List.{with_items_is, get_or_default, length_push}
use Rattle.sim_base.specs.declared.message.Message.{Message}
use Rattle.shards.proofs.Columns.{at_set, at_push, widths-set, others-set}
use Rattle.shards.proofs.exchange.column.Goals as goal

pub loop-row-init : goal.loop-row-init
loop-row-init c = record {
  left = λ i d l. refl;
  widths = λ i d. refl;
  others = λ i j d f other. refl;
  height = ap length c.in_ok-column.ensures.items;
  each = λ i d f g l. absurd (omega arith);
}

pub taken-requires : goal.taken-requires
taken-requires c =
    let at = c.loop-row in
    let row = c.row-item.result in
    let width = ap length c.deref_mut.ensures.value ∙ ap (λ (v : Vec (Vec Message Global) Global). length v.items) (at.invariant.left at.row-index row (omega arith)) in
    let wide = c.requires at.row-index row c.loop-row-test.true in
    omega (arith, width, wide)

pub loop-row-preserved : goal.loop-row-preserved
loop-row-preserved c =
    let at = c.loop-row in
    let n = at.row-index in
    let index = c.args.index in
    let rows = c.args.rows.now in
    let row = c.row-item.result in
    let old = get_or at.rows n row in
    let taken = c.taken.ensures in
    let items = c.deref_mut.ensures.value in
    let count : length c.taken.new.row ≡ length old.items = taken.count ∙ ap length items in
    let new = with_items old c.taken.new.row in
    let is : new.items ≡ c.taken.new.row = with_items_is old c.taken.new.row (count ∙ sym old.ok.0) in
    let less : n < length at.rows = omega (arith, c.loop-row-test.true, at.auto.rows) in
    record {
      left = λ i d l. at_set (λ v. v ≡ get_or rows i d) at.rows n i new d less (λ e. absurd (omega (arith, e, l))) (λ e. at.invariant.left i d (omega (arith, l)));
      widths = widths-set rows at.rows n row new less (ap length is ∙ count) at.invariant.widths;
      others = others-set index rows at.rows n row new less (λ j f other. ap (λ z. get_or z j f) is ∙ taken.others j f other ∙ ap (λ z. get_or z j f) items) at.invariant.others;
      height = let long = ap length c.in_ok-push.ensures.items in let grown = length_push at.column.items c.taken.result in omega (arith, long, grown, at.invariant.height);
      each = λ i d f g l. ap (λ z. get_or z i f) c.in_ok-push.ensures.items
          ∙ at_push (λ k v. v ≡ get_or (get_or rows k d).items index g) at.column.items n c.taken.result f at.invariant.height (λ k b. at.invariant.each k d f g b)
          (taken.taken g
          ∙ ap (λ z. get_or z index g) items
          ∙ ap (λ (v : Vec (Vec Message Global) Global). get_or v.items index g) (get_or_default at.rows n row d less ∙ at.invariant.left n d (omega arith)))
          i l;
    }

pub returns : goal.returns
returns c =
    let at = c.loop-row in
    let over : at.row-index ≡ length c.args.rows.now = omega (arith, c.loop-row-test.false, at.auto.row-index-end) in
    record {
      count = at.auto.rows;
      widths = at.invariant.widths;
      others = at.invariant.others;
      height = at.invariant.height ∙ over;
      each = λ i d f g l. at.invariant.each i d f g (omega (arith, over, l));
    }

pub returns-in_err-column-clause-widths : goal.returns-in_err-column-clause-widths
returns-in_err-column-clause-widths c i d = refl

pub returns-in_err-column-clause-others : goal.returns-in_err-column-clause-others
returns-in_err-column-clause-others c i j d f other = refl

pub returns-in_err-push-clause-count : goal.returns-in_err-push-clause-count
returns-in_err-push-clause-count c = length-set c.loop-row.rows c.loop-row.row-index _ ∙ c.loop-row.auto.rows

pub returns-in_err-push-clause-widths : goal.returns-in_err-push-clause-widths
returns-in_err-push-clause-widths c =
    let at = c.loop-row in
    let row = c.row-item.result in
    let old = get_or at.rows at.row-index row in
    let count = c.taken.ensures.count ∙ ap length c.deref_mut.ensures.value in
    let is = with_items_is old c.taken.new.row (count ∙ sym old.ok.0) in
    widths-set c.args.rows.now at.rows at.row-index row (with_items old c.taken.new.row) (omega (arith, c.loop-row-test.true, at.auto.rows)) (ap length is ∙ count) at.invariant.widths

pub returns-in_err-push-clause-others : goal.returns-in_err-push-clause-others
returns-in_err-push-clause-others c =
    let at = c.loop-row in
    let row = c.row-item.result in
    let items = c.deref_mut.ensures.value in
    let old = get_or at.rows at.row-index row in
    let count = c.taken.ensures.count ∙ ap length items in
    let is = with_items_is old c.taken.new.row (count ∙ sym old.ok.0) in
    others-set c.args.index c.args.rows.now at.rows at.row-index row (with_items old c.taken.new.row) (omega (arith, c.loop-row-test.true, at.auto.rows))
    (λ j f other. ap (λ z. get_or z j f) is ∙ c.taken.ensures.others j f other ∙ ap (λ z. get_or z j f) items) at.invariant.others
