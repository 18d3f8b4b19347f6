use Rattle.std.proofs.Common.{◌≡◌, ◌∙◌, length, get_or, refl, sym, ap, arith}
use Rattle.std.specs.Vec.{with_items}
use Rattle.std.specs.declared.vec.Vec.{Vec}
use Rattle.std.specs.declared.alloc.Global.{Global}
use Rattle.std.proofs.lemmas.List.{with_items_is, length_push}
use Rattle.sim_base.specs.declared.message.Message.{Message}
use Rattle.shards.proofs.Columns.{at_push}
use Rattle.shards.proofs.exchange.by_receiver.Goals as goal

pub loop-index-init : goal.loop-index-init
loop-index-init c = record {
  rows_count = refl;
  widths = λ i d. refl;
  left = λ i j d f l. refl;
  count = ap length c.in_ok-columns.ensures.items;
  square = λ j d l. absurd (omega arith);
  each = λ i j d e f g l m. absurd (omega arith);
}

pub column-requires : goal.column-requires
column-requires c i d l =
    let at = c.loop-index in
    let items = c.deref_mut.ensures.value in
    let many = ap length items ∙ at.invariant.rows_count in
    let width = ap (λ z. length (get_or z i d).items) items ∙ at.invariant.widths i d ∙ c.requires.square i d (omega (arith, many, l)) in
    omega (arith, width, c.loop-index-test.true, c.len-index-end.ensures, c.args.rows.ok.0)

pub loop-index-preserved : goal.loop-index-preserved
loop-index-preserved c =
    let at = c.loop-index in
    let n = at.index in
    let rows = c.args.rows.items in
    let items = c.deref_mut.ensures.value in
    let new = c.column.new.rows in
    let column = c.in_ok-column.ensures {u = tt} in
    let many = column.count ∙ ap length items in
    let is : (with_items at.rows new).items ≡ new = with_items_is at.rows new (many ∙ sym at.rows.ok.0) in
    let all : length c.deref_mut.result.now ≡ length rows = ap length items ∙ at.invariant.rows_count in
    let pushed = c.in_ok-push.ensures.items in
    record {
      rows_count = ap length is ∙ many ∙ at.invariant.rows_count;
      widths = λ i d. ap (λ z. length (get_or z i d).items) is ∙ column.widths i d ∙ ap (λ z. length (get_or z i d).items) items ∙ at.invariant.widths i d;
      left = λ i j d f l. ap (λ z. get_or (get_or z i d).items j f) is
          ∙ column.others i j d f (λ e. omega (arith, e, l))
          ∙ ap (λ z. get_or (get_or z i d).items j f) items
          ∙ at.invariant.left i j d f (omega (arith, l));
      count = let long = ap length pushed in let grown = length_push at.columns.items c.in_ok-column.field-0 in omega (arith, long, grown, at.invariant.count);
      square = λ j d l. ap (λ z. length (get_or z j d).items) pushed
          ∙ at_push (λ k (v : Vec (Vec Message Global) Global). length v.items ≡ length rows) at.columns.items n c.in_ok-column.field-0 d at.invariant.count (λ k b. at.invariant.square k d b) (column.height ∙ all) j l;
      each = λ i j d e f g l m. ap (λ z. get_or (get_or z j d).items i f) pushed
          ∙ at_push (λ k (v : Vec (Vec Message Global) Global). get_or v.items i f ≡ get_or (get_or rows i e).items k g) at.columns.items n c.in_ok-column.field-0 d at.invariant.count
          (λ k b. at.invariant.each i k d e f g l b)
          (column.each i e f g (omega (arith, all, l)) ∙ ap (λ z. get_or (get_or z i e).items n g) items ∙ at.invariant.left i n e g (omega arith))
          j m;
    }

pub returns : goal.returns
returns c =
    let at = c.loop-index in
    let over : at.index ≡ length c.args.rows.items = omega (arith, c.loop-index-test.false, at.auto.index-end, c.len-index-end.ensures, c.args.rows.ok.0) in
    record {
      count = at.invariant.count ∙ over;
      square = λ index d l. at.invariant.square index d (omega (arith, over, l));
      each = λ i j d e f g l m. ap (λ (v : Vec Message Global). v.items) (at.invariant.each i j d e f g l (omega (arith, over, m)));
    }
