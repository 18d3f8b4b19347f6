-- A piece more for each placeholder, and the rest of the form in the end.
use Rattle.measures.proofs.Filled.{leads_from, leads_on, leads_to}
use Rattle.measures.proofs.text_builder.TextBuilder.fill.Goals as goal

pub loop-piece-init : goal.loop-piece-init
loop-piece-init g c = (leads_from g.P.Append.appends c.args.form.now c.args.pieces.now c.args.self.now, c.utf8.form)

pub loop-piece-preserved : goal.loop-piece-preserved
loop-piece-preserved g c = (
  leads_on g.P.Append.appends c.args.form.now c.args.pieces.now c.loop-piece.rest.now c.fill_next-rest.result.now c.loop-piece.piece-index c.piece-item.result c.loop-piece-test.true c.piece-item.is
      c.loop-piece.invariant.0 c.fill_next-rest.ensures,
  c.fill_next-rest.utf8,
)

pub returns : goal.returns
returns g c = leads_to g.P.Append.appends c.args.form.now c.args.pieces.now c.loop-piece.rest.now c.loop-piece.piece-index c.loop-piece-test.false c.loop-piece.invariant.0 c.push_str.ensures.words
