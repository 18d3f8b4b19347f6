-- A piece in place of the first placeholder, or nothing where there is none.
use Rattle.std.proofs.Common.{refl}
use Rattle.measures.proofs.Filled.{fills_none, fills_one, is_cut}
use Rattle.measures.proofs.text_builder.TextBuilder.fill_next.Goals as goal

pub returns-in-Some : goal.returns-in-Some
returns-in-Some g c =
    let cut = is_cut c.args.form.now (c.in-Some.words, c.in-Some.rest) c.in-Some.ensures.cases in
    fills_one c.args.form.now c.in-Some.words.now c.in-Some.rest.now cut c.push_str.ensures.words c.append_to.ensures

pub returns-in-None : goal.returns-in-None
returns-in-None g c = fills_none c.args.form.now c.args.form.now c.args.self.now c.in-None.ensures.cases refl
