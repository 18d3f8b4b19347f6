use Rattle.show.specs.Rows.{machine_in}
use Rattle.show.specs.Screen.{IsScreen}
use Rattle.measures.proofs.Texts.{finished}
use Rattle.show.proofs.screen.show_text.Goals as goal

pub returns : goal.returns
returns c = record {
  screen = finished {A = IsScreen c.args.stats.now c.args.options (machine_in c.args.config)} c.new-text.result c.put_screen.new.out c.finish.result c.new-text.ensures.empty c.put_screen.ensures c.finish.ensures;
}
