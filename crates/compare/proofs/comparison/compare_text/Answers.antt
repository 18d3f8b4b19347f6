use Rattle.measures.proofs.Texts.{finished}
use Rattle.compare.proofs.comparison.compare_text.Goals as goal

pub returns : goal.returns
returns c = finished c.new-text.result c.put_comparison.new.out c.finish.result c.new-text.ensures.empty c.put_comparison.ensures c.finish.ensures
