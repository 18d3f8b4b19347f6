use Rattle.std.proofs.Common.{arith}
use Rattle.std.proofs.lemmas.Map.Text.{text_keys}
use Rattle.program_tests.proofs.told_files.ToldFilesFileSet.rename.Goals as goal

pub returns-clause-renamed : goal.returns-clause-renamed
returns-clause-renamed c = λ _. record {
  moved = grind (arith, text_keys);
  gone = λ apart. grind (arith, text_keys);
  others = λ path a b. grind (arith, text_keys);
}

pub returns-then-eq-clause-renamed : goal.returns-then-eq-clause-renamed
returns-then-eq-clause-renamed c = λ _. record {
  moved = grind (arith, text_keys);
  gone = λ apart. grind (arith, text_keys);
  others = λ path a b. grind (arith, text_keys);
}
