use Rattle.std.proofs.Common.{arith}
use Rattle.std.proofs.lemmas.Map.Text.{text_keys}
use Rattle.program_tests.proofs.told_files.ToldFilesFileSet.remove.Goals as goal

pub returns-clause-others : goal.returns-clause-others
returns-clause-others c = λ _ path apart. grind (arith, text_keys)
