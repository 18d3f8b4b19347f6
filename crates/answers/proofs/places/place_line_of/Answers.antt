use Rattle.std.proofs.Common.{◌∙◌, append_assoc}
use Rattle.answers.proofs.places.place_line_of.Goals as goal

pub returns-clause-line : goal.returns-clause-line
returns-clause-line c = simp append_assoc (c.in_ok-format.ensures.ok ∙ rw c.in_ok-words.ensures.words)
