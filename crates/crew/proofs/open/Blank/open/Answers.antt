use Rattle.crew.proofs.Keeps.{begins}
use Rattle.crew.proofs.open.Blank.open.Goals as goal

pub ruled-requires-clause-rule : goal.ruled-requires-clause-rule
ruled-requires-clause-rule g c = begins
