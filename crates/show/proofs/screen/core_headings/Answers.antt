use Rattle.std.proofs.Common.{refl}
use Rattle.show.proofs.screen.core_headings.Goals as goal

pub returns-in-Some : goal.returns-in-Some
returns-in-Some c = rw c.in-Some.is refl
