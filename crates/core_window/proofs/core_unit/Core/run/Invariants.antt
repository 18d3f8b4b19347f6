-- What arrived first is taken, and the rest is left.
use Rattle.std.proofs.Common.{length}
use Rattle.core_window.specs.Arriving.{all_arriving}
use Rattle.core_window.specs.CoreViews.{view_of}
use Rattle.core_window.proofs.Running.{IsTakingArriving}
use Rattle.core_window.proofs.core_unit.Core.run.Given as goal

abbrev pub invariant-messages : goal.invariant-messages
invariant-messages l = IsTakingArriving (view_of l.fn.self) l.from l.until l.arriving l.rest (view_of l.self) l.fn.sent.items l.sent.items

abbrev pub decreases-messages : goal.decreases-messages
decreases-messages l = length (all_arriving l.rest)
