-- What arrived first is taken, and the core has yet to come up to it.
use Rattle.std.proofs.Common.{length}
use Rattle.core_window.specs.CoreViews.{view_of}
use Rattle.core_window.specs.Stalled.{IsBehind}
use Rattle.core_window.proofs.core_unit.Core.take_while_stalled.Given as goal

abbrev pub invariant-replies : goal.invariant-replies
invariant-replies l = IsBehind (view_of l.fn.self) l.fn.self.cycle l.until l.fn.arriving l.rest l.first (view_of l.self)

abbrev pub decreases-replies : goal.decreases-replies
decreases-replies l = length l.rest.replies.now
