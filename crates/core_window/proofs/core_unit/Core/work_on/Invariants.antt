-- As many cycles are done as the core went on.
use Rattle.std.proofs.Common.{◌-◌}
use Rattle.core_window.specs.CoreViews.{view_of}
use Rattle.core_window.proofs.Running.{IsUnderway}
use Rattle.core_window.proofs.core_unit.Core.work_on.Given as goal

abbrev pub invariant-cycles : goal.invariant-cycles
invariant-cycles l = IsUnderway l.until (view_of l.fn.self) l.fn.sent.items (view_of l.self) l.sent.items

abbrev pub decreases-cycles : goal.decreases-cycles
decreases-cycles l = l.until - l.self.cycle
