-- A run of Plain entries counts as a product.
use Rattle.std.proofs.Common.{arith}
use Rattle.core_window.specs.CoreViews.{view_of}
use Rattle.core_window.proofs.Stretching.{unsent-none, unsent-steady}
use Rattle.core_window.proofs.core_unit.Core.flow_on.Goals as goal

pub returns-then-flow-eq0 : goal.returns-then-flow-eq0
returns-then-flow-eq0 c = unsent-none (view_of c.args.self.now) c.args.until (omega arith)

pub returns : goal.returns
returns c =
    unsent-steady (view_of c.args.self.now) (view_of c.repeat.new.self) c.flow-flow.result.cycles c.args.until _ _ c.flow-flow.ensures.steady c.repeat.ensures (omega (arith, c.flow-flow.ensures.most))
