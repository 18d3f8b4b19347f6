-- A rest counts as a product, and any other cycle goes alone.
use Rattle.std.proofs.Common.{arith}
use Rattle.core_window.specs.CoreViews.{view_of}
use Rattle.core_window.proofs.Stretching.{rest-steady, steady-goes, cycle-goes}
use Rattle.sim_base.proofs.Results.{both_on_ok}
use Rattle.core_window.proofs.core_unit.Core.rest_or_step.Goals as goal

pub repeat-requires-clause-steady : goal.repeat-requires-clause-steady
repeat-requires-clause-steady c =
    rest-steady (view_of c.args.self.now) c.cycle_work-cycle_work.result.core_step c.cycle_work-cycle_work.result.why c.cycle_work-cycle_work.result.memory _ c.if-cycle_work-eq0.true c.if-cycle_work-eq0-2.true c.cycle_work-cycle_work.ensures.does

pub returns-then-cycle_work-eq0-2 : goal.returns-then-cycle_work-eq0-2
returns-then-cycle_work-eq0-2 c =
    steady-goes (view_of c.args.self.now) (view_of c.repeat.new.self) _ c.args.until c.cycle_work-cycle_work.result.core_step c.cycle_work-cycle_work.result.why c.args.sent.now.items
    (rest-steady (view_of c.args.self.now) c.cycle_work-cycle_work.result.core_step c.cycle_work-cycle_work.result.why c.cycle_work-cycle_work.result.memory _ c.if-cycle_work-eq0.true c.if-cycle_work-eq0-2.true c.cycle_work-cycle_work.ensures.does)
    c.repeat.ensures (omega arith) (omega arith)

pub returns-else-cycle_work-eq0 : goal.returns-else-cycle_work-eq0
returns-else-cycle_work-eq0 c =
    both_on_ok c.step.result
    (λ e h. cycle-goes (view_of c.args.self.now) (view_of c.step.new.self) c.args.until c.args.sent.now.items c.step.new.sent.items c.requires.order e h)
    c.step.ensures.cycle c.step.ensures.advances

pub repeat-requires-clause-within : goal.repeat-requires-clause-within
repeat-requires-clause-within c = rw c.if-cycle_work-eq0-2.true (omega (arith, c.args.self.now.seen.ahead.first.is_from))
