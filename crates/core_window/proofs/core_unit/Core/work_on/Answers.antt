-- Each stretch goes on from the last.
use Rattle.std.proofs.Common.{◌≡◌, ◌-◌, subst, arith}
use Rattle.core_window.specs.CoreViews.{view_of}
use Rattle.core_window.specs.Inside.{Advances}
use Rattle.core_window.proofs.Running.{underway-first, underway-more, underway-standing}
use Rattle.core_window.proofs.Stretching.{underway-unsent}
use Rattle.core_window.proofs.core_unit.Core.work_on.Goals as goal

pub cycles-init : goal.cycles-init
cycles-init c = underway-first c.args.until (view_of c.args.self.now) c.args.sent.now.items c.requires.order

pub go_on-requires-clause-stands : goal.go_on-requires-clause-stands
go_on-requires-clause-stands c = underway-standing c.args.until _ _ _ _ c.cycles.invariant c.requires.stands

pub rest_if_stalled-requires-clause-stands : goal.rest_if_stalled-requires-clause-stands
rest_if_stalled-requires-clause-stands c =
    underway-standing c.args.until _ _ _ _
    (underway-more c.args.until (view_of c.args.self.now) (view_of c.cycles.self) (view_of c.go_on.new.self) c.args.sent.now.items c.cycles.sent.items c.go_on.new.sent.items
    c.cycles.invariant (c.in_ok-go_on.ensures {u = tt}))
    c.requires.stands

pub rest_if_stalled-requires-clause-order : goal.rest_if_stalled-requires-clause-order
rest_if_stalled-requires-clause-order c = (c.in_ok-go_on.ensures {u = tt}).until_then

pub cycles-preserved : goal.cycles-preserved
cycles-preserved c =
    underway-unsent c.args.until (view_of c.args.self.now) (view_of c.go_on.new.self) (view_of c.rest_if_stalled.new.self) c.args.sent.now.items c.go_on.new.sent.items
    (underway-more c.args.until (view_of c.args.self.now) (view_of c.cycles.self) (view_of c.go_on.new.self) c.args.sent.now.items c.cycles.sent.items c.go_on.new.sent.items
    c.cycles.invariant (c.in_ok-go_on.ensures {u = tt}))
    c.rest_if_stalled.ensures

pub cycles-smaller : goal.cycles-smaller
cycles-smaller c = omega (arith, (c.in_ok-go_on.ensures {u = tt}).later, c.rest_if_stalled.ensures.since, c.rest_if_stalled.ensures.until_then)

pub returns-clause-advances : goal.returns-clause-advances
returns-clause-advances c =
    let e : c.cycles.self.cycle - c.args.self.now.cycle ≡ c.args.until - c.args.self.now.cycle = omega (arith, c.cycles.invariant.until_then) in
    subst (λ n. Advances n (view_of c.args.self.now) c.args.sent.now.items (view_of c.cycles.self) c.cycles.sent.items) e c.cycles.invariant.advances
