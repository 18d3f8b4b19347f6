-- A run of Plain entries comes first, and then a rest or a cycle.
use Rattle.std.proofs.Common.{arith}
use Rattle.core_window.specs.CoreViews.{view_of}
use Rattle.core_window.proofs.Stretching.{ok-map, unsent-standing, unsent-then, unsent-all}
use Rattle.core_window.proofs.core_unit.Core.go_on.Goals as goal

pub rest_or_step-requires-clause-stands : goal.rest_or_step-requires-clause-stands
rest_or_step-requires-clause-stands c = unsent-standing (view_of c.args.self.now) (view_of c.flow_on.new.self) c.args.until c.flow_on.ensures c.requires.stands

pub returns-then-self-until : goal.returns-then-self-until
returns-then-self-until c =
    unsent-all (view_of c.args.self.now) (view_of c.flow_on.new.self) c.args.until c.args.sent.now.items c.flow_on.ensures c.requires.order (omega (arith, c.if-self-until.true))

pub returns : goal.returns
returns c =
    ok-map c.rest_or_step.result _ _
    (unsent-then (view_of c.args.self.now) (view_of c.flow_on.new.self) (view_of c.rest_or_step.new.self) c.args.until c.args.sent.now.items c.rest_or_step.new.sent.items c.flow_on.ensures)
    c.rest_or_step.ensures
