-- The numbers of a core say how many cycles are alike.
use Rattle.std.proofs.Common.{arith}
use Rattle.core_window.specs.CoreViews.{view_of}
use Rattle.core_window.proofs.Flowing.{flow-here, flow-none}
use Rattle.core_window.proofs.Working.{sound}
use Rattle.core_window.proofs.core_unit.Core.flow.Goals as goal

pub flow_of-requires-clause-order : goal.flow_of-requires-clause-order
flow_of-requires-clause-order c = (sound (view_of c.args.self.now) c.requires).retired

pub flow_of-requires-clause-room : goal.flow_of-requires-clause-room
flow_of-requires-clause-room c = (sound (view_of c.args.self.now) c.requires).window

pub returns-clause-steady : goal.returns-clause-steady
returns-clause-steady c =
    flow-here (view_of c.args.self.now) c.args.self.now.ahead.first_at c.args.self.now.ahead.second_at c.flow_of.result.retired c.flow_of.result.cycles c.saturating_sub-2.result _
    c.args.self.now.seen.ahead (sound (view_of c.args.self.now) c.requires).retired (omega (arith, c.args.self.now.config.core_in_range.width_in)) c.flow_of.ensures.plain
    (omega (arith, c.len.ensures.value)) c.as_slice.ensures c.flow_of.ensures.flow

pub returns-clause-within : goal.returns-clause-within
returns-clause-within c = let from = c.args.self.now.seen.ahead.first.is_from in omega (arith, c.flow_of.ensures.plain, c.len.ensures.value)

pub returns-then-saturating_sub-from-clause-steady : goal.returns-then-saturating_sub-from-clause-steady
returns-then-saturating_sub-from-clause-steady c = flow-none (view_of c.args.self.now) _ _

pub returns-then-saturating_sub-from-clause-within : goal.returns-then-saturating_sub-from-clause-within
returns-then-saturating_sub-from-clause-within c = let from = c.args.self.now.seen.ahead.first.is_from in omega arith
