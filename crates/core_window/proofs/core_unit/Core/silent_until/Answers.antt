-- A core that never acts sends nothing, and one that has Plain entries before it none while it issues these.
use Rattle.std.proofs.Common.{subst, arith}
use Rattle.core_window.specs.CoreViews.{view_of}
use Rattle.core_window.specs.Rests.{IsNextAct}
use Rattle.core_window.proofs.Silent.{rest-silent, plain-silent}
use Rattle.core_window.proofs.core_unit.Core.silent_until.Goals as goal

pub returns-in-Some-clause-silent : goal.returns-in-Some-clause-silent
returns-in-Some-clause-silent c =
    plain-silent (view_of c.args.self.now) c.args.self.now.ahead.first_at c.args.self.now.ahead.second_at c.plain_cycles.result c.saturating_add.result c.args.self.now.ahead.entry
    c.args.self.now.seen c.plain_cycles.ensures (omega (arith, c.requires.at, c.saturating_add.ensures))

pub returns-in-None-clause-silent : goal.returns-in-None-clause-silent
returns-in-None-clause-silent c s core trace steps mail h =
    rest-silent s core trace steps mail 18446744073709551615 (subst (IsNextAct s core trace steps mail) c.in-None.is (c.next_act.ensures s core trace steps mail h))
