use Rattle.std.proofs.Common.{◌<◌, ap, subst, arith}
use Rattle.bank_ready.specs.Refreshes.{NoneIsDueTo}
use Rattle.bank_ready.proofs.Due.{next_is_first, first_due_from_owed}
use Rattle.bank_ready.proofs.refresh.Refresh.next_due.Goals as goal

pub returns-clause-next : goal.returns-clause-next
returns-clause-next c =
    let counts = c.args.self.now in
    let none_due_to = c.self.inside.none_due_to in
    let some : 0 < counts.interval = omega (arith, ap (λ v. v.interval) c.self.view_is, c.if-self-eq0.false) in
    next_is_first counts c.args.now none_due_to c.max.result some (subst (λ v. NoneIsDueTo v none_due_to) c.self.view_is c.self.invariant.none_is_due_to) c.max.ensures

pub returns-clause-stands : goal.returns-clause-stands
returns-clause-stands c s history stands =
    first_due_from_owed c.args.self.now s history c.args.now c.max.result stands (returns-clause-next c)
