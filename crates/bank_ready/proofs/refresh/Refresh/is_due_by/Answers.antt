use Rattle.std.proofs.Common.{sym, subst, arith}
use Rattle.bank_ready.specs.Refreshes.{NoneIsDueTo}
use Rattle.bank_ready.proofs.Due.{due_by_is}
use Rattle.bank_ready.proofs.refresh.Refresh.is_due_by.Goals as goal

pub returns : goal.returns
returns c =
    let none_due_to = c.self.inside.none_due_to in
    sym (due_by_is c.args.self.now none_due_to c.args.cycle (omega arith) (subst (λ v. NoneIsDueTo v none_due_to) c.self.view_is c.self.invariant.none_is_due_to))
