use Rattle.std.proofs.Common.{ap, sym, ◌∙◌, arith}
use Rattle.std.specs.Prelude.{nat_le, is_some}
use Rattle.std.proofs.lemmas.Bool.{lt-leb}
use Rattle.bank_ready.proofs.Due.{none_owed_before}
use Rattle.channel_step.proofs.Dues.{due_from_next}
use Rattle.channel_step.proofs.channel.Channel.due_from.Goals as goal

pub returns-in-Some-clause-due : goal.returns-in-Some-clause-due
returns-in-Some-clause-due c cycle from before =
    due_from_next c.args.self.now.refresh c.args.self.now.cycle c.args.until c.in-Some.due cycle (c.in-Some.ensures {u = tt}).next from before
    ∙ ap (λ t. nat_le t cycle) (sym c.min.ensures)

pub returns-then-not-is_due_by-clause-due : goal.returns-then-not-is_due_by-clause-due
returns-then-not-is_due_by-clause-due c cycle from before =
    let none = sym c.is_due_by.ensures ∙ c.if-not-is_due_by.true in
    ap is_some (none_owed_before c.args.self.now.refresh cycle c.args.until (omega arith) none) ∙ sym (lt-leb c.args.until cycle before)
