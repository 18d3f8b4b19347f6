use Rattle.std.proofs.Common.{◌≡◌, ◌+◌, ◌*◌, ◌<◌, max, None, ap, ◌∙◌, arith}
use Rattle.bank_ready.proofs.Due.{rank_due_from, rank_never_due, rank_due_from_owed}
use Rattle.bank_ready.proofs.refresh.Refresh.first_due.Goals as goal

pub returns-clause-value : goal.returns-clause-value
returns-clause-value c =
    let counts = c.args.self.now in
    let interval = ap (λ v. v.interval) c.self.view_is in
    let some : 0 < counts.interval = omega (arith, interval, c.if-self-eq0.false) in
    let latest = c.max.ensures ∙ (λ i. max c.args.now ((c.issued.ensures i + 1) * (c.from.ensures ∙ interval) i)) in
    rank_due_from counts c.args.rank c.args.now c.max.result some latest

pub returns-clause-stands : goal.returns-clause-stands
returns-clause-stands c s history stands =
    rank_due_from_owed c.args.self.now s history c.args.rank c.args.now _ stands c.requires (returns-clause-value c)

pub returns-then-self-eq0-clause-stands : goal.returns-then-self-eq0-clause-stands
returns-then-self-eq0-clause-stands c s history stands =
    let counts = c.args.self.now in
    let interval = ap (λ v. v.interval) c.self.view_is in
    let none : counts.interval ≡ 0 = omega (arith, interval, c.if-self-eq0.true) in
    rank_due_from_owed counts s history c.args.rank c.args.now None stands c.requires (rank_never_due counts c.args.rank c.args.now none)
