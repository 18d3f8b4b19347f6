-- One bank more is closed, if it is of the rank.
use Rattle.std.proofs.Common.{◌+◌, ◌/◌, None, refl, sym, ap, subst, ◌∙◌, eq-eqb, ne_eqb, arith}
use Rattle.queue.specs.Stands.{StandsFor, bank_count, with_row, closed_in}
use Rattle.queue.proofs.Stood.{same_rows, closed_before, closed_more, closed_same, closed_none, closed_all}
use Rattle.queue.proofs.bank_candidates.all_banks.BankCandidates.closed_rank.Goals as goal
use Rattle.queue.proofs.bank_candidates.all_banks.BankCandidates.closed_rank.Goals.{then-number-rank, else-number-rank}

pub loop-number-init : goal.loop-number-init
loop-number-init c = record {
  banks = refl;
  stands = λ log open_rows stands.
      same_rows c.args.self.now log open_rows (closed_before 0 c.args.rank open_rows) stands (λ bank exists. closed_none c.args.rank open_rows bank);
}

pub loop-number-preserved : goal.loop-number-preserved
loop-number-preserved c =
    let old = c.loop-number.self in
    let number = c.loop-number.number in
    let before = c.loop-number.invariant in
    elim c.if-number-rank.branch [
      | then-number-rank w ↦ record {
        banks = ap bank_count w.self-is ∙ w.close.ensures.banks ∙ before.banks;
        stands = λ log open_rows stands.
            let closed = w.close.ensures.stands log (closed_before number c.args.rank open_rows) (before.stands log open_rows stands) in
            subst (λ x. StandsFor x log (closed_before (number + 1) c.args.rank open_rows)) (sym w.self-is)
            (same_rows w.close.new.self log (with_row number None (closed_before number c.args.rank open_rows)) (closed_before (number + 1) c.args.rank open_rows) closed
            (λ bank there. closed_more number c.args.rank open_rows (eq-eqb (number / 16) c.args.rank w.if-number-rank.true) bank));
      }
      | else-number-rank w ↦ record {
        banks = ap bank_count w.self-is ∙ before.banks;
        stands = λ log open_rows stands.
            subst (λ x. StandsFor x log (closed_before (number + 1) c.args.rank open_rows)) (sym w.self-is)
            (same_rows old log (closed_before number c.args.rank open_rows) (closed_before (number + 1) c.args.rank open_rows) (before.stands log open_rows stands)
            (λ bank there. closed_same number c.args.rank open_rows (ne_eqb (number / 16) c.args.rank w.if-number-rank.false) bank));
      }
    ]

pub returns-clause-stands : goal.returns-clause-stands
returns-clause-stands c log open_rows stands =
    same_rows c.loop-number.self log (closed_before c.loop-number.number c.args.rank open_rows) (closed_in c.args.rank open_rows) (c.loop-number.invariant.stands log open_rows stands)
    (λ bank there. closed_all c.loop-number.number c.args.rank open_rows bank (omega (arith, c.loop-number.invariant.banks, c.len-number-end.ensures)))
