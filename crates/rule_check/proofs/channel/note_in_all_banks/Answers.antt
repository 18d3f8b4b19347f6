-- One bank more.
use Rattle.std.proofs.Common.{◌<◌, ◌∙◌, None, length, get_or, ap, arith}
use Rattle.sim_base.specs.declared.place.BankId.{BankId}
use Rattle.rule_check.specs.declared.state.Bank.{Bank}
use Rattle.rule_check.specs.Kept.{nothing, bank_after}
use Rattle.sim_base.specs.Places.{bank_at}
use Rattle.rule_check.proofs.Loops.{one_changed, others_left}
use Rattle.rule_check.proofs.channel.note_in_all_banks.Goals as goal

pub loop-k-preserved : goal.loop-k-preserved
loop-k-preserved c =
    let inside : c.loop-k.k < length c.loop-k.banks = omega arith in
    let none : Bank = record { latest = nothing; row = None } in
    record {
      noted =
          one_changed (λ k (x : Bank). bank_after (bank_at k) c.args.cycle c.args.command x) c.loop-k.banks c.args.banks.now c.loop-k.k c.note_in_bank.new.state none inside
          c.loop-k.invariant.noted c.loop-k.invariant.left
          (c.note_in_bank.ensures ∙ ap (λ (b : BankId). bank_after b c.args.cycle c.args.command (get_or c.loop-k.banks c.loop-k.k none)) c.with_number.ensures);
      left = others_left c.loop-k.banks c.args.banks.now c.loop-k.k c.note_in_bank.new.state c.loop-k.invariant.left;
    }
