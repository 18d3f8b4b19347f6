-- A rank with an open bank is closed first.
use Rattle.std.proofs.Common.{not, refl, sym, ap, subst, ◌∙◌}
use Rattle.std.proofs.lemmas.Bool.{cond-true, cond-false}
use Rattle.sim_base.specs.declared.command.Command.TheVariants.{Prea, Ref}
use Rattle.sim_base.specs.Rules.{has_open_bank}
use Rattle.sim_base.specs.Scheduling.{refresh_command}
use Rattle.channel_step.specs.FrFcfs.Requests.{IsLegalFrom}
use Rattle.channel_step.proofs.FrFcfs.Legal.{legal_from}
use Rattle.channel_step.proofs.fr_fcfs.needs.refresh_ready.Goals as goal

pub returns-then-has_open_bank : goal.returns-then-has_open_bank
unfolding refresh_command
returns-then-has_open_bank c s history stands bank_candidates groups =
    let open_bank = sym (c.has_open_bank.ensures s history bank_candidates groups) ∙ c.if-has_open_bank.true in
    let command = sym (cond-true (has_open_bank s history c.args.rank) (Prea c.args.rank) (Ref c.args.rank) open_bank) in
    subst (λ x. IsLegalFrom s history x c.earliest_all.result) command
    (legal_from s history (Prea c.args.rank) c.earliest_all.result refl (c.earliest_all.ensures.least s history (Prea c.args.rank) stands refl refl))

pub returns-else-has_open_bank : goal.returns-else-has_open_bank
unfolding refresh_command
returns-else-has_open_bank c s history stands bank_candidates groups =
    let closed = sym (c.has_open_bank.ensures s history bank_candidates groups) ∙ c.if-has_open_bank.false in
    let command = sym (cond-false (has_open_bank s history c.args.rank) (Prea c.args.rank) (Ref c.args.rank) closed) in
    subst (λ x. IsLegalFrom s history x c.earliest_all-else-has_open_bank.result) command
    (legal_from s history (Ref c.args.rank) c.earliest_all-else-has_open_bank.result (ap not closed)
    (c.earliest_all-else-has_open_bank.ensures.least s history (Ref c.args.rank) stands refl refl))
