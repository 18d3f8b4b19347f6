-- A rank with an open bank is closed first.
use Rattle.std.proofs.Common.{sym, ◌∙◌}
use Rattle.std.proofs.lemmas.Bool.{cond-true, cond-false}
use Rattle.sim_base.specs.declared.command.Command.TheVariants.{Prea, Ref}
use Rattle.sim_base.specs.Rules.{has_open_bank}
use Rattle.sim_base.specs.Scheduling.{refresh_command}
use Rattle.channel_step.proofs.fr_fcfs.needs.refresh_command.Goals as goal

pub returns-then-has_open_bank : goal.returns-then-has_open_bank
unfolding refresh_command
returns-then-has_open_bank c s history bank_candidates groups =
    let open_bank = sym (c.has_open_bank.ensures s history bank_candidates groups) ∙ c.if-has_open_bank.true in
    sym (cond-true (has_open_bank s history c.args.rank) (Prea c.args.rank) (Ref c.args.rank) open_bank)

pub returns-else-has_open_bank : goal.returns-else-has_open_bank
unfolding refresh_command
returns-else-has_open_bank c s history bank_candidates groups =
    let closed = sym (c.has_open_bank.ensures s history bank_candidates groups) ∙ c.if-has_open_bank.false in
    sym (cond-false (has_open_bank s history c.args.rank) (Prea c.args.rank) (Ref c.args.rank) closed)
