use Rattle.std.proofs.Common.{sym, subst}
use Rattle.sim_base.specs.Scheduling.{source_of, column_command_to}
use Rattle.sim_base.specs.declared.command.Command.{Command}
use Rattle.sim_base.specs.declared.command.Command.TheVariants.{Rd, Wr}
use Rattle.bank_ready.specs.Stands.{followed_by, StandsFor as BanksStandFor}
use Rattle.sim_base.specs.Places.{bank_in}
use Rattle.channel_step.proofs.noting.note_column_command.Goals as goal

pub returns-in-Read-clause-stands : goal.returns-in-Read-clause-stands
returns-in-Read-clause-stands c s history channel h later =
    let r = c.args.request.now in
    let after : Command → Type 0 = λ x. BanksStandFor c.note_rd.new.self s (followed_by history channel c.args.now x) in
    subst (λ a. after (column_command_to a (bank_in r.place) r.place.row r.place.column (source_of r))) (sym c.in-Read.is)
    (subst (λ b. after (Rd b r.place.row r.place.column (source_of r))) c.bank_id-bank.ensures
    (c.note_rd.ensures.stands s history channel r.place.row r.place.column (source_of r) h later))

pub returns-in-Write-clause-stands : goal.returns-in-Write-clause-stands
returns-in-Write-clause-stands c s history channel h later =
    let r = c.args.request.now in
    let after : Command → Type 0 = λ x. BanksStandFor c.note_wr.new.self s (followed_by history channel c.args.now x) in
    subst (λ a. after (column_command_to a (bank_in r.place) r.place.row r.place.column (source_of r))) (sym c.in-Write.is)
    (subst (λ b. after (Wr b r.place.row r.place.column (source_of r))) c.bank_id-bank.ensures
    (c.note_wr.ensures.stands s history channel r.place.row r.place.column (source_of r) h later))
