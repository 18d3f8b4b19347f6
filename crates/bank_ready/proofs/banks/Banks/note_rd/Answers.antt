use Rattle.std.proofs.Common.{refl}
use Rattle.sim_base.specs.declared.command.Command.TheVariants.{Rd}
use Rattle.sim_base.specs.declared.command.Source.{Source}
use Rattle.bank_ready.proofs.Stood.{noted_is}
use Rattle.bank_ready.proofs.banks.Banks.note_rd.Goals as goal

pub returns-clause-stands : goal.returns-clause-stands
returns-clause-stands c s history channel row column source h later =
    let command = Rd c.args.bank row column source in
    noted_is c.args.self.now _ s history c.args.cycle channel command command h later refl (c.note_column_command.ensures command refl refl)

pub returns-clause-ranks : goal.returns-clause-ranks
returns-clause-ranks c =
    (c.note_column_command.ensures (Rd c.args.bank 0 0 (record { core = 0; entry = 0 })) refl refl).rank_count
