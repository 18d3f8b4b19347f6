-- One command more is noted, and so all stands for one more.
use Rattle.std.proofs.Common.{sym, subst}
use Rattle.bank_ready.specs.Stands.{followed_by, StandsFor}
use Rattle.bank_ready.proofs.Stood.{noted_is}
use Rattle.bank_ready.proofs.banks.Banks.note.Goals as goal

pub returns-in-Act-clause-stands : goal.returns-in-Act-clause-stands
returns-in-Act-clause-stands c s history channel h later =
    subst (λ z. StandsFor c.note_act.new.self s (followed_by history channel c.args.cycle z)) (sym c.in-Act.is)
    (c.note_act.ensures.stands s history channel c.in-Act.row c.in-Act.source h later)

pub returns-in-Act-clause-ranks : goal.returns-in-Act-clause-ranks
returns-in-Act-clause-ranks c = c.note_act.ensures.ranks

pub returns-in-Rd-clause-stands : goal.returns-in-Rd-clause-stands
returns-in-Rd-clause-stands c s history channel h later =
    subst (λ z. StandsFor c.note_rd.new.self s (followed_by history channel c.args.cycle z)) (sym c.in-Rd.is)
    (c.note_rd.ensures.stands s history channel c.in-Rd.row c.in-Rd.column c.in-Rd.source h later)

pub returns-in-Rd-clause-ranks : goal.returns-in-Rd-clause-ranks
returns-in-Rd-clause-ranks c = c.note_rd.ensures.ranks

pub returns-in-Wr-clause-stands : goal.returns-in-Wr-clause-stands
returns-in-Wr-clause-stands c s history channel h later =
    subst (λ z. StandsFor c.note_wr.new.self s (followed_by history channel c.args.cycle z)) (sym c.in-Wr.is)
    (c.note_wr.ensures.stands s history channel c.in-Wr.row c.in-Wr.column c.in-Wr.source h later)

pub returns-in-Wr-clause-ranks : goal.returns-in-Wr-clause-ranks
returns-in-Wr-clause-ranks c = c.note_wr.ensures.ranks

pub returns-in-Pre-clause-stands : goal.returns-in-Pre-clause-stands
returns-in-Pre-clause-stands c s history channel h later =
    subst (λ z. StandsFor c.note_pre.new.self s (followed_by history channel c.args.cycle z)) (sym c.in-Pre.is)
    (c.note_pre.ensures.stands s history channel c.in-Pre.source h later)

pub returns-in-Pre-clause-ranks : goal.returns-in-Pre-clause-ranks
returns-in-Pre-clause-ranks c = c.note_pre.ensures.ranks

pub returns-in-Prea-clause-stands : goal.returns-in-Prea-clause-stands
returns-in-Prea-clause-stands c s history channel h later =
    noted_is c.args.self.now c.note_prea.new.self s history c.args.cycle channel c.args.command _ h later c.in-Prea.is c.note_prea.ensures

pub returns-in-Ref-clause-stands : goal.returns-in-Ref-clause-stands
returns-in-Ref-clause-stands c s history channel h later =
    noted_is c.args.self.now c.note_ref.new.self s history c.args.cycle channel c.args.command _ h later c.in-Ref.is c.note_ref.ensures
