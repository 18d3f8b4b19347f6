use Rattle.std.proofs.Common.{refl, sym, ap, subst}
use Rattle.std.specs.Prelude.{is_err}
use Rattle.std.proofs.lemmas.Result.{IfOk-from_err, err_from_is_err_and, on_ok_weaker}
use Rattle.sim_base.specs.declared.message.Unit.TheVariants as unit
use Rattle.units.specs.Kept.{served_by_channel}
use Rattle.units.specs.Parts.{IsPart}
use Rattle.units.specs.Runs.{HasChannelAt, commands_at}
use Rattle.units.proofs.tables.add_part.Goals as goal

pub returns-in-Core-clause-core : goal.returns-in-Core-clause-core
returns-in-Core-clause-core c machine core now h = refl

pub returns-in-Core-clause-commands : goal.returns-in-Core-clause-commands
returns-in-Core-clause-commands c machine channel now rows h held = absurd (subst (IsPart machine (unit.Channel channel) now) c.in-Core.is h)

pub returns-in-Core-clause-served : goal.returns-in-Core-clause-served
returns-in-Core-clause-served c machine channel now rows l h held = absurd (subst (IsPart machine (unit.Channel channel) now) c.in-Core.is h)

pub returns-in_err-add-in-Channel-clause-core : goal.returns-in_err-add-in-Channel-clause-core
returns-in_err-add-in-Channel-clause-core c machine core now h = absurd (subst (IsPart machine (unit.Core core) now) c.in-Channel.is h)

pub returns-in_err-add-in-Channel-clause-commands : goal.returns-in_err-add-in-Channel-clause-commands
returns-in_err-add-in-Channel-clause-commands c machine channel now rows h held =
    IfOk-from_err c.from_residual.result _ (ap is_err (err_from_is_err_and c.from_residual.result c.from_residual.ensures.1).1)

pub returns-in_err-add-in-Channel-clause-served : goal.returns-in_err-add-in-Channel-clause-served
returns-in_err-add-in-Channel-clause-served c machine channel now rows l h held =
    IfOk-from_err c.from_residual.result _ (ap is_err (err_from_is_err_and c.from_residual.result c.from_residual.ensures.1).1)

pub returns-clause-served_asked : goal.returns-clause-served_asked
returns-clause-served_asked c = on_ok_weaker c.add-in-Channel.result (λ _. (c.in_ok-add-in-Channel.ensures {u = tt}).asked) c.add-in-Channel.ensures.asked

pub returns-clause-core : goal.returns-clause-core
returns-clause-core c machine core now h = absurd (subst (IsPart machine (unit.Core core) now) c.in-Channel.is h)

pub returns-clause-commands : goal.returns-clause-commands
returns-clause-commands c machine channel now rows h held =
    let stands = subst (IsPart machine (unit.Channel channel) now) c.in-Channel.is h in
    c.add-in-Channel.ensures.held rows (commands_at machine now channel) held stands.1

pub returns-clause-served : goal.returns-clause-served
returns-clause-served c machine channel now rows l h held =
    let stands = subst (IsPart machine (unit.Channel channel) now) c.in-Channel.is h in
    let own = (c.in_ok-add-in-Channel.ensures {u = tt}).held rows (served_by_channel machine now channel) held (c.list_of.ensures machine channel now l (subst (HasChannelAt machine channel now) (sym c.into_inner.ensures) stands.0)) in
    on_ok_weaker c.add-in-Channel.result (λ _. own) c.add-in-Channel.ensures.asked
