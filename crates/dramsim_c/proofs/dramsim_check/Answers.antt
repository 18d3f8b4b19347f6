use Rattle.std.proofs.Common.{sym, subst}
use Rattle.dramsim_c.specs.CInterface.Statuses.{IsJudgedAs}
use Rattle.dramsim_c.proofs.Judging.{judged-as}
use Rattle.dramsim_c.proofs.dramsim_check.Goals as goal

pub returns : goal.returns
returns c =
    let text = c.args.text.now in
    let table = c.args.table.now in
    let old = c.args.row.now in
    let new = c.check_commands.new.row in
    record { judged = subst (IsJudgedAs text table old new) (sym c.status.ensures) (judged-as text table old new c.check_commands.result c.check_commands.ensures) }
