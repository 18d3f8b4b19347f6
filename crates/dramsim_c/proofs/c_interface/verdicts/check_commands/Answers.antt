use Rattle.dramsim_c.proofs.CInterface.Judging.{judged}
use Rattle.dramsim_c.proofs.c_interface.verdicts.check_commands.Goals as goal

pub returns-in-Ok : goal.returns-in-Ok
returns-in-Ok c =
    judged c.args.text.now c.args.table.now c.in-Ok.config c.args.row.now c.judge.new.row c.judge.result ((c.in-Ok.ensures {u = tt}).ok) c.judge.ensures
