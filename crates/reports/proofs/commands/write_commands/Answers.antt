use Rattle.reports.proofs.TableLemmas.{commands_text-parts}
use Rattle.reports.proofs.commands.write_commands.Goals as goal

pub returns-clause-written : goal.returns-clause-written
returns-clause-written g c =
    rw (c.in_ok-rows.ensures, ← commands_text-parts) at c.write_whole.ensures.written
