use Rattle.reports.proofs.PieceLemmas.{lines-joined}
use Rattle.reports.specs.Commands.{command_fields}
use Rattle.reports.proofs.TableLemmas.{commands_text-parts}
use Rattle.reports.proofs.commands.write_commands_by.Goals as goal

pub returns-clause-written : goal.returns-clause-written
returns-clause-written g c =
    rw (c.deref.ensures.value, lines-joined (command_fields c.args.ranks), c.in_ok-pieces.ensures, ← commands_text-parts) at c.write_pieces.ensures.written
