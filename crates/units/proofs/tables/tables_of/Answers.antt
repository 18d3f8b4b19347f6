use Rattle.std.proofs.Common.{ap, ◌∙◌}
use Rattle.units.specs.Kept.{command_table_if, request_table_if}
use Rattle.units.proofs.tables.tables_of.Goals as goal

pub returns : goal.returns
returns c =
    let machine = c.args.machine.now in
    let kept = c.in_ok-commands.ensures in
    record {
      commands = c.command_table.ensures ∙ ap (λ asked. command_table_if asked machine c.args.now) kept.commands_asked;
      requests = c.in_ok-requests.ensures {u = tt} ∙ ap (λ asked. request_table_if asked machine c.args.now) kept.served_asked;
    }
