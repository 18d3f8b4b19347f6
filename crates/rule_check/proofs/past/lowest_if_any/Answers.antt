-- A row that keeps every rule breaks none.
use Rattle.std.proofs.Common.{◌∙◌, sym}
use Rattle.std.specs.List.{range_with_len}
use Rattle.rule_check.proofs.Quick.{none-found}
use Rattle.rule_check.proofs.past.lowest_if_any.Goals as goal

pub returns-then-keeps_each : goal.returns-then-keeps_each
returns-then-keeps_each c =
    sym (none-found c.args.config.now c.args.table.now c.args.before.now.last c.args.before.now.channel.now c.args.row (range_with_len 1 21)
    (sym c.stands_wrongly.ensures ∙ c.if-not-stands_wrongly.true) (sym c.keeps_each.ensures ∙ c.if-keeps_each.true))
