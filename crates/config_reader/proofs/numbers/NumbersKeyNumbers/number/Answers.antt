-- The number is not refused, and so it is one that its key accepts.
use Rattle.std.specs.Prelude.{IsOk}
use Rattle.toml.specs.View.{table_view}
use Rattle.sim_base.specs.Keys.{AcceptedAt}
use Rattle.config_reader.proofs.KeysListed.{right_number, kept}
use Rattle.config_reader.proofs.numbers.NumbersKeyNumbers.number.Goals as goal

pub returns-clause-accepted : goal.returns-clause-accepted
returns-clause-accepted c =
    let numbers = c.args.self.now in
    let right : IsOk c.number_at.result = rw c.number_at.ensures.value (right_number (table_view numbers.table.now) numbers.are_numbers c.args.key c.requires) in
    rw c.unwrap_or.ensures (kept (AcceptedAt c.args.key) c.number_at.result right c.number_at.ensures.accepted)
