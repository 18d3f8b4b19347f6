use Rattle.std.proofs.Common.{◌≡◌, drop}
use Rattle.toml.specs.View.{table_view}
use Rattle.config_reader.specs.Document.Numbers.{numbers_of}
use Rattle.config_reader.proofs.numbers.check_numbers.Given as goal

abbrev pub invariant-loop-key : goal.invariant-loop-key
invariant-loop-key l =
    let members = table_view l.table in
    numbers_of members l.keys ≡ numbers_of members (drop l.key-index l.keys)
