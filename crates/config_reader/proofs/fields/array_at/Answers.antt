use Rattle.std.proofs.Common.{◌∙◌, ap}
use Rattle.std.specs.Option.{option_and_then}
use Rattle.toml.specs.Data.{as_array}
use Rattle.config_reader.proofs.fields.array_at.Goals as goal

pub returns-in-Some : goal.returns-in-Some
returns-in-Some c = c.as_array.ensures ∙ ap (option_and_then as_array) (c.in-Some.ensures {u = tt})

pub returns-in-None : goal.returns-in-None
returns-in-None c = ap (option_and_then as_array) (c.in-None.ensures {u = tt})
