use Rattle.std.proofs.Common.{◌≡◌, drop}
use Rattle.toml.specs.View.{items_view}
use Rattle.config_reader.specs.Document.Fields.{fields_named}
use Rattle.config_reader.proofs.TableViews.{prepend}
use Rattle.config_reader.proofs.fields.fields_named.Given as goal

abbrev pub invariant-loop-value : goal.invariant-loop-value
invariant-loop-value l =
    fields_named (items_view l.array.items) ≡ prepend l.fields.items (fields_named (items_view (drop l.value-index l.array.items)))
