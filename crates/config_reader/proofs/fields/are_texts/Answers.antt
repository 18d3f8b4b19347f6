use Rattle.std.proofs.Common.{◌≡◌, ◌∙◌}
use Rattle.std.specs.Prelude.{is_some}
use Rattle.std.specs.List.{list_all}
use Rattle.toml.specs.Data.{as_str}
use Rattle.toml.specs.View.{view}
use Rattle.config_reader.proofs.TableViews.{are_texts-view}
use Rattle.config_reader.proofs.fields.are_texts.Goals as goal

pub returns : goal.returns
returns c =
    let tested : c.has_texts.result ≡ list_all (λ v. is_some (as_str (view v))) c.args.array.now.items = rw (← c.deref.ensures.value) c.has_texts.ensures in
    tested ∙ are_texts-view c.args.array.now.items
