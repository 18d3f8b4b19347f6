use Rattle.std.proofs.Common.{◌≡◌, drop}
use Rattle.toml.specs.View.{items_view}
use Rattle.config_reader.specs.Document.Links.{overrides_in}
use Rattle.sim_base.specs.Keys.{OverridesInRange}
use Rattle.config_reader.proofs.TableViews.{prepend}
use Rattle.config_reader.proofs.links.overrides_in.Given as goal

abbrev pub invariant-loop-value : goal.invariant-loop-value
invariant-loop-value l = record {
  value : overrides_in (items_view l.array.items) ≡ prepend l.overrides.items (overrides_in (items_view (drop l.value-index l.array.items)));
  range : OverridesInRange l.overrides.items;
}
