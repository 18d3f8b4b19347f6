use Rattle.std.proofs.Common.{◌∙◌}
use Rattle.config_reader.proofs.TableViews.{keys_are_known-view}
use Rattle.config_reader.proofs.keys.has_known_keys.Goals as goal

pub returns : goal.returns
returns c = c.are_known.ensures ∙ keys_are_known-view c.args.table.now.entries
