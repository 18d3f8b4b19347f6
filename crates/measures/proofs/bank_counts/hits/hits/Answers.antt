use Rattle.std.proofs.Common.{◌∙◌}
use Rattle.std.specs.HashSet.{contains}
use Rattle.measures.specs.Hits.{same_entry}
use Rattle.measures.proofs.Acts.{count_hits}
use Rattle.measures.proofs.bank_counts.hits.hits.Goals as goal

pub returns : goal.returns
returns c = c.count_hits.ensures ∙ count_hits c.args.commands.now (contains same_entry c.in_ok-entries.entries) c.in_ok-entries.ensures
