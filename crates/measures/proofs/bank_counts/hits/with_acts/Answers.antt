use Rattle.std.proofs.Common.{sym, ap, ◌∙◌}
use Rattle.std.specs.List.{list_any}
use Rattle.measures.specs.Hits.{same_entry}
use Rattle.measures.proofs.Acts.{none_yet}
use Rattle.measures.proofs.bank_counts.hits.with_acts.Goals as goal

-- there is none before the first command
pub loop-issued-init : goal.loop-issued-init
loop-issued-init c = λ q. ap (list_any (same_entry q)) c.new-entries.ensures.empty ∙ sym (none_yet q)
