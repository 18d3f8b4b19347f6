-- The first memory entry was found.
use Rattle.core_window.proofs.issue.next_two.Goals as goal

pub returns-clause-seen : goal.returns-clause-seen
returns-clause-seen c = c.ahead_of.ensures.seen c.args.from c.next_or_end.ensures.next c.next_or_end.ensures.entry
