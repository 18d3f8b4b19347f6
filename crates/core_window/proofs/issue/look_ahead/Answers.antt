-- The second memory entry is the next one, where the first has issued.
use Rattle.core_window.proofs.Foreseeing.{second_next}
use Rattle.core_window.proofs.issue.look_ahead.Goals as goal

pub returns-then-ahead-number-clause-seen : goal.returns-then-ahead-number-clause-seen
returns-then-ahead-number-clause-seen c =
    let at = c.args.ahead.now in
    c.go_to_second.ensures.seen c.args.number (second_next c.args.trace.now c.requires.seen.0 c.args.number at.first_at at.second_at at.entry c.requires.seen.2 c.if-ahead-number.true c.requires.within) c.requires.second
