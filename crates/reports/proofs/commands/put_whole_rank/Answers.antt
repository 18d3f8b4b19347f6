use Rattle.std.proofs.Common.{codes}
use Rattle.reports.proofs.LineLemmas.{last_field}
use Rattle.reports.proofs.commands.put_whole_rank.Goals as goal

pub returns-clause-text : goal.returns-clause-text
returns-clause-text c =
    let last = last_field _ (codes ",,,,,") c.args.line.now c.told-line c.put_bytes-start.ensures.text in
    rw (c.put_rank-start.ensures.text, c.from.ensures, last) at c.put_word.ensures.text
