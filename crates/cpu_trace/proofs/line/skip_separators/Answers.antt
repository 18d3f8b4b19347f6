use Rattle.std.proofs.lemmas.List.{take_rest}
use Rattle.cpu_trace.proofs.Tokens.{tokens_of-skip, skip-first}
use Rattle.cpu_trace.proofs.line.skip_separators.Goals as goal

pub returns-clause-tokens : goal.returns-clause-tokens
returns-clause-tokens c = rw (take_rest c.args.line.now c.separators.result, c.separators.ensures.value) (tokens_of-skip c.args.line.now)

pub returns-clause-first : goal.returns-clause-first
returns-clause-first c = rw (take_rest c.args.line.now c.separators.result, c.separators.ensures.value) (skip-first c.args.line.now)
