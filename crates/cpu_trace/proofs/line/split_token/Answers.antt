use Rattle.std.proofs.Common.{◌<◌, length, sym, ◌∙◌, arith}
use Rattle.std.proofs.lemmas.Bool.{eqb-true, eqb-false}
use Rattle.cpu_trace.proofs.Tokens.{tokens_of-none, tokens_of-first}
use Rattle.cpu_trace.proofs.line.split_token.Goals as goal

pub returns-then-is_empty : goal.returns-then-is_empty
returns-then-is_empty c =
    sym c.skip_separators-rest.ensures.tokens ∙ tokens_of-none _ (eqb-true _ _ (sym c.is_empty.ensures ∙ c.if-is_empty.true))

pub returns : goal.returns
returns c =
    let rest = c.skip_separators-rest.result.now in
    let some : 0 < length rest = omega (arith, eqb-false _ _ (sym c.is_empty.ensures ∙ c.if-is_empty.false)) in
    rw (c.split_at.ensures.front, c.split_at.ensures.back, c.token_len.ensures.value)
    (sym c.skip_separators-rest.ensures.tokens ∙ tokens_of-first rest some (c.skip_separators-rest.ensures.first some))
