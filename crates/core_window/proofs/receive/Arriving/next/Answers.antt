-- The next message by age is the first credit or the first reply.
use Rattle.std.proofs.Common.{sym, ◌∙◌, arith}
use Rattle.std.proofs.lemmas.Bool.Decides.{nat_tests}
use Rattle.core_window.proofs.Arriving.{others_by_age, credit_first, no_reply, reply_younger, reply_first, none_before, none_before_first, first_and_others}
use Rattle.core_window.proofs.receive.Arriving.next.Goals as goal

pub returns-in-empty-len1-up-clause-some : goal.returns-in-empty-len1-up-clause-some
returns-in-empty-len1-up-clause-some c =
    let replies = c.args.self.now.replies.now in
    let credits = c.args.self.now.credits.now in
    credit_first _ replies credits _ (first_and_others _ credits (grind (arith, nat_tests))) c.requires (no_reply _ replies (grind (arith, nat_tests)))

pub returns-in-empty-len1-up-clause-by_age : goal.returns-in-empty-len1-up-clause-by_age
returns-in-empty-len1-up-clause-by_age c = others_by_age c.args.self.now.credits.now (grind (arith, nat_tests)) c.requires

pub returns-in-len1-up-len1-up-clause-some : goal.returns-in-len1-up-len1-up-clause-some
returns-in-len1-up-len1-up-clause-some c =
    let replies = c.args.self.now.replies.now in
    let credits = c.args.self.now.credits.now in
    credit_first _ replies credits _ (first_and_others _ credits (grind (arith, nat_tests))) c.requires (reply_younger _ _ replies (sym c.is_before.ensures ∙ c.if-is_before.true))

pub returns-in-len1-up-len1-up-clause-by_age : goal.returns-in-len1-up-len1-up-clause-by_age
returns-in-len1-up-len1-up-clause-by_age c = others_by_age c.args.self.now.credits.now (grind (arith, nat_tests)) c.requires

pub returns-in-len1-up-default-clause-some : goal.returns-in-len1-up-default-clause-some
returns-in-len1-up-default-clause-some c =
    let replies = c.args.self.now.replies.now in
    let credits = c.args.self.now.credits.now in
    reply_first _ replies credits _ (first_and_others _ replies (grind (arith, nat_tests))) (grind (arith, nat_tests, none_before, none_before_first))
