-- The first credit is the next message by age, where it is before the first reply, or there is none.
use Rattle.std.proofs.Common.{sym, ◌∙◌, arith}
use Rattle.std.proofs.lemmas.Bool.Decides.{nat_tests}
use Rattle.core_window.proofs.Arriving.{others_by_age, credit_first, no_reply, reply_younger, reply_first, none_before, none_before_first, first_and_others}
use Rattle.core_window.proofs.receive.Arriving.due_credit.Goals as goal

pub returns-in-empty-len1-up-clause-some : goal.returns-in-empty-len1-up-clause-some
returns-in-empty-len1-up-clause-some c =
    let replies = c.args.self.now.replies.now in
    let credits = c.args.self.now.credits.now in
    record {
      first = first_and_others _ credits (grind (arith, nat_tests));
      next = credit_first _ replies credits _ (first_and_others _ credits (grind (arith, nat_tests))) c.requires (no_reply _ replies (grind (arith, nat_tests)));
      by_age = others_by_age credits (grind (arith, nat_tests)) c.requires;
    }

pub returns-in-len1-up-len1-up-clause-some : goal.returns-in-len1-up-len1-up-clause-some
returns-in-len1-up-len1-up-clause-some c =
    let replies = c.args.self.now.replies.now in
    let credits = c.args.self.now.credits.now in
    record {
      first = first_and_others _ credits (grind (arith, nat_tests));
      next = credit_first _ replies credits _ (first_and_others _ credits (grind (arith, nat_tests))) c.requires (reply_younger _ _ replies (sym c.is_before.ensures ∙ c.if-is_before.true));
      by_age = others_by_age credits (grind (arith, nat_tests)) c.requires;
    }

pub returns-in-len1-up-default-clause-none : goal.returns-in-len1-up-default-clause-none
returns-in-len1-up-default-clause-none c none m later e =
    reply_first m c.args.self.now.replies.now c.args.self.now.credits.now later e (grind (arith, nat_tests, none_before, none_before_first))
