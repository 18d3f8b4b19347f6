-- The next message by age is the first credit or the first reply.
use Rattle.std.proofs.Common.{◌∙◌, arith}
use Rattle.std.proofs.lemmas.Bool.Decides.{nat_tests}
use Rattle.core_window.proofs.Arriving.{arrival-credit, arrival-both}
use Rattle.core_window.proofs.receive.Arriving.first_arrival.Goals as goal

pub returns-in-empty-len1-up : goal.returns-in-empty-len1-up
returns-in-empty-len1-up c =
    arrival-credit c.args.until _ c.args.self.now.replies.now c.args.self.now.credits.now (grind (arith, nat_tests)) (grind (arith, nat_tests)) c.requires

pub returns-in-len1-up-len1-up : goal.returns-in-len1-up-len1-up
returns-in-len1-up-len1-up c =
    c.min.ensures ∙ arrival-both c.args.until _ c.args.self.now.replies.now c.args.self.now.credits.now (grind (arith, nat_tests)) (grind (arith, nat_tests)) c.requires
