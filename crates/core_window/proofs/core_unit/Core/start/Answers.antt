-- A core that has just started stands for no steps and no messages.
use Rattle.std.proofs.Common.{rules, refl, arith}
use Rattle.core_window.proofs.Starting.{start-stands}
use Rattle.core_window.proofs.core_unit.Core.start.Goals as goal

pub returns : goal.returns
returns c =
    start-stands c.args.config.now c.args.id c.args.trace _
    (c.in_ok-copy.ensures {u = tt})
    refl
    (search rules)
    refl
    (c.in_ok-outstanding.ensures {u = tt})
    (c.in_ok-credits.ensures {u = tt})
    c.new.ensures
    (omega (arith, c.len.ensures.value))
