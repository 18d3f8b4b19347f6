use Rattle.std.proofs.Common.{◌≡◌, drop, subst, arith}
use Rattle.command_table.specs.Lefts.{AllAfter}
use Rattle.command_table.proofs.Cutting.{front-up-to, rest-after}
use Rattle.command_table.proofs.left.Left.count_up_to.Goals as goal

pub returns-clause-before : goal.returns-clause-before
returns-clause-before c =
    let same : c.loop-low.high ≡ c.loop-low.low = omega arith in
    front-up-to c.args.self.now c.loop-low.low c.args.cycle c.loop-low.invariant.before (subst (λ n. AllAfter c.args.cycle (drop n c.args.self.now)) same c.loop-low.invariant.behind)

pub returns-clause-behind : goal.returns-clause-behind
returns-clause-behind c =
    let same : c.loop-low.high ≡ c.loop-low.low = omega arith in
    rest-after c.args.self.now c.loop-low.low c.args.cycle c.loop-low.invariant.before (subst (λ n. AllAfter c.args.cycle (drop n c.args.self.now)) same c.loop-low.invariant.behind)
