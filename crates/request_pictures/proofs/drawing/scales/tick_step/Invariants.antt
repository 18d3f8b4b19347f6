-- Each power of ten in turn; with each distance so far there are too many ticks.
use Rattle.std.proofs.Common.{◌≡◌, ◌*◌, ◌^◌}
use Rattle.request_pictures.proofs.TickSteps.{HaveMoreTicks}
use Rattle.request_pictures.proofs.drawing.scales.tick_step.Given as goal

abbrev pub invariant-powers : goal.invariant-powers
invariant-powers l = (l.power ≡ 10 ^ l._place) × HaveMoreTicks l.span l.most (3 * l._place)
