use Rattle.std.proofs.Common.{arith}
use Rattle.units.proofs.LeastWord.{least-all, least-since}
use Rattle.in_place.proofs.taking_turns.next_wake.Goals as goal

pub returns-clause-sleep : goal.returns-clause-sleep
returns-clause-sleep c = λ k d l. let least = least-all c.args.words.now k d l in omega (arith, least, c.least.ensures)

pub returns-clause-since : goal.returns-clause-since
returns-clause-since c = λ cycle l sleep. let least = least-since c.args.words.now cycle (omega (arith, l, c.ranges.limit.fits)) sleep in omega (arith, least, l, c.least.ensures)
