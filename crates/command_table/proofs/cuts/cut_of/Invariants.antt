-- Some row of the lists so far is up to the cycle.
use Rattle.std.proofs.Common.{take, IfSome}
use Rattle.command_table.proofs.Pieces.{HaveUpTo}
use Rattle.command_table.proofs.cuts.cut_of.Given as goal

abbrev pub invariant-loop-left : goal.invariant-loop-left
invariant-loop-left l = IfSome l.least (HaveUpTo (take l.left-index l.lefts))
