-- The numbers so far.
use Rattle.std.proofs.Common.{◌++◌}
use Rattle.std.specs.List.{flat_map}
use Rattle.sim_base.specs.History.{below}
use Rattle.measures.specs.Texts.{PutsWords, flush_right}
use Rattle.show.specs.Tables.{number_at, headings_of}
use Rattle.show.proofs.table.TableLayout.put_line.Given as goal

abbrev pub invariant-loop-place : goal.invariant-loop-place
invariant-loop-place l = PutsWords (flush_right 8 l.label ++ flat_map (number_at (headings_of l.self) l.row) (below l.place)) l.fn.out l.out
