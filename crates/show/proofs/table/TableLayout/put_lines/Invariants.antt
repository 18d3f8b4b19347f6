-- The headings, and the lines so far.
use Rattle.std.proofs.Common.{◌++◌}
use Rattle.std.specs.List.{flat_map}
use Rattle.sim_base.specs.History.{below}
use Rattle.measures.specs.Texts.{PutsWords}
use Rattle.show.specs.Tables.{headings_text, line_text, headings_of}
use Rattle.show.proofs.table.TableLayout.put_lines.Given as goal

abbrev pub invariant-loop-place : goal.invariant-loop-place
invariant-loop-place l =
    PutsWords (headings_text l.self.label.now (headings_of l.self) ++ flat_map (line_text (headings_of l.self) l.summarized l.rows) (below l.place)) l.fn.out l.out
