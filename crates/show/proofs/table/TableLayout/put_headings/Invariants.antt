-- The headings so far.
use Rattle.std.proofs.Common.{◌++◌, take}
use Rattle.std.specs.List.{flat_map}
use Rattle.measures.specs.Texts.{PutsWords, flush_right}
use Rattle.show.proofs.Headings.{heading_at}
use Rattle.show.proofs.table.TableLayout.put_headings.Given as goal

abbrev pub invariant-loop-heading : goal.invariant-loop-heading
invariant-loop-heading l = PutsWords (flush_right 8 l.self.label.now ++ flat_map heading_at (take l.heading-index l.heading-items)) l.fn.out l.out
