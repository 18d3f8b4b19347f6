-- The entries so far.
use Rattle.std.proofs.Common.{◌++◌, take}
use Rattle.std.specs.Prelude.{codes}
use Rattle.std.specs.List.{flat_map}
use Rattle.measures.specs.Texts.{PutsWords}
use Rattle.request_pictures.specs.Legends.{entry_text}
use Rattle.request_pictures.proofs.drawing.markup.put_legend.Given as goal

abbrev pub invariant-loop-entry : goal.invariant-loop-entry
invariant-loop-entry l = PutsWords (codes "<ul class=\"legend\">" ++ flat_map entry_text (take l.entry-index l.entries)) l.fn.out l.out
