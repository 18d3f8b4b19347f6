-- The lines of the banks so far, below the headings.
use Rattle.std.proofs.Common.{◌++◌, length, take}
use Rattle.std.specs.Prelude.{codes}
use Rattle.std.specs.List.{flat_map}
use Rattle.show.specs.Banks.{banks_head, bank_line}
use Rattle.show.specs.Rows.{bank_headings}
use Rattle.show.specs.Tables.{headings_text}
use Rattle.measures.specs.Texts.{PutsWords}
use Rattle.show.proofs.banks.put_banks.Given as goal

abbrev pub invariant-loop-counts : goal.invariant-loop-counts
invariant-loop-counts l =
    PutsWords ((banks_head l.fn.channel (length l.fn.banks) ++ headings_text (codes "bank") bank_headings) ++ flat_map bank_line (take l.counts-index l.banks)) l.fn.out l.out
