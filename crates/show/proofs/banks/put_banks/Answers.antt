-- The head, the headings, and a line for each bank.
use Rattle.std.proofs.Common.{◌++◌, ap₂, length, append_assoc, append-nil, refl}
use Rattle.std.specs.Prelude.{codes}
use Rattle.show.specs.Banks.{banks_head, banks_text, bank_line}
use Rattle.show.specs.Rows.{bank_headings}
use Rattle.show.specs.Tables.{headings_text}
use Rattle.measures.proofs.Texts.{words_as, words_both}
use Rattle.measures.proofs.Parts.{part_more, parts_all}
use Rattle.show.proofs.banks.put_banks.Goals as goal

pub loop-counts-init : goal.loop-counts-init
loop-counts-init c =
    let head = banks_head c.args.channel (length c.args.banks.now) in
    let headings = words_as (ap₂ headings_text c.table_of_banks.ensures.label_is c.table_of_banks.ensures.headings_are) c.put_headings.ensures in
    words_as (simp (append-nil, append_assoc) refl) (words_both (words_as {words = head} (simp append_assoc refl) c.write.ensures.output) headings)

pub loop-counts-preserved : goal.loop-counts-preserved
loop-counts-preserved c =
    part_more bank_line c.args.banks.now c.loop-counts.counts-index _ (banks_head c.args.channel (length c.args.banks.now) ++ headings_text (codes "bank") bank_headings) c.loop-counts-test.true c.loop-counts.invariant
    c.put_bank.ensures

pub returns : goal.returns
unfolding banks_text
returns c =
    parts_all bank_line c.args.banks.now c.loop-counts.counts-index (banks_head c.args.channel (length c.args.banks.now) ++ headings_text (codes "bank") bank_headings) c.loop-counts-test.false c.loop-counts.invariant
