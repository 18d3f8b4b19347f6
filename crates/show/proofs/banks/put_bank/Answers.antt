-- The label and the numbers, below the headings of banks.
use Rattle.std.proofs.Common.{ap₂}
use Rattle.measures.proofs.Texts.{words_as}
use Rattle.show.specs.Banks.{bank_label}
use Rattle.show.specs.Tables.{row_text}
use Rattle.show.proofs.banks.put_bank.Goals as goal

pub returns : goal.returns
returns c =
    words_as (ap₂ (λ headings row. row_text headings (bank_label c.args.counts.now.bank) row) c.table_of_banks.ensures.headings_are c.bank_row.ensures)
    (c.put_row.ensures (bank_label c.args.counts.now.bank) c.bank_label-label.ensures)
