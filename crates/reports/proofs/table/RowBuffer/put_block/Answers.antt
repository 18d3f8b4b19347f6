use Rattle.std.proofs.Common.{◌≡◌, ◌≢◌, [], sym, ◌∙◌}
use Rattle.std.proofs.lemmas.Bool.{false≢true}
use Rattle.std.proofs.lemmas.List.{append-nil}
use Rattle.csv.specs.Writing.{writer_setup}
use Rattle.csv.specs.declared.writer.QuoteStyle.TheVariants as style
use Rattle.reports.specs.Rows.{ended}
use Rattle.reports.proofs.BlockLemmas.{row_text-ended}
use Rattle.reports.proofs.table.RowBuffer.put_block.Goals as goal

pub returns-clause-waiting : goal.returns-clause-waiting
returns-clause-waiting c =
    let table = c.args.self.now in
    let plain : (writer_setup table.rows).style ≢ style.NonNumeric = rw table.plain (λ e. cc e) in
    let some : ended c.text.result.now ≡ [] → ⊥ = λ e. false≢true (sym c.if-is_empty.false ∙ c.is_empty.ensures.1 (sym c.text.ensures ∙ e)) in
    let wrote = c.in-Ok.ensures.bytes table.no_field table.no_byte plain in
    let grown = rw (table.plain, row_text-ended c.text.result.now some, c.text.ensures) at wrote in
    rw c.clear.ensures (append-nil _ ∙ grown)
