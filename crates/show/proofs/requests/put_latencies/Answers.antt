-- The head, and the table and its last line below it.
use Rattle.std.proofs.Common.{◌++◌, ap, ap₂, ◌∙◌, append_assoc, refl}
use Rattle.std.specs.Prelude.{codes}
use Rattle.show.specs.Requests.{latencies_head, replies_of, AreLatencyLines}
use Rattle.show.specs.Rows.{latency_row}
use Rattle.show.specs.Tables.{row_text}
use Rattle.measures.proofs.Texts.{words_as, puts_as, puts_both}
use Rattle.show.proofs.Texts.{put_below, table_as}
use Rattle.show.proofs.requests.put_latencies.Goals as goal

pub returns : goal.returns
returns c = λ requests cores rows_are all_are.
    let head = latencies_head (replies_of c.args.all) in
    let first = words_as {words = (latencies_head c.replies_of-replies.result)} (simp append_assoc refl) c.write.ensures.output in
    let row = latency_row c.args.options.khz c.args.all in
    let table = puts_as (λ text is. table_as c.args.options.all text refl c.latency_headings.ensures refl is) c.put_rows.ensures in
    let last = words_as (ap₂ (λ headings numbers. row_text headings (codes "all") numbers) c.latency_headings.ensures c.latency_row.ensures) (c.put_row.ensures (codes "all") c.from_str-label.ensures.ok) in
    put_below head (puts_as (λ put is. is ∙ ap latencies_head c.replies_of-replies.ensures) first)
    (puts_both {C = AreLatencyLines requests c.args.options cores} (λ x y h k. record {
      rows = c.args.rows.now;
      all = row;
      table = x;
      rows_are = rows_are;
      all_is = record { found = c.args.all; found_is = all_are; row_is = refl };
      table_is = h;
      text_is = ap (λ t. x ++ t) k;
    }) table last)
