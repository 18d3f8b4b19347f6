-- The head, and the table below it.
use Rattle.std.proofs.Common.{length, append_assoc, refl}
use Rattle.show.specs.Requests.{waits_head}
use Rattle.measures.proofs.Texts.{words_as, puts_as}
use Rattle.show.proofs.Texts.{put_below, table_as}
use Rattle.show.proofs.requests.put_waits.Goals as goal

pub returns : goal.returns
returns c =
    let head = waits_head (length c.args.requests.now) in
    put_below head (words_as {words = head} (simp append_assoc refl) c.write.ensures.output)
    (puts_as (λ text table. table_as c.args.options.all text refl c.wait_headings.ensures refl table) (c.put.ensures _ c.wait_rows.ensures))
