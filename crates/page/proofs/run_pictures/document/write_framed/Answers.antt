-- The head, the contents and the end.
use Rattle.page.proofs.Documents.{written_whole}
use Rattle.page.proofs.run_pictures.document.write_framed.Goals as goal

pub returns : goal.returns
returns g c =
    let held = g.W.Write.contents in
    written_whole c.write_all-3.result (held c.args.writer.now) (held c.write_all.new.self) (held c.write_all-2.new.self) (held c.write_all-3.new.self) c.as_bytes.result.now c.as_bytes-2.result.now
    c.as_bytes-3.result.now c.as_bytes.ensures.value c.as_bytes-3.ensures.value c.in_ok-write_all.ensures.bytes c.in_ok-write_all-2.ensures.bytes c.write_all-3.ensures.bytes
