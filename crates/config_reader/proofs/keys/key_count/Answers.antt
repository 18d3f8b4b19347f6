use Rattle.std.proofs.Common.{◌≡◌, ◌∙◌, sym, length, arith}
use Rattle.config_reader.proofs.TableViews.{count_of-view}
use Rattle.config_reader.proofs.keys.key_count.Goals as goal

pub returns : goal.returns
returns c =
    let counted : c.len.result ≡ length c.args.table.now.entries = omega arith in
    counted ∙ sym (count_of-view c.args.table.now.entries)
