use Rattle.std.proofs.Common.{sym, subst, length, string_bytes, IfOk}
use Rattle.measures.specs.Texts.{GoesOnWithRoom}
use Rattle.measures.proofs.text_builder.TextBuilder.push.Goals as goal

-- the text that was made is put, for which there is room
pub returns-in-Ok-clause-room : goal.returns-in-Ok-clause-room
returns-in-Ok-clause-room c =
    let old = c.args.self.now in
    let new = c.push_str.new.self in
    subst (λ made. IfOk made (λ text. GoesOnWithRoom (length (string_bytes text)) old new)) (sym c.in-Ok.is)
    (subst (λ words. GoesOnWithRoom (length words) old new) c.as_str.ensures.value c.push_str.ensures.room)
