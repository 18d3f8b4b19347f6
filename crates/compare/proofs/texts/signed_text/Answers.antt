use Rattle.std.proofs.Common.{◌≡◌, ◌++◌, append_assoc, rules}
use Rattle.std.proofs.lemmas.Result.{IfOk-weaker}
use Rattle.measures.specs.Number.{tenths_text}
use Rattle.compare.specs.Texts.{signed_text}
use Rattle.compare.proofs.texts.signed_text.Goals as goal

pub returns : goal.returns
returns c =
    let signed : signed_text c.args.sign.now c.args.tenths ≡ c.args.sign.now ++ tenths_text c.args.tenths = search rules in
    IfOk-weaker c.format.result _ _ (λ text is. rw signed (simp append_assoc is)) c.format.ensures.ok
