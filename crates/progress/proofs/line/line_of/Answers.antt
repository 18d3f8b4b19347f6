-- The options of the format are these numbers.
use Rattle.std.proofs.Common.{◌≡◌, IfOk, string_bytes, ◌∷◌}
use Rattle.std.specs.Fmt.{styled_text}
use Rattle.progress.proofs.line.line_of.Goals as goal

pub returns : goal.returns
returns c =
    let h : IfOk c.format.result (λ s. string_bytes s ≡ 13 ∷ styled_text c.laid_out.result c.args.text.now) = c.format.ensures.ok in
    rw c.laid_out.ensures at h
