use Rattle.std.proofs.Common.{ap, ◌∙◌, ◌++◌, codes, decimal, append_assoc, List, ℕ}
use Rattle.refusal.proofs.warning.push_fitting.Goals as goal

pub returns-in-Some-clause-text : goal.returns-in-Some-clause-text
returns-in-Some-clause-text c =
    let before : List ℕ = c.args.line.now in
    let words : List ℕ = codes "; with --cycles " in
    let digits : List ℕ = decimal c.in-Some.cycles in
    let last : List ℕ = codes " it has no more than that" in
    rw c.in-Some.is
    (c.push.ensures.text ∙ ap (λ (s : List ℕ). s ++ last) (c.push_number.ensures.text ∙ append_assoc before words digits)
    ∙ append_assoc before (words ++ digits) last)
