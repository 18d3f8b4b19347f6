use Rattle.std.proofs.Common.{◌≡◌, ◌+◌, ◌-◌, ◌++◌, take, drop, ap, ◌∙◌, arith, length-take-le}
use Rattle.std.proofs.lemmas.List.{take_all}
use Rattle.reports.proofs.HundredLemmas.{piece_behind}
use Rattle.reports.proofs.hundreds.put_all.Goals as goal

pub returns : goal.returns
returns c =
    let line = c.args.line.now in
    let digits = c.args.digits.now in
    let place = c.args.place in
    let same : take 16 digits ≡ digits = take_all 16 digits (omega (arith, c.told-digits)) in
    piece_behind line (take 16 digits) place (256 - place) 16 (length-take-le 16 digits (omega (arith, c.told-digits))) (omega (arith, c.told-line, c.requires)) (omega (arith, c.requires))
    ∙ ap (λ t. t ++ drop (place + 16) line) same
