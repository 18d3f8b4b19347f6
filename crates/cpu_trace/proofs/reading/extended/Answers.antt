use Rattle.std.proofs.Common.{◌+◌, ◌^◌, ◌<◌, ◌≤◌, ◌++◌, length, length-append, Some, arith, sym, ap, ◌∙◌}
use Rattle.std.proofs.lemmas.Bool.{false≢true}
use Rattle.cpu_trace.specs.Lines.{entries_in}
use Rattle.cpu_trace.specs.Reading.{appended}
use Rattle.cpu_trace.proofs.Kept.{kept-short, kept-long}
use Rattle.cpu_trace.proofs.reading.extended.Goals as goal

pub returns-then-not-has_room : goal.returns-then-not-has_room
returns-then-not-has_room c =
    let more = entries_in c.args.line in
    let full : length c.in-Some.entries + length more ≤ 2 ^ 62 → ⊥ = λ h. false≢true (sym c.if-not-has_room.true ∙ c.has_room.ensures.1 h) in
    let long : 2 ^ 62 < length (c.in-Some.entries ++ more) = omega (arith, full, length-append c.in-Some.entries more) in
    sym (ap (λ so_far. appended so_far more) c.in-Some.is ∙ kept-long (c.in-Some.entries ++ more) long)

pub returns : goal.returns
returns c =
    let more = entries_in c.args.line in
    let short : length (c.in-Some.entries ++ more) ≤ 2 ^ 62 = omega (arith, c.has_room.ensures.0 c.if-not-has_room.false, length-append c.in-Some.entries more) in
    ap Some c.in_ok-add_line.ensures ∙ sym (ap (λ so_far. appended so_far more) c.in-Some.is ∙ kept-short (c.in-Some.entries ++ more) short)
