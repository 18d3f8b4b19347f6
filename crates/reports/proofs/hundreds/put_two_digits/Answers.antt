use Rattle.std.proofs.Common.{◌≡◌, ◌+◌, ◌-◌, ◌++◌, length, drop, ap, sym, ◌∙◌, arith}
use Rattle.std.proofs.lemmas.List.{drop-drop}
use Rattle.reports.proofs.HundredLemmas.{three_digits}
use Rattle.reports.proofs.hundreds.put_two_digits.Goals as goal

pub write_digits-requires : goal.write_digits-requires
write_digits-requires c =
    let long = ap length (three_digits c.args.past c.requires.past) in
    (omega (arith, long, c.requires.place), omega (arith, c.requires.place, c.told-line))

pub returns : goal.returns
returns c =
    let three = three_digits c.args.past c.requires.past in
    let long = ap length three in
    let at : c.args.end - 2 ≡ c.write_digits.result + 1 = omega (arith, c.write_digits.ensures.start, long, c.requires.place) in
    ap (λ k. drop k c.write_digits.new.buf) at
    ∙ sym (drop-drop 1 c.write_digits.result c.write_digits.new.buf)
    ∙ ap (drop 1) (c.write_digits.ensures.written ∙ ap (λ t. t ++ drop c.args.end c.args.line.now) three)
