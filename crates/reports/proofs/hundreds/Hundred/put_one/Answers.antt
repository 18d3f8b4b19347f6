use Rattle.std.proofs.Common.{◌≡◌, ◌+◌, ◌-◌, ◌*◌, ◌/◌, ◌%◌, [], ◌∷◌, ◌++◌, drop, decimal, ap, sym, ◌∙◌, arith, append_assoc}
use Rattle.std.proofs.lemmas.List.{drop-drop, drop-append-le}
use Rattle.reports.proofs.HundredLemmas.{two_last}
use Rattle.reports.proofs.hundreds.Hundred.put_one.Goals as goal

pub returns-clause-text : goal.returns-clause-text
returns-clause-text c =
    let of = c.args.self.now in
    let line = c.args.line.now in
    let end = c.args.end in
    let hundreds = of.first / 100 in
    let past = c.args.cycle - of.first in
    let is : 100 * hundreds + past ≡ c.args.cycle = omega (arith, of.whole, c.requires.first) in
    let last = two_last hundreds past (omega (arith, of.some)) (omega (arith, c.requires.last, c.requires.first)) (omega (arith, is, c.ranges.cycle.fits)) in
    let ends : end - 18 + 16 ≡ end - 2 = omega (arith, c.requires.place) in
    sym (drop-drop of.start (end - 18) c.put_all.new.line)
    ∙ ap (drop of.start) c.put_all.ensures
    ∙ drop-append-le of.start of.digits _ (omega (arith, of.within))
    ∙ (λ i. of.common i ++ drop (ends i) c.put_two_digits.new.line)
    ∙ ap (λ t. decimal hundreds ++ t) c.put_two_digits.ensures
    ∙ sym (append_assoc (decimal hundreds) ((48 + past / 10) ∷ (48 + past % 10) ∷ []) (drop end line))
    ∙ ap (λ t. t ++ drop end line) (sym last ∙ ap decimal is)
