use Rattle.std.proofs.Common.{◌≡◌, ◌<◌, ℕ, List, [], Bor, length, get_or, sym, ap, ◌∙◌, rules}
use Rattle.std.proofs.lemmas.List.{get_or_default}
use Rattle.std.proofs.lemmas.Slice.Eq.{bytes_eq-Decides}
use Rattle.simulation.proofs.input.earlier.Goals as goal

pub returns-then-eq-clause-same : goal.returns-then-eq-clause-same
returns-then-eq-clause-same c =
    let texts = c.args.texts.now in
    let first = c.loop-first.first in
    let within : first < length texts = search rules in
    let none : Bor (List ℕ) = record { ref_ptr = (0, 0); now = [] } in
    let same : (get_or texts first none).now ≡ c.args.text.now = (bytes_eq-Decides _ _).0 (sym c.eq.ensures ∙ c.if-eq.true) in
    ap (λ t. t.now) (get_or_default texts first c.args.text none within) ∙ same
