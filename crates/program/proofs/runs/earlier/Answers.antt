use Rattle.std.proofs.Common.{◌≡◌, ◌<◌, ℕ, List, [], Bor, length, get_or, sym, ap, ◌∙◌, rules}
use Rattle.std.proofs.lemmas.List.{get_or_default}
use Rattle.std.proofs.lemmas.Slice.Eq.{bytes_eq-Decides}
use Rattle.program.proofs.runs.earlier.Goals as goal

pub returns-then-eq-clause-same : goal.returns-then-eq-clause-same
returns-then-eq-clause-same c =
    let paths = c.args.paths.now in
    let first = c.loop-first.first in
    let within : first < length paths = search rules in
    let none : Bor (List ℕ) = record { ref_ptr = (0, 0); now = [] } in
    let same : (get_or paths first none).now ≡ c.args.path.now = (bytes_eq-Decides _ _).0 (sym c.eq.ensures ∙ c.if-eq.true) in
    ap (λ t. t.now) (get_or_default paths first c.args.path none within) ∙ same
