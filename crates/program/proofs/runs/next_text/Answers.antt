use Rattle.std.proofs.Common.{◌≡◌, Some, map, get_or, sym, ap, ◌∙◌}
use Rattle.std.proofs.Math.ListN.{get_or-map}
use Rattle.program.proofs.runs.next_text.Goals as goal

-- What the earlier path holds is what this one holds, since they are the same.
pub returns-in_ok-copy-in-Some-clause-text : goal.returns-in_ok-copy-in-Some-clause-text
returns-in_ok-copy-in-Some-clause-text g c = λ tells.
    let paths = c.args.paths.now in
    let first = c.in-Some.first in
    let given = c.in-Some.ensures {u = tt} in
    let held = g.F.FileSet.held c.args.files.now in
    let path_is : get_or (map (λ p. p.now) paths) first c.args.path.now ≡ c.args.path.now = get_or-map (λ p. p.now) paths first c.args.path ∙ given.same in
    let text_is : get_or c.args.texts.now first c.index-texts-first.result ≡ c.in_ok-copy-in-Some.field-0 = sym c.index-texts-first.is ∙ sym (c.in_ok-copy-in-Some.ensures {u = tt}) in
    ap held (sym path_is) ∙ c.requires.read tells first c.args.path.now c.index-texts-first.result given.before ∙ ap Some text_is
