use Rattle.std.proofs.Common.{map, Some, ap, refl, inr, sym, ◌∙◌}
use Rattle.clap.specs.Words.{found_of}
use Rattle.clap.proofs.WalkLemmas.{raw_values-rows}
use Rattle.command_line.proofs.words.texts_of.Goals as goal

pub returns-in_ok-from_slice-in-Some-clause-given : goal.returns-in_ok-from_slice-in-Some-clause-given
returns-in_ok-from_slice-in-Some-clause-given c =
    let found = rw c.in-Some.is at c.get_strs.ensures ∙ raw_values-rows (found_of c.args.found.now) c.args.id.now in
    sym found ∙ ap (λ texts. Some (map (λ t. t.now) texts)) (sym c.in_ok-from_slice-in-Some.ensures.items)

pub returns-in-None-clause-missing : goal.returns-in-None-clause-missing
returns-in-None-clause-missing c =
    let found = rw c.in-None.is at c.get_strs.ensures ∙ raw_values-rows (found_of c.args.found.now) c.args.id.now in
    inr (refl, sym found)
