use Rattle.std.proofs.Common.{◌∙◌, refl, sym, subst, codes, Option}
use Rattle.std.proofs.lemmas.Result.{IfOk-weaker, IfErr-weaker}
use Rattle.clap.specs.Words.{Text, found_of}
use Rattle.clap.proofs.WalkLemmas.{first_value-rows}
use Rattle.command_line.specs.Ask.{IsShare, IsNoShare}
use Rattle.command_line.specs.declared.words.Share.TheVariants.{Auto}
use Rattle.command_line.proofs.words.share_of.Goals as goal

pub returns-in-Some-clause-given : goal.returns-in-Some-clause-given
returns-in-Some-clause-given c =
    let there = sym (first_value-rows (found_of c.args.found.now) (codes "share")) ∙ sym (rw c.in-Some.is at c.get_str.ensures) in
    IfOk-weaker c.share_named.result _ _ (λ share named. subst (λ (o : Option Text). IsShare o share) (sym there) named) c.share_named.ensures.named

pub returns-in-Some-clause-refused : goal.returns-in-Some-clause-refused
returns-in-Some-clause-refused c =
    let there = sym (first_value-rows (found_of c.args.found.now) (codes "share")) ∙ sym (rw c.in-Some.is at c.get_str.ensures) in
    IfErr-weaker c.share_named.result _ _ (λ e no. (no.0, subst (λ (o : Option Text). IsNoShare o) (sym there) no.1)) c.share_named.ensures.refused

pub returns-in-None-clause-given : goal.returns-in-None-clause-given
returns-in-None-clause-given c =
    let none = sym (first_value-rows (found_of c.args.found.now) (codes "share")) ∙ sym (rw c.in-None.is at c.get_str.ensures) in
    subst (λ (o : Option Text). IsShare o Auto) (sym none) refl
