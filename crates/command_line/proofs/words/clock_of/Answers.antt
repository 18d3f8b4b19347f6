use Rattle.std.proofs.Common.{◌∙◌, refl, sym, subst, codes, Option, None}
use Rattle.std.proofs.lemmas.Result.{IfOk-weaker, IfErr-weaker}
use Rattle.clap.specs.Words.{Text, found_of}
use Rattle.clap.proofs.WalkLemmas.{first_value-rows}
use Rattle.command_line.specs.Ask.{IsClock, IsNoClock}
use Rattle.command_line.proofs.words.clock_of.Goals as goal

pub returns-in-Some-clause-given : goal.returns-in-Some-clause-given
returns-in-Some-clause-given c =
    let there = sym (first_value-rows (found_of c.args.found.now) (codes "mhz")) ∙ sym (rw c.in-Some.is at c.get_str.ensures) in
    IfOk-weaker c.clock_named.result _ _ (λ khz named. subst (λ (o : Option Text). IsClock o khz) (sym there) named) c.clock_named.ensures.named

pub returns-in-Some-clause-refused : goal.returns-in-Some-clause-refused
returns-in-Some-clause-refused c =
    let there = sym (first_value-rows (found_of c.args.found.now) (codes "mhz")) ∙ sym (rw c.in-Some.is at c.get_str.ensures) in
    IfErr-weaker c.clock_named.result _ _ (λ e no. (no.0, subst (λ (o : Option Text). IsNoClock o) (sym there) no.1)) c.clock_named.ensures.refused

pub returns-in-None-clause-given : goal.returns-in-None-clause-given
returns-in-None-clause-given c =
    let none = sym (first_value-rows (found_of c.args.found.now) (codes "mhz")) ∙ sym (rw c.in-None.is at c.get_str.ensures) in
    subst (λ (o : Option Text). IsClock o None) (sym none) refl
